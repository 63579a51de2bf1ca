-- A list of texts, one more at its end.
use Rattle.std.proofs.Common.{◌≡◌, ◌<◌, ℕ, zero, suc, List, [], ◌∷◌, ◌++◌, length, get_or, Option, Some, None, refl, sym, ap, ap₂, ◌∙◌, arith}
use Rattle.ld_tree.specs.declared.tree.Tree.{Tree}
use Rattle.ld_rec.specs.Terms.{texts_of}
use Rattle.ld_rec.specs.Words.{text_of}

some_is : {A : Type 0} (a b : A) → Some a ≡ Some b → a ≡ b
some_is a b e = cc

none_is : {A : Type 0} (a : A) → None ≡ Some a → ⊥
none_is a e = cc

both : Option (List ℕ) → Option (List (List ℕ)) → Option (List (List ℕ))
both (Some t) (Some ts) = Some (t ∷ ts)
both (Some t) None = None
both None b = None

texts_cons : (x : Tree) (xs : List Tree) → texts_of (x ∷ xs) ≡ both (text_of x) (texts_of xs)
unfolding both
texts_cons x xs = go (text_of x) (texts_of xs) refl refl
  where
    go : (a : Option (List ℕ)) (b : Option (List (List ℕ))) → text_of x ≡ a → texts_of xs ≡ b → texts_of (x ∷ xs) ≡ both (text_of x) (texts_of xs)
    go (Some t) (Some ts) e f = rw (e, f) refl
    go (Some t) None e f = rw (e, f) refl
    go None b e f = rw e refl

both_none : (a : Option (List ℕ)) → both a None ≡ None
unfolding both
both_none (Some t) = refl
both_none None = refl

pub texts_push : (xs : List Tree) (ts : List (List ℕ)) (y : Tree) (t : List ℕ) → texts_of xs ≡ Some ts → text_of y ≡ Some t → texts_of (xs ++ y ∷ []) ≡ Some (ts ++ t ∷ [])
unfolding both
texts_push [] ts y t h k = texts_cons y [] ∙ ap (λ a. both a (Some [])) k ∙ ap (λ l. Some (l ++ t ∷ [])) (some_is [] ts h)
texts_push (x ∷ xs) ts y t h k = go (text_of x) (texts_of xs) refl refl (λ us f. texts_push xs us y t f k)
  where
    go : (a : Option (List ℕ)) (b : Option (List (List ℕ))) → text_of x ≡ a → texts_of xs ≡ b
        → ((us : List (List ℕ)) → texts_of xs ≡ Some us → texts_of (xs ++ y ∷ []) ≡ Some (us ++ t ∷ [])) → texts_of (x ∷ (xs ++ y ∷ [])) ≡ Some (ts ++ t ∷ [])
    go (Some u) (Some us) e f more = texts_cons x (xs ++ y ∷ []) ∙ ap₂ both e (more us f) ∙ ap (λ l. Some (l ++ t ∷ [])) (some_is (u ∷ us) ts (sym (texts_cons x xs ∙ ap₂ both e f) ∙ h))
    go (Some u) None e f more = absurd (none_is ts (sym (texts_cons x xs ∙ ap₂ both e f) ∙ h))
    go None b e f more = absurd (none_is ts (sym (texts_cons x xs ∙ ap (λ a. both a (texts_of xs)) e) ∙ h))

pub texts_stop : (xs : List Tree) (i : ℕ) (d : Tree) → i < length xs → text_of (get_or xs i d) ≡ None → texts_of xs ≡ None
unfolding both
texts_stop [] i d lt e = absurd (omega arith)
texts_stop (x ∷ xs) zero d lt e = texts_cons x xs ∙ ap (λ a. both a (texts_of xs)) e
texts_stop (x ∷ xs) (suc i) d lt e = texts_cons x xs ∙ ap (both (text_of x)) (texts_stop xs i d (omega arith) e) ∙ both_none (text_of x)
