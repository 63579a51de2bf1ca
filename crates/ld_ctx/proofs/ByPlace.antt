-- What stands at a place of a map.
use Rattle.std.proofs.Common.{◌≡◌, ℕ, zero, suc, ◌+◌, List, [], ◌∷◌, ◌++◌, take, refl, sym, ap, ap₂, subst, ◌∙◌, Some, None, add-one}
use Rattle.std.specs.Prelude.{slice_get}
use Rattle.std.specs.declared.cmp.Ordering.TheVariants.{Less}
use Rattle.std.specs.Ordering.{is_eq}
use Rattle.std.specs.List.{AllByRecursion}
use Rattle.std.specs.Map.{keys_of, lookup}
use Rattle.std.specs.BTreeMap.{is_at}
use Rattle.std.proofs.lemmas.Map.Entries.{lookup_head, lookup_tail}
use Rattle.std.proofs.lemmas.Map.Text.{is_eq-slice_cmp}
use Rattle.std.proofs.lemmas.Slice.Eq.{bytes_eq-Decides}
use Rattle.std.proofs.lemmas.Map.Keys.{sorted_head, sorted_tail}
use Rattle.ld_tree.specs.Names.{AreInOrder, name_cmp}
use Rattle.ld_tree.proofs.Order.{greater_from_less}

some_is : {A : Type 0} (a b : A) → Some a ≡ Some b → a ≡ b
some_is a b e = cc

none_is : {A : Type 0} (a : A) → None ≡ Some a → ⊥
none_is a e = cc

below_at : (name : List ℕ) (names : List (List ℕ)) (i : ℕ) (at : List ℕ) → AllByRecursion (λ y. name_cmp name y ≡ Less) names → slice_get names i ≡ Some at → name_cmp name at ≡ Less
below_at name [] i at h e = absurd (none_is at e)
below_at name (n ∷ ns) zero at h e = subst (λ y. name_cmp name y ≡ Less) (some_is n at e) h.0
below_at name (n ∷ ns) (suc i) at h e = below_at name ns i at h.1 e

module _ {T : Type 0} where
  head_found : (x : List ℕ × T) (xs : List (List ℕ × T)) (term : List ℕ) → x.0 ≡ term → lookup (is_at (name_cmp term)) (x ∷ xs) ≡ Some x.1
  head_found x xs term is = lookup_head (is_at (name_cmp term)) x xs (is_eq-slice_cmp term x.0 ∙ (bytes_eq-Decides term x.0).1 (sym is))

  tail_found : (x : List ℕ × T) (xs : List (List ℕ × T)) (term : List ℕ) (i : ℕ) → AreInOrder (keys_of (x ∷ xs)) → slice_get (keys_of xs) i ≡ Some term
      → lookup (is_at (name_cmp term)) (x ∷ xs) ≡ lookup (is_at (name_cmp term)) xs
  tail_found x xs term i h at = lookup_tail (is_at (name_cmp term)) x xs (ap is_eq (greater_from_less term x.0 (below_at x.0 (keys_of xs) i term (sorted_head name_cmp x.0 (keys_of xs) h) at)))

  -- a name that stands at a place is found
  pub is_found : (es : List (List ℕ × T)) (i : ℕ) (term : List ℕ) → AreInOrder (keys_of es) → slice_get (keys_of es) i ≡ Some term → lookup (is_at (name_cmp term)) es ≡ None → ⊥
  is_found [] i term h at none = none_is term at
  is_found (x ∷ xs) zero term h at none = none_is x.1 (sym none ∙ head_found x xs term (some_is x.0 term at))
  is_found (x ∷ xs) (suc i) term h at none = is_found xs i term (sorted_tail name_cmp x.0 (keys_of xs) h) at (sym (tail_found x xs term i h at) ∙ none)

  -- with the value that stands there
  pub found_at : (es : List (List ℕ × T)) (i : ℕ) (term : List ℕ) (d : T) → AreInOrder (keys_of es) → slice_get (keys_of es) i ≡ Some term → lookup (is_at (name_cmp term)) es ≡ Some d
      → slice_get es i ≡ Some (term, d)
  found_at [] i term d h at found = absurd (none_is term at)
  found_at (x ∷ xs) zero term d h at found =
      let name : x.0 ≡ term = some_is x.0 term at in
      let value : x.1 ≡ d = some_is x.1 d (sym (head_found x xs term name) ∙ found) in
      ap₂ (λ n v. Some (n, v)) name value
  found_at (x ∷ xs) (suc i) term d h at found = found_at xs i term d (sorted_tail name_cmp x.0 (keys_of xs) h) at (sym (tail_found x xs term i h at) ∙ found)

  -- no name, no entry
  pub none_at : (es : List (List ℕ × T)) (i : ℕ) → slice_get (keys_of es) i ≡ None → slice_get es i ≡ None
  none_at [] i none = refl
  none_at (x ∷ xs) zero none = absurd (none_is x.0 (sym none))
  none_at (x ∷ xs) (suc i) none = none_at xs i none

module _ {A : Type 0} where
  take_one_more : (xs : List A) (i : ℕ) (x : A) → slice_get xs i ≡ Some x → take i xs ++ x ∷ [] ≡ take (suc i) xs
  take_one_more [] i x at = absurd (none_is x at)
  take_one_more (y ∷ ys) zero x at = ap (λ z. z ∷ []) (sym (some_is y x at))
  take_one_more (y ∷ ys) (suc i) x at = ap (λ l. y ∷ l) (take_one_more ys i x at)

  -- one item more
  pub take_next : (xs : List A) (i : ℕ) (x : A) → Some x ≡ slice_get xs i → take i xs ++ x ∷ [] ≡ take (i + 1) xs
  take_next xs i x at = take_one_more xs i x (sym at) ∙ ap (λ n. take n xs) (sym (add-one i))

  -- and no more
  pub take_whole : (xs : List A) (i : ℕ) → None ≡ slice_get xs i → take i xs ≡ xs
  take_whole [] zero at = refl
  take_whole [] (suc i) at = refl
  take_whole (y ∷ ys) zero at = absurd (none_is y at)
  take_whole (y ∷ ys) (suc i) at = ap (λ l. y ∷ l) (take_whole ys i at)
