-- Maps with the same under each name are the same, and a change under one name leaves what stands under the others.
use Rattle.std.proofs.Common.{◌≡◌, ℕ, List, [], ◌∷◌, Option, Some, None, Bool, true, false, cond, refl, sym, ap, ap₂, ◌∙◌, subst}
use Rattle.std.specs.declared.cmp.Ordering.{Ordering}
use Rattle.std.specs.declared.cmp.Ordering.TheVariants.{Less, Equal, Greater}
use Rattle.std.specs.Ordering.{is_eq, match_ordering}
use Rattle.std.specs.List.{AllByRecursion}
use Rattle.std.specs.Map.{keys_of, lookup, remove_entry}
use Rattle.std.specs.BTreeMap.{insert_entry, is_at}
use Rattle.std.specs.Cmp.Lexicographic.{nat_list_cmp_total}
use Rattle.std.proofs.lemmas.Map.Text.{is_eq-slice_cmp}
use Rattle.std.proofs.lemmas.Slice.Eq.{bytes_eq-Decides}
use Rattle.std.proofs.lemmas.Map.Keys.{sorted_head, sorted_tail}
use Rattle.ld_tree.specs.Names.{AreInOrder, name_cmp, Sorted, same_sorted}
use Rattle.ld_tree.specs.Maps.{find}
use Rattle.ld_tree.proofs.Order.{less_from_greater}

pub same_name : (a b : List ℕ) → is_eq (name_cmp a b) ≡ true → a ≡ b
same_name a b h = (bytes_eq-Decides a b).0 (sym (is_eq-slice_cmp a b) ∙ h)

pub is_itself : (a b : List ℕ) → a ≡ b → is_eq (name_cmp a b) ≡ true
is_itself a b e = is_eq-slice_cmp a b ∙ (bytes_eq-Decides a b).1 e

some_is : {A : Type 0} (a b : A) → Some a ≡ Some b → a ≡ b
some_is a b e = cc

pub none_is : {A : Type 0} (a : A) → None ≡ Some a → ⊥
none_is a e = cc

module _ {T : Type 0} where
  abbrev pub at : List (List ℕ × T) → List ℕ → Option T
  at es name = lookup (is_at (name_cmp name)) es

  pub here : (name : List ℕ) (e : List ℕ × T) (es : List (List ℕ × T)) → is_eq (name_cmp name e.0) ≡ true → at (e ∷ es) name ≡ Some e.1
  here name e es h = ap (λ b. cond b (Some e.1) (at es name)) h

  pub further : (name : List ℕ) (e : List ℕ × T) (es : List (List ℕ × T)) → is_eq (name_cmp name e.0) ≡ false → at (e ∷ es) name ≡ at es name
  further name e es h = ap (λ b. cond b (Some e.1) (at es name)) h

  module _ (name : List ℕ) (value : T) where
    pub put_there : (es : List (List ℕ × T)) → at (insert_entry name_cmp es name value) name ≡ Some value
    put_there [] = here name (name, value) [] (is_itself name name refl)
    put_there (e ∷ es) = go (put_there es) (name_cmp name e.0) refl
      where
        go : at (insert_entry name_cmp es name value) name ≡ Some value → (o : Ordering) → name_cmp name e.0 ≡ o
            → at (match_ordering o ((name, value) ∷ e ∷ es) ((e.0, value) ∷ es) (e ∷ insert_entry name_cmp es name value)) name ≡ Some value
        go later Less is = here name (name, value) (e ∷ es) (is_itself name name refl)
        go later Equal is = here name (e.0, value) es (ap is_eq is)
        go later Greater is = further name e (insert_entry name_cmp es name value) (ap is_eq is) ∙ later

    module _ (other : List ℕ) (apart : is_eq (name_cmp other name) ≡ false) where
      pub put_beside : (es : List (List ℕ × T)) → at (insert_entry name_cmp es name value) other ≡ at es other
      put_beside [] = further other (name, value) [] apart
      put_beside (e ∷ es) = go (put_beside es) (name_cmp name e.0) refl
        where
          go : at (insert_entry name_cmp es name value) other ≡ at es other → (o : Ordering) → name_cmp name e.0 ≡ o
              → at (match_ordering o ((name, value) ∷ e ∷ es) ((e.0, value) ∷ es) (e ∷ insert_entry name_cmp es name value)) other ≡ at (e ∷ es) other
          go later Less is = further other (name, value) (e ∷ es) apart
          go later Equal is =
              let not : is_eq (name_cmp other e.0) ≡ false = subst (λ n. is_eq (name_cmp other n) ≡ false) (same_name name e.0 (ap is_eq is)) apart in
              further other (e.0, value) es not ∙ sym (further other e es not)
          go later Greater is = ap (λ r. cond (is_eq (name_cmp other e.0)) (Some e.1) r) later

  module _ (name : List ℕ) where
    below : (es : List (List ℕ × T)) → AllByRecursion (λ y. name_cmp name y ≡ Less) (keys_of es) → at es name ≡ None
    below [] h = refl
    below (e ∷ es) h = further name e es (ap is_eq h.0) ∙ below es h.1

    pub take_there : (es : List (List ℕ × T)) → AreInOrder (keys_of es) → at (remove_entry (is_at (name_cmp name)) es) name ≡ None
    take_there [] s = refl
    take_there (e ∷ es) s = go (take_there es (sorted_tail name_cmp e.0 (keys_of es) s)) (is_eq (name_cmp name e.0)) refl
      where
        go : at (remove_entry (is_at (name_cmp name)) es) name ≡ None → (b : Bool) → is_eq (name_cmp name e.0) ≡ b → at (cond b es (e ∷ remove_entry (is_at (name_cmp name)) es)) name ≡ None
        go later true is = below es (subst (λ n. AllByRecursion (λ y. name_cmp n y ≡ Less) (keys_of es)) (sym (same_name name e.0 is)) (sorted_head name_cmp e.0 (keys_of es) s))
        go later false is = further name e (remove_entry (is_at (name_cmp name)) es) is ∙ later

    module _ (other : List ℕ) (apart : is_eq (name_cmp other name) ≡ false) where
      pub take_beside : (es : List (List ℕ × T)) → at (remove_entry (is_at (name_cmp name)) es) other ≡ at es other
      take_beside [] = refl
      take_beside (e ∷ es) = go (take_beside es) (is_eq (name_cmp name e.0)) refl
        where
          go : at (remove_entry (is_at (name_cmp name)) es) other ≡ at es other → (b : Bool) → is_eq (name_cmp name e.0) ≡ b → at (cond b es (e ∷ remove_entry (is_at (name_cmp name)) es)) other ≡ at (e ∷ es) other
          go later true is =
              let not : is_eq (name_cmp other e.0) ≡ false = subst (λ n. is_eq (name_cmp other n) ≡ false) (same_name name e.0 is) apart in
              sym (further other e es not)
          go later false is = ap (λ r. cond (is_eq (name_cmp other e.0)) (Some e.1) r) later

  -- a name before all of them
  under : (a b : List ℕ) (es : List (List ℕ × T)) → name_cmp a b ≡ Less → AllByRecursion (λ z. name_cmp b z ≡ Less) (keys_of es) → at es a ≡ None
  under a b [] lt all = refl
  under a b (e ∷ es) lt all = further a e es (ap is_eq (nat_list_cmp_total.trans a b e.0 lt all.0)) ∙ under a b es lt all.1

  -- the same under each name
  alike : (xs ys : List (List ℕ × T)) → AreInOrder (keys_of xs) → AreInOrder (keys_of ys) → ((name : List ℕ) → at xs name ≡ at ys name) → xs ≡ ys
  alike [] [] s t h = refl
  alike [] (y ∷ ys) s t h = absurd (none_is y.1 (h y.0 ∙ here y.0 y ys (is_itself y.0 y.0 refl)))
  alike (x ∷ xs) [] s t h = absurd (none_is x.1 (sym (h x.0) ∙ here x.0 x xs (is_itself x.0 x.0 refl)))
  alike (x ∷ xs) (y ∷ ys) s t h = go (alike xs ys (sorted_tail name_cmp x.0 (keys_of xs) s) (sorted_tail name_cmp y.0 (keys_of ys) t)) (name_cmp x.0 y.0) refl
    where
      first : at (x ∷ xs) x.0 ≡ Some x.1
      first = here x.0 x xs (is_itself x.0 x.0 refl)

      later : (name : List ℕ) (e : List ℕ × T) (es : List (List ℕ × T)) → AreInOrder (keys_of (e ∷ es)) → name ≡ e.0 → at es name ≡ None
      later name e es o is = below name es (subst (λ n. AllByRecursion (λ z. name_cmp n z ≡ Less) (keys_of es)) (sym is) (sorted_head name_cmp e.0 (keys_of es) o))

      rest : x.0 ≡ y.0 → (name : List ℕ) → (b : Bool) → is_eq (name_cmp name x.0) ≡ b → at xs name ≡ at ys name
      rest is name true e = later name x xs s (same_name name x.0 e) ∙ sym (later name y ys t (same_name name x.0 e ∙ is))
      rest is name false e = sym (further name x xs e) ∙ h name ∙ further name y ys (subst (λ n. is_eq (name_cmp name n) ≡ false) is e)

      go : (((name : List ℕ) → at xs name ≡ at ys name) → xs ≡ ys) → (o : Ordering) → name_cmp x.0 y.0 ≡ o → x ∷ xs ≡ y ∷ ys
      go later Less is =
          let gone : at ys x.0 ≡ None = under x.0 y.0 ys is (sorted_head name_cmp y.0 (keys_of ys) t) in
          absurd (none_is x.1 (sym gone ∙ sym (further x.0 y ys (ap is_eq is)) ∙ sym (h x.0) ∙ first))
      go later Greater is =
          let back : name_cmp y.0 x.0 ≡ Less = less_from_greater y.0 x.0 is in
          let gone : at xs y.0 ≡ None = under y.0 x.0 xs back (sorted_head name_cmp x.0 (keys_of xs) s) in
          absurd (none_is y.1 (sym gone ∙ sym (further y.0 x xs (ap is_eq back)) ∙ h y.0 ∙ here y.0 y ys (is_itself y.0 y.0 refl)))
      go later Equal is =
          let is' : x.0 ≡ y.0 = same_name x.0 y.0 (ap is_eq is) in
          let value : x.1 ≡ y.1 = some_is x.1 y.1 (sym first ∙ h x.0 ∙ here x.0 y ys (ap is_eq is)) in
          ap₂ (λ e es. e ∷ es) (ap₂ (λ n v. (n, v)) is' value)
          (later (λ name. rest is' name (is_eq (name_cmp name x.0)) refl))

  pub same_maps : (s t : Sorted T) → ((name : List ℕ) → find s name ≡ find t name) → s ≡ t
  same_maps s t h = same_sorted s t (alike s.0 t.0 s.1 t.1 h)
