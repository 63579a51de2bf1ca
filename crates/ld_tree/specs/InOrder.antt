-- That names stay in order where an entry is put in or taken out, so that the words of `Maps` are maps.
use Rattle.std.specs.Prelude.{◌≡◌, ℕ, Bool, true, false, cond, List, [], ◌∷◌}
use Rattle.std.proofs.Common.{refl, ap, ◌∙◌}
use Rattle.std.specs.declared.cmp.Ordering.TheVariants.{Less, Equal, Greater}
use Rattle.std.specs.Ordering.{ordering_reverse, match_ordering}
use Rattle.std.specs.Cmp.Lexicographic.{nat_list_cmp_total}
use Rattle.std.specs.List.{AllByRecursion}
use Rattle.std.specs.List.Sorted.{IsStrictlySortedBy}
use Rattle.std.specs.Map.{keys_of, remove_entry}
use Rattle.std.specs.BTreeMap.{insert_entry}
use Rattle.ld_tree.specs.Names.{AreInOrder, name_cmp}

-- the name is before each of the names
abbrev IsBelow : List ℕ → List (List ℕ) → Type 0
IsBelow name names = AllByRecursion (λ y. name_cmp name y ≡ Less) names

less_from_greater : (a b : List ℕ) → name_cmp b a ≡ Greater → name_cmp a b ≡ Less
less_from_greater a b e = nat_list_cmp_total.antisymm a b ∙ ap ordering_reverse e

below_more : (a b : List ℕ) (names : List (List ℕ)) → name_cmp a b ≡ Less → IsBelow b names → IsBelow a names
below_more a b [] p h = tt
below_more a b (n ∷ ns) p h = (nat_list_cmp_total.trans a b n p h.0, below_more a b ns p h.1)

pub in_order_none : AreInOrder []
unfolding IsStrictlySortedBy
in_order_none = tt

module _ {T : Type 0} (name : List ℕ) (value : T) where
  below_insert : (key : List ℕ) (es : List (List ℕ × T)) → name_cmp key name ≡ Less → IsBelow key (keys_of es) → IsBelow key (keys_of (insert_entry name_cmp es name value))
  below_insert key [] p h = (p, tt)
  below_insert key (x ∷ xs) p h =
      elim (name_cmp name x.0) as (λ o. IsBelow key (keys_of (match_ordering o ((name, value) ∷ x ∷ xs) ((x.0, value) ∷ xs) (x ∷ insert_entry name_cmp xs name value)))) [
        | Less ↦ (p, h)
        | Equal ↦ h
        | Greater ↦ (h.0, below_insert key xs p h.1)
      ]

  pub in_order_insert : (es : List (List ℕ × T)) → AreInOrder (keys_of es) → AreInOrder (keys_of (insert_entry name_cmp es name value))
  unfolding IsStrictlySortedBy
  in_order_insert [] h = (tt, tt)
  in_order_insert (x ∷ xs) h =
      elim (name_cmp name x.0) as (λ o. name_cmp name x.0 ≡ o → AreInOrder (keys_of (match_ordering o ((name, value) ∷ x ∷ xs) ((x.0, value) ∷ xs) (x ∷ insert_entry name_cmp xs name value)))) [
        | Less ↦ λ e. ((e, below_more name x.0 (keys_of xs) e h.0), h)
        | Equal ↦ λ e. h
        | Greater ↦ λ e. (below_insert x.0 xs (less_from_greater x.0 name e) h.0, in_order_insert xs h.1)
      ] refl

module _ {T : Type 0} (test : List ℕ → Bool) where
  below_remove : (key : List ℕ) (es : List (List ℕ × T)) → IsBelow key (keys_of es) → IsBelow key (keys_of (remove_entry test es))
  below_remove key [] h = tt
  below_remove key (x ∷ xs) h = elim (test x.0) as (λ b. IsBelow key (keys_of (cond b xs (x ∷ remove_entry test xs)))) [ true ↦ h.1 | false ↦ (h.0, below_remove key xs h.1) ]

  pub in_order_remove : (es : List (List ℕ × T)) → AreInOrder (keys_of es) → AreInOrder (keys_of (remove_entry test es))
  unfolding IsStrictlySortedBy
  in_order_remove [] h = tt
  in_order_remove (x ∷ xs) h = elim (test x.0) as (λ b. AreInOrder (keys_of (cond b xs (x ∷ remove_entry test xs)))) [ true ↦ h.1 | false ↦ (below_remove x.0 xs h.0, in_order_remove xs h.1) ]
