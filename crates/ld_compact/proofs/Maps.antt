-- Maps with an entry that is put twice, or found again.
use Rattle.std.proofs.Common.{◌≡◌, ◌∙◌, refl, ap, ℕ, List, [], ◌∷◌, Some, None, cond}
use Rattle.std.specs.Map.{lookup}
use Rattle.std.specs.Ordering.{is_eq, match_ordering, ordering_reverse}
use Rattle.std.proofs.lemmas.Cmp.{nat_list_cmp_total}
use Rattle.std.specs.declared.cmp.Ordering.{Ordering}
use Rattle.std.specs.declared.cmp.Ordering.TheVariants.{Less, Equal, Greater}
use Rattle.std.specs.BTreeMap.{insert_entry, is_at}
use Rattle.ld_tree.specs.Names.{Sorted, name_cmp, same_sorted}
use Rattle.ld_tree.specs.Maps.{find, put}

same_name : (name : List ℕ) → name_cmp name name ≡ Equal
same_name name = elim (name_cmp name name) as (λ o. o ≡ ordering_reverse o → o ≡ Equal) [
  | Less ↦ λ e. cc
  | Equal ↦ λ e. refl
  | Greater ↦ λ e. cc
] (nat_list_cmp_total.antisymm name name)

-- of two values that are put under one name, the second stays
twice : {T : Type 0} (name : List ℕ) (a b : T) (es : List (List ℕ × T)) → insert_entry name_cmp (insert_entry name_cmp es name a) name b ≡ insert_entry name_cmp es name b
twice {T} name a b [] = ap (λ (o : Ordering). match_ordering o ((name, b) ∷ (name, a) ∷ []) ((name, b) ∷ []) ((name, a) ∷ (name, b) ∷ [])) (same_name name)
twice {T} name a b (x ∷ xs) =
    elim (name_cmp name x.0) as (λ o. name_cmp name x.0 ≡ o
    → insert_entry name_cmp (match_ordering o ((name, a) ∷ x ∷ xs) ((x.0, a) ∷ xs) (x ∷ insert_entry name_cmp xs name a)) name b ≡ match_ordering o ((name, b) ∷ x ∷ xs) ((x.0, b) ∷ xs) (x ∷ insert_entry name_cmp xs name b)) [
      | Less ↦ λ e. ap (λ (o : Ordering). match_ordering o ((name, b) ∷ (name, a) ∷ x ∷ xs) ((name, b) ∷ x ∷ xs) ((name, a) ∷ insert_entry name_cmp (x ∷ xs) name b)) (same_name name)
      | Equal ↦ λ e. ap (λ (o : Ordering). match_ordering o ((name, b) ∷ (x.0, a) ∷ xs) ((x.0, b) ∷ xs) ((x.0, a) ∷ insert_entry name_cmp xs name b)) e
      | Greater ↦ λ e. ap (λ (o : Ordering). match_ordering o ((name, b) ∷ x ∷ insert_entry name_cmp xs name a) ((x.0, b) ∷ insert_entry name_cmp xs name a) (x ∷ insert_entry name_cmp (insert_entry name_cmp xs name a) name b)) e
          ∙ ap (λ (es : List (List ℕ × T)). x ∷ es) (twice name a b xs)
    ] refl

pub put_twice : {T : Type 0} (m : Sorted T) (name : List ℕ) (a b : T) → put (put m name a) name b ≡ put m name b
put_twice m name a b = same_sorted _ _ (twice name a b m.0)

there : {T : Type 0} (name : List ℕ) (value : T) (es : List (List ℕ × T)) → lookup (is_at (name_cmp name)) (insert_entry name_cmp es name value) ≡ Some value
there {T} name value [] = ap (λ (o : Ordering). cond (is_eq o) (Some value) None) (same_name name)
there {T} name value (x ∷ xs) =
    elim (name_cmp name x.0) as (λ o. name_cmp name x.0 ≡ o
    → lookup (is_at (name_cmp name)) (match_ordering o ((name, value) ∷ x ∷ xs) ((x.0, value) ∷ xs) (x ∷ insert_entry name_cmp xs name value)) ≡ Some value) [
      | Less ↦ λ e. ap (λ (o : Ordering). cond (is_eq o) (Some value) (lookup (is_at (name_cmp name)) (x ∷ xs))) (same_name name)
      | Equal ↦ λ e. ap (λ (o : Ordering). cond (is_eq o) (Some value) (lookup (is_at (name_cmp name)) xs)) e
      | Greater ↦ λ e. ap (λ (o : Ordering). cond (is_eq o) (Some x.1) (lookup (is_at (name_cmp name)) (insert_entry name_cmp xs name value))) e ∙ there name value xs
    ] refl

-- what was put is found
pub find_put : {T : Type 0} (m : Sorted T) (name : List ℕ) (value : T) → find (put m name value) name ≡ Some value
find_put m name value = there name value m.0
