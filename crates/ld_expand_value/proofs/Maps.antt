-- A map as the code makes it.
use Rattle.std.proofs.Common.{◌≡◌, ◌∙◌, refl, sym, ap, ℕ, List, [], ◌∷◌, Option, Some}
use Rattle.std.specs.Prelude.{codes}
use Rattle.std.specs.Ordering.{match_ordering, ordering_reverse}
use Rattle.std.proofs.lemmas.Cmp.{nat_list_cmp_total}
use Rattle.std.specs.declared.cmp.Ordering.{Ordering}
use Rattle.std.specs.declared.cmp.Ordering.TheVariants.{Less, Equal, Greater}
use Rattle.std.specs.BTreeMap.{insert_entry}
use Rattle.ld_tree.specs.Names.{Sorted, name_cmp, same_sorted}
use Rattle.ld_tree.specs.declared.tree.Tree.{Tree}
use Rattle.ld_tree.specs.declared.tree.Tree.TheVariants as V
use Rattle.ld_tree.specs.Maps.{empty, find, put}
use Rattle.ld_rec.specs.Kinds.{list_of, map_of, one_entry, text_tree, two_entries}
use Rattle.ld_rec.specs.Values.{put_type, types_in}

pub map_is : (s : Sorted Tree) → V.Map s ≡ map_of s
map_is s = sym (V.rolls-Map s)

-- a map of one entry, and of two
pub one_made : (start made : Sorted Tree) (name : List ℕ) (value : Tree) → made ≡ put start name value → start ≡ empty → V.Map made ≡ one_entry name value
one_made start made name value e none = map_is made ∙ ap map_of (e ∙ ap (λ (s : Sorted Tree). put s name value) none)

pub two_made : (start first made : Sorted Tree) (a b : List ℕ) (x y : Tree) → made ≡ put first b y → first ≡ put start a x → start ≡ empty → V.Map made ≡ two_entries a x b y
two_made start first made a b x y e f none = map_is made ∙ ap map_of (e ∙ ap (λ (s : Sorted Tree). put s b y) (f ∙ ap (λ (s : Sorted Tree). put s a x) none))

same_name : (name : List ℕ) → name_cmp name name ≡ Equal
same_name name = elim (name_cmp name name) as (λ o. o ≡ ordering_reverse o → o ≡ Equal) [
  | Less ↦ λ e. cc
  | Equal ↦ λ e. refl
  | Greater ↦ λ e. cc
] (nat_list_cmp_total.antisymm name name)

-- of two values that are put under one name, the second stays
twice : {T : Type 0} (name : List ℕ) (a b : T) (es : List (List ℕ × T)) → insert_entry name_cmp (insert_entry name_cmp es name a) name b ≡ insert_entry name_cmp es name b
twice {T} name a b [] = ap (λ (o : Ordering). match_ordering o ((name, b) ∷ (name, a) ∷ []) ((name, b) ∷ []) ((name, a) ∷ (name, b) ∷ [])) (same_name name)
twice {T} name a b (x ∷ xs) =
    elim (name_cmp name x.0) as (λ o. name_cmp name x.0 ≡ o
    → insert_entry name_cmp (match_ordering o ((name, a) ∷ x ∷ xs) ((x.0, a) ∷ xs) (x ∷ insert_entry name_cmp xs name a)) name b ≡ match_ordering o ((name, b) ∷ x ∷ xs) ((x.0, b) ∷ xs) (x ∷ insert_entry name_cmp xs name b)) [
      | Less ↦ λ e. ap (λ (o : Ordering). match_ordering o ((name, b) ∷ (name, a) ∷ x ∷ xs) ((name, b) ∷ x ∷ xs) ((name, a) ∷ insert_entry name_cmp (x ∷ xs) name b)) (same_name name)
      | Equal ↦ λ e. ap (λ (o : Ordering). match_ordering o ((name, b) ∷ (x.0, a) ∷ xs) ((x.0, b) ∷ xs) ((x.0, a) ∷ insert_entry name_cmp xs name b)) e
      | Greater ↦ λ e. ap (λ (o : Ordering). match_ordering o ((name, b) ∷ x ∷ insert_entry name_cmp xs name a) ((x.0, b) ∷ insert_entry name_cmp xs name a) (x ∷ insert_entry name_cmp (insert_entry name_cmp xs name a) name b)) e
          ∙ ap (λ (es : List (List ℕ × T)). x ∷ es) (twice name a b xs)
    ] refl

pub put_twice : {T : Type 0} (m : Sorted T) (name : List ℕ) (a b : T) → put (put m name a) name b ≡ put m name b
put_twice m name a b = same_sorted _ _ (twice name a b m.0)

-- the types behind a new one, where the former ones were moved out
pub types_made : (start moved made : Sorted Tree) (text : List ℕ) (former : Option Tree) (types : List Tree) → moved ≡ put start (codes "@type") V.Null → former ≡ find start (codes "@type")
    → types ≡ text_tree text ∷ types_in former → made ≡ put moved (codes "@type") (V.List types) → made ≡ put_type (Some text) start
types_made start moved made text former types e is all last =
    last ∙ ap (λ (m : Sorted Tree). put m (codes "@type") (V.List types)) e ∙ put_twice start (codes "@type") V.Null (V.List types)
    ∙ ap (put start (codes "@type")) (sym (V.rolls-List types) ∙ ap list_of (all ∙ ap (λ (o : Option Tree). text_tree text ∷ types_in o) is))
