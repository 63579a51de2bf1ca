-- Results at work: what stands under a name, and what is put there.
use Rattle.std.proofs.Common.{◌≡◌, ◌∙◌, refl, sym, ap, subst, ℕ, Bool, true, false, List, [], ◌∷◌, length, map, Option, Some, None}
use Rattle.std.proofs.Math.Dec.{eqb-suc-zero}
use Rattle.std.specs.Prelude.{option_map, not, ◌==◌, if◌then◌else◌}
use Rattle.std.specs.Map.{keys_of}
use Rattle.std.specs.BTreeMap.{is_at}
use Rattle.ld_tree.specs.Names.{Sorted, AreInOrder, name_cmp, same_sorted}
use Rattle.ld_tree.specs.Maps.{empty, find, put}
use Rattle.ld_tree.specs.formers.entries.Entries.{on_value, to_shape}
use Rattle.ld_tree.specs.declared.tree.Tree.{Tree}
use Rattle.ld_tree.specs.declared.tree.Tree.TheVariants as V
use Rattle.ld_ctx.proofs.Sharing.{lookup_mapped, insert_mapped}
use Rattle.ld_tree.specs.declared.tree.Tree.TheOpen.{Tree-F}
use Rattle.ld_tree.specs.declared.tree.Tree.TheViews as W
use Rattle.ld_rec.specs.Kinds.{map_of, list_of, is_map_in}
use Rattle.ld_compact.specs.Adding.{singles, items_at, appended, add_singles, with_list, add_value, holds_other, entries_at, add_keyed}
use Rattle.ld_compact.specs.declared.making.Slot.{Slot}
use Rattle.ld_compact.specs.declared.making.Slot.TheVariants.{Settled, Open}
use Rattle.ld_compact.specs.Slots.{tree_in, result_of, is_other_slot, are_none, adds_nothing, all_appended, or_null, grown}
use Rattle.ld_compact.proofs.Maps.{put_twice, find_put}

-- ---- Add Value is one entry that is put

appended_after : (entries : Sorted Tree) (name : List ℕ) (there : Tree) (values : List Tree) → add_singles name values (put entries name there) ≡ put entries name (or_null (all_appended (Some there) values))
appended_after entries name there [] = refl
appended_after entries name there (value ∷ values) =
    ap (add_singles name values) (ap (λ (o : Option Tree). put (put entries name there) name (appended o value)) (find_put entries name there) ∙ put_twice entries name there (appended (Some there) value))
    ∙ appended_after entries name (appended (Some there) value) values

true_or_false : {A : Type 0} → true ≡ false → A
true_or_false e = absurd (let wrong : ⊥ = cc in wrong)

pub grown_is : (entries : Sorted Tree) (name : List ℕ) (as_list : Bool) (values : List Tree) → adds_nothing as_list values ≡ false
    → add_singles name values (with_list as_list name entries) ≡ put entries name (grown (find entries name) as_list values)
grown_is entries name true values some = appended_after entries name (list_of (items_at (find entries name))) values
grown_is entries name false [] some = true_or_false some
grown_is entries name false (value ∷ values) some = appended_after entries name (appended (find entries name) value) values

pub nothing_is : (entries : Sorted Tree) (name : List ℕ) (as_list : Bool) (values : List Tree) → adds_nothing as_list values ≡ true → add_singles name values (with_list as_list name entries) ≡ entries
nothing_is entries name true values none = true_or_false (sym none)
nothing_is entries name false [] none = refl
nothing_is entries name false (value ∷ values) none = true_or_false (sym none)

-- by the number of values
pub none_by_length : (values : List Tree) → (length values == 0) ≡ are_none values
none_by_length [] = refl
none_by_length (value ∷ values) = eqb-suc-zero (length values)

-- the same, by the value
pub nothing_added : (entries : Sorted Tree) (name : List ℕ) (as_list : Bool) (value : Tree) (values : List Tree) → values ≡ singles value → adds_nothing as_list values ≡ true → entries ≡ add_value name as_list value entries
nothing_added entries name as_list value values are none = sym (nothing_is entries name as_list values none) ∙ ap (λ (l : List Tree). add_singles name l (with_list as_list name entries)) are

-- ---- slots

pub find_slot : (m : Sorted Slot) (name : List ℕ) → find (result_of m) name ≡ option_map tree_in (find m name)
find_slot m name = lookup_mapped tree_in (is_at (name_cmp name)) m.0

pub put_slot : (m : Sorted Slot) (name : List ℕ) (slot : Slot) → result_of (put m name slot) ≡ put (result_of m) name (tree_in slot)
put_slot m name slot = same_sorted _ _ (insert_mapped tree_in name slot m.0)

pub none_made : (m : Sorted Slot) → m ≡ empty → result_of m ≡ empty
none_made m e = ap result_of e ∙ same_sorted (result_of empty) empty refl

pub slot_other : (m : Sorted Slot) (name : List ℕ) (slot : Slot) → Some slot ≡ find m name → is_other_slot slot ≡ holds_other (find (result_of m) name)
slot_other m name (Settled tree) e = sym (ap holds_other (find_slot m name ∙ ap (option_map tree_in) (sym e)))
slot_other m name (Open entries) e = sym (ap holds_other (find_slot m name ∙ ap (option_map tree_in) (sym e)) ∙ ap (λ (y : Tree-F Tree). not (is_map_in y)) (W.out-roll-Tree (Tree-F.Map entries)))

pub none_other : (m : Sorted Slot) (name : List ℕ) → None ≡ find m name → false ≡ holds_other (find (result_of m) name)
none_other m name e = sym (ap holds_other (find_slot m name ∙ ap (option_map tree_in) (sym e)))

-- what is put where the former value was moved out
pub put_back : (old rest new : Sorted Slot) (made : Sorted Tree) (name : List ℕ) (slot : Slot) → ((value : Slot) → put rest name value ≡ put old name value) → new ≡ put rest name slot
    → result_of old ≡ made → result_of new ≡ put made name (tree_in slot)
put_back old rest new made name slot same e is =
    ap result_of (e ∙ same slot) ∙ put_slot old name slot ∙ ap (λ (m : Sorted Tree). put m name (tree_in slot)) is

-- what stood there
pub former_is : (old : Sorted Slot) (made : Sorted Tree) (name : List ℕ) (former : Option Slot) → former ≡ find old name → result_of old ≡ made → option_map tree_in former ≡ find made name
former_is old made name former e is = ap (option_map tree_in) e ∙ sym (find_slot old name) ∙ ap (λ (m : Sorted Tree). find m name) is

pub one_put : (old new : Sorted Slot) (made : Sorted Tree) (name at : List ℕ) (value : Tree) → at ≡ name → new ≡ put old at (Settled value) → result_of old ≡ made → result_of new ≡ put made name value
one_put old new made name at value same e is =
    ap result_of (e ∙ ap (λ (n : List ℕ). put old n (Settled value)) same) ∙ put_slot old name (Settled value) ∙ ap (λ (m : Sorted Tree). put m name value) is

module _ (old rest new : Sorted Slot) (made : Sorted Tree) (former : Option Slot) (is : result_of old ≡ made) where
  -- a value that was added
  pub value_added : (name at : List ℕ) (as_list : Bool) (value : Tree) (values : List Tree) (settled : Option Tree) (tree : Tree) → at ≡ name → values ≡ singles value → adds_nothing as_list values ≡ false → former ≡ find old name
      → ((slot : Slot) → put rest name slot ≡ put old name slot) → settled ≡ option_map tree_in former → tree ≡ grown settled as_list values → new ≡ put rest at (Settled tree) → result_of new ≡ add_value name as_list value made
  value_added name at as_list value values settled tree same are some was free settled-is tree-is e =
      put_back old rest new made name (Settled tree) free (e ∙ ap (λ (n : List ℕ). put rest n (Settled tree)) same) is
      ∙ ap (put made name) (tree-is ∙ ap (λ (o : Option Tree). grown o as_list values) (settled-is ∙ former_is old made name former was is))
      ∙ sym (grown_is made name as_list values some)
      ∙ ap (λ (l : List Tree). add_singles name l (with_list as_list name made)) are

  -- a value that was added by a key
  pub key_added : (name at key : List ℕ) (as_list : Bool) (value : Tree) (start with : Sorted Tree) → at ≡ name → holds_other (find made name) ≡ false → former ≡ find old name → ((slot : Slot) → put rest name slot ≡ put old name slot)
      → start ≡ entries_at (option_map tree_in former) → with ≡ add_value key as_list value start → new ≡ put rest at (Open with) → result_of new ≡ add_keyed name as_list key value made
  key_added name at key as_list value start with same no-other was free start-is with-is e =
      put_back old rest new made name (Open with) free (e ∙ ap (λ (n : List ℕ). put rest n (Open with)) same) is
      ∙ ap (λ (m : Sorted Tree). put made name (map_of m)) (with-is ∙ ap (add_value key as_list value) (start-is ∙ ap entries_at (former_is old made name former was is)))
      ∙ sym (ap (λ (b : Bool). if b then add_value name as_list (map_of (add_value key as_list value empty)) made else put made name (map_of (add_value key as_list value (entries_at (find made name))))) no-other)

-- beside what is no map
pub beside_added : (made new start entries none : Sorted Tree) (name key : List ℕ) (as_list : Bool) (value : Tree) → holds_other (find made name) ≡ true → none ≡ empty → start ≡ add_value key as_list value none → entries ≡ start
    → new ≡ add_value name as_list (V.Map entries) made → new ≡ add_keyed name as_list key value made
beside_added made new start entries none name key as_list value other is-none start-is entries-is e =
    e ∙ ap (λ (t : Tree). add_value name as_list t made) (sym (V.rolls-Map entries) ∙ ap map_of (entries-is ∙ start-is ∙ ap (add_value key as_list value) is-none))
    ∙ sym (ap (λ (b : Bool). if b then add_value name as_list (map_of (add_value key as_list value empty)) made else put made name (map_of (add_value key as_list value (entries_at (find made name))))) other)

-- the same in a map of trees
pub tree_added : (old rest new : Sorted Tree) (name at : List ℕ) (as_list : Bool) (value : Tree) (values : List Tree) (former : Option Tree) (tree : Tree) → at ≡ name → values ≡ singles value → adds_nothing as_list values ≡ false
    → former ≡ find old name → ((t : Tree) → put rest name t ≡ put old name t) → tree ≡ grown former as_list values → new ≡ put rest at tree → new ≡ add_value name as_list value old
tree_added old rest new name at as_list value values former tree same are some was free tree-is e =
    e ∙ ap (λ (n : List ℕ). put rest n tree) same ∙ free tree ∙ ap (put old name) (tree-is ∙ ap (λ (o : Option Tree). grown o as_list values) was)
    ∙ sym (grown_is old name as_list values some) ∙ ap (λ (l : List Tree). add_singles name l (with_list as_list name old)) are

pub in_order_still : (slots : Sorted Slot) (entries : List (List ℕ × Tree)) → entries ≡ map (on_value tree_in) slots.0 → AreInOrder (keys_of entries)
in_order_still slots entries e = subst (λ (l : List (List ℕ × Tree)). AreInOrder (keys_of l)) (sym e) (to_shape tree_in slots.0 slots.1)

pub settled_is : (slots : Sorted Slot) (made : Sorted Tree) (entries : List (List ℕ × Tree)) → made.0 ≡ entries → entries ≡ map (on_value tree_in) slots.0 → made ≡ result_of slots
settled_is slots made entries e is = same_sorted _ _ (e ∙ is)
