-- Results at work: what stands under a name, and what is put there.
use Rattle.std.proofs.Common.{◌≡◌, ◌∙◌, refl, sym, ap, subst, ℕ, List, [], ◌∷◌, ◌++◌, map, Option, Some, None}
use Rattle.std.specs.Prelude.{option_map, option_copied, is_some, codes}
use Rattle.std.specs.Borrow.{Bor}
use Rattle.std.specs.Map.{keys_of}
use Rattle.std.specs.BTreeMap.{is_at}
use Rattle.ld_tree.specs.Names.{Sorted, AreInOrder, name_cmp, same_sorted}
use Rattle.ld_tree.specs.Maps.{empty, find, put}
use Rattle.ld_tree.specs.formers.entries.Entries.{on_value, to_shape}
use Rattle.ld_tree.specs.declared.tree.Tree.{Tree}
use Rattle.ld_tree.specs.declared.tree.Tree.TheVariants as V
use Rattle.ld_ctx.proofs.Sharing.{lookup_mapped, insert_mapped}
use Rattle.ld_rec.specs.Words.{has}
use Rattle.ld_rec.specs.Kinds.{map_of, list_of}
use Rattle.ld_rec.specs.Expansion.{items_in, add_items, add_reverse, reverse_map_in, put_types, join_types}
use Rattle.ld_expand_value.proofs.Maps.{map_is, put_twice}
use Rattle.ld_expand.specs.declared.making.Slot.{Slot}
use Rattle.ld_expand.specs.declared.making.Slot.TheVariants.{Settled, Open}
use Rattle.ld_expand.specs.Slots.{tree_in, result_of}

pub find_slot : (m : Sorted Slot) (name : List ℕ) → find (result_of m) name ≡ option_map tree_in (find m name)
find_slot m name = lookup_mapped tree_in (is_at (name_cmp name)) m.0

pub put_slot : (m : Sorted Slot) (name : List ℕ) (slot : Slot) → result_of (put m name slot) ≡ put (result_of m) name (tree_in slot)
put_slot m name slot = same_sorted _ _ (insert_mapped tree_in name slot m.0)

pub has_is : (m : Sorted Slot) (made : Sorted Tree) (name : List ℕ) (found : Option (Bor Slot)) → option_copied found ≡ find m name → result_of m ≡ made → is_some found ≡ has made name
has_is m made name None e is = ap is_some (ap (option_map tree_in) e ∙ sym (find_slot m name) ∙ ap (λ (s : Sorted Tree). find s name) is)
has_is m made name (Some slot) e is = ap is_some (ap (option_map tree_in) e ∙ sym (find_slot m name) ∙ ap (λ (s : Sorted Tree). find s name) is)

pub none_made : (m : Sorted Slot) → m ≡ empty → result_of m ≡ empty
none_made m e = ap result_of e ∙ same_sorted (result_of empty) empty refl

-- what is put where the former value was moved out
pub put_back : (old rest new : Sorted Slot) (made : Sorted Tree) (name : List ℕ) (slot : Slot) → ((value : Slot) → put rest name value ≡ put old name value) → new ≡ put rest name slot
    → result_of old ≡ made → result_of new ≡ put made name (tree_in slot)
put_back old rest new made name slot same e is =
    ap result_of (e ∙ same slot) ∙ put_slot old name slot ∙ ap (λ (m : Sorted Tree). put m name (tree_in slot)) is

-- what stood there
pub former_is : (old : Sorted Slot) (made : Sorted Tree) (name : List ℕ) (former : Option Slot) → former ≡ find old name → result_of old ≡ made → option_map tree_in former ≡ find made name
former_is old made name former e is = ap (option_map tree_in) e ∙ sym (find_slot old name) ∙ ap (λ (m : Sorted Tree). find m name) is

module _ (old rest new : Sorted Slot) (made : Sorted Tree) (former : Option Slot) (is : result_of old ≡ made) where
  pub items_added : (name at : List ℕ) (items : List Tree) (settled : Option Tree) (joined : Tree) → at ≡ name → former ≡ find old at → ((value : Slot) → put rest at value ≡ put old at value)
      → settled ≡ option_map tree_in former → joined ≡ list_of (items_in settled ++ items) → new ≡ put rest name (Settled joined) → result_of new ≡ add_items name items made
  items_added name at items settled joined same was free settled-is joined-is e =
      put_back old rest new made name (Settled joined) (subst (λ (n : List ℕ). (value : Slot) → put rest n value ≡ put old n value) same free) e is
      ∙ ap (put made name) (joined-is ∙ ap (λ (o : Option Tree). list_of (items_in o ++ items)) (settled-is ∙ former_is old made name former (was ∙ ap (find old) same) is))

  pub reverse_added : (name at : List ℕ) (items : List Tree) (reverse with : Sorted Tree) → at ≡ codes "@reverse" → former ≡ find old (codes "@reverse")
      → ((value : Slot) → put rest (codes "@reverse") value ≡ put old (codes "@reverse") value) → reverse ≡ reverse_map_in (option_map tree_in former) → with ≡ add_items name items reverse
      → new ≡ put rest at (Open with) → result_of new ≡ add_reverse name items made
  reverse_added name at items reverse with same was free reverse-is with-is e =
      put_back old rest new made (codes "@reverse") (Open with) free (e ∙ ap (λ (n : List ℕ). put rest n (Open with)) same) is
      ∙ ap (λ (m : Sorted Tree). put made (codes "@reverse") (map_of m))
      (with-is ∙ ap (add_items name items) (reverse-is ∙ ap reverse_map_in (former_is old made (codes "@reverse") former was is)))

  pub types_added : (at : List ℕ) (types : Tree) (settled : Option Tree) (joined : Tree) → at ≡ codes "@type" → former ≡ find old (codes "@type")
      → ((value : Slot) → put rest (codes "@type") value ≡ put old (codes "@type") value) → settled ≡ option_map tree_in former → joined ≡ join_types settled types
      → new ≡ put rest at (Settled joined) → result_of new ≡ put_types (Some types) made
  types_added at types settled joined same was free settled-is joined-is e =
      put_back old rest new made (codes "@type") (Settled joined) free (e ∙ ap (λ (n : List ℕ). put rest n (Settled joined)) same) is
      ∙ ap (put made (codes "@type")) (joined-is ∙ ap (λ (o : Option Tree). join_types o types) (settled-is ∙ former_is old made (codes "@type") former was is))

pub one_put : (old new : Sorted Slot) (made : Sorted Tree) (name at : List ℕ) (value : Tree) → at ≡ name → new ≡ put old at (Settled value) → result_of old ≡ made → result_of new ≡ put made name value
one_put old new made name at value same e is =
    ap result_of (e ∙ ap (λ (n : List ℕ). put old n (Settled value)) same) ∙ put_slot old name (Settled value) ∙ ap (λ (m : Sorted Tree). put m name value) is

pub in_order_still : (slots : Sorted Slot) (entries : List (List ℕ × Tree)) → entries ≡ map (on_value tree_in) slots.0 → AreInOrder (keys_of entries)
in_order_still slots entries e = subst (λ (l : List (List ℕ × Tree)). AreInOrder (keys_of l)) (sym e) (to_shape tree_in slots.0 slots.1)

pub settled_is : (slots : Sorted Slot) (made : Sorted Tree) (entries : List (List ℕ × Tree)) → made.0 ≡ entries → entries ≡ map (on_value tree_in) slots.0 → made ≡ result_of slots
settled_is slots made entries e is = same_sorted _ _ (e ∙ is)
