-- A node by its `@id` alone.
use Rattle.std.proofs.Common.{◌≡◌, ◌∙◌, refl, sym, ap, subst, ℕ, List, [], Bool, true, false, Option, Some, None, Ok, Err}
use Rattle.std.specs.Prelude.{Result, codes, option_map, if◌then◌else◌}
use Rattle.std.specs.Map.{lookup}
use Rattle.std.specs.BTreeMap.{is_at}
use Rattle.ld_tree.specs.Maps.{empty, put}
use Rattle.ld_tree.specs.Names.{Sorted, name_cmp}
use Rattle.ld_tree.specs.Trees.{member, member_at}
use Rattle.ld_tree.specs.declared.tree.Tree.{Tree, out-Tree}
use Rattle.ld_tree.specs.declared.tree.Tree.TheOpen.{Tree-F}
use Rattle.ld_tree.specs.declared.tree.Tree.TheVariants as V
use Rattle.ld_tree.specs.declared.tree.Tree.TheViews as W
use Rattle.ld_ctx.proofs.Sharing.{lookup_mapped}
use Rattle.ld_rec.specs.declared.stop.Stop.{Stop}
use Rattle.ld_rec.specs.Kinds.{map_of, entries_of, entries_in}
use Rattle.ld_rec.specs.Outcome.{Answer, Outcome, Stock, give, with_value, ◌>>=◌, Refuses}
use Rattle.ld_rec.specs.Records.{Context}
use Rattle.ld_rec.specs.Places.{containers_of}
use Rattle.ld_compact.specs.Adding.{items_at}
use Rattle.ld_compact.specs.Elements.{Whole, Place, Value, Entry, value_at, tree_of, def_at}
use Rattle.ld_compact.specs.Compaction.{alone, entry_alone, map_within, given_or_needed, needed_map, full_becomes, list_or_full, value_or_map, node_becomes, id_rule, compacted_types, typed_becomes}
use Rattle.ld_compact.specs.Steps.{place_of, node_of, beside, all_beside, only_becomes, only_or_value, only_entries}
use Rattle.ld_compact.proofs.Stages.{then_result, then_refuses, then_same}

-- a step that only gives what it got
once : {A B : Type 0} (stock : Stock) (o : Answer A) (f : A → Answer B) → (((o >>= (λ a. give a)) >>= f).run stock).result ≡ ((o >>= f).run stock).result
once {A} {B} stock o f =
    elim (o.run stock).result as (λ r.
    let first : Outcome A = with_value (o.run stock).runs (o.run stock).reads r (λ (a : A). (give a).run stock) in
    (with_value first.runs first.reads first.result (λ (a : A). (f a).run stock)).result ≡ (with_value (o.run stock).runs (o.run stock).reads r (λ (a : A). (f a).run stock)).result) [
      | Ok a ↦ refl
      | Err e ↦ refl
    ]

module _ (stock : Stock) (arrays : Bool) (entry context : Context) (property : Option (List ℕ)) where
  abbrev here : Place
  here = place_of context property Whole

  abbrev full_by : Tree → List Entry → Option Tree → Answer Tree
  full_by only entries types = compacted_types entry (items_at types) >>= typed_becomes arrays entries entry here

  no_types : (id : Option Tree) → member (codes "@type") (alone (codes "@id") id) ≡ None
  no_types None = ap (member_at (codes "@type")) (W.out-roll-Tree (Tree-F.Map empty))
  no_types (Some id) = ap (member_at (codes "@type")) (W.out-roll-Tree (Tree-F.Map _))

  node_only : (value : Option Value) → ((node_becomes arrays (entry_alone (codes "@id") value) (node_of context property [])).run stock).result ≡ ((only_entries context (option_map tree_of value) >>= (λ made. give (map_of made))).run stock).result
  node_only None = refl
  node_only (Some value) = once stock (id_rule context value.0 empty) (λ (made : Sorted Tree). give (map_of made))

  full_only : (value : Option Value) → ((full_becomes arrays (alone (codes "@id") (option_map tree_of value)) (entry_alone (codes "@id") value) entry here).run stock).result
      ≡ ((only_entries context (option_map tree_of value) >>= (λ made. give (map_of made))).run stock).result
  full_only value = ap (λ (types : Option Tree). ((full_by (alone (codes "@id") (option_map tree_of value)) (entry_alone (codes "@id") value) types).run stock).result) (no_types (option_map tree_of value)) ∙ node_only value

  abbrev needed_by : Option Value → Option Value → Bool → Answer Tree
  needed_by value list b = let only : Tree = alone (codes "@id") (option_map tree_of value) in
      if b then list_or_full arrays only (entry_alone (codes "@id") value) entry here list else full_becomes arrays only (entry_alone (codes "@id") value) entry here

  no_list : (value : Option Value) → value_at (codes "@list") (entry_alone (codes "@id") value) ≡ None
  no_list None = refl
  no_list (Some value) = refl

  either_way : (value : Option Value) (b : Bool) → needed_by value None b ≡ full_becomes arrays (alone (codes "@id") (option_map tree_of value)) (entry_alone (codes "@id") value) entry here
  either_way value true = refl
  either_way value false = refl

  needed_only : (value : Option Value) → needed_map arrays (alone (codes "@id") (option_map tree_of value)) (entry_alone (codes "@id") value) entry here
      ≡ full_becomes arrays (alone (codes "@id") (option_map tree_of value)) (entry_alone (codes "@id") value) entry here
  needed_only value =
      let listed : Bool = (containers_of (def_at context property)).list in
      ap (λ (l : Option Value). needed_by value l listed) (no_list value) ∙ either_way value listed

  given_only : (value : Option Value) (o : Option Tree)
      → ((given_or_needed arrays (alone (codes "@id") (option_map tree_of value)) (entry_alone (codes "@id") value) entry here o).run stock).result ≡ ((only_or_value (option_map tree_of value) here o).run stock).result
  given_only value (Some tree) = refl
  given_only value None = ap (λ (a : Answer Tree). (a.run stock).result) (needed_only value) ∙ full_only value

  within_only : (value : Option Value) → ((map_within arrays (alone (codes "@id") (option_map tree_of value)) (entry_alone (codes "@id") value) entry here).run stock).result
      ≡ ((only_becomes (option_map tree_of value) (alone (codes "@id") (option_map tree_of value)) here).run stock).result
  within_only value =
      then_same stock (value_or_map (alone (codes "@id") (option_map tree_of value)) context property) (given_or_needed arrays (alone (codes "@id") (option_map tree_of value)) (entry_alone (codes "@id") value) entry here)
      (only_or_value (option_map tree_of value) here) (given_only value)

  -- the entry at hand
  member_in : (name : List ℕ) (y : Tree-F Tree) → member_at name y ≡ lookup (is_at (name_cmp name)) (entries_in y).0
  member_in name (Tree-F.Map es) = refl
  member_in name (Tree-F.List ts) = refl
  member_in name (Tree-F.Text text) = refl
  member_in name (Tree-F.Num n) = refl
  member_in name (Tree-F.Bool b) = refl
  member_in name Tree-F.Null = refl

  without : (o : Option Tree) → option_map tree_of (option_map (beside arrays) o) ≡ o
  without None = refl
  without (Some tree) = refl

  tree_at : (name : List ℕ) (item : Tree) → option_map tree_of (value_at name (all_beside arrays (entries_of item))) ≡ member name item
  tree_at name item =
      ap (option_map tree_of) (lookup_mapped (beside arrays) (is_at (name_cmp name)) (entries_of item).0) ∙ without (lookup (is_at (name_cmp name)) (entries_of item).0) ∙ sym (member_in name (out-Tree item))

  pub only_is : (item : Tree) (id : Option Tree) (only : Tree) → id ≡ member (codes "@id") item → only ≡ alone (codes "@id") id
      → ((map_within arrays only (entry_alone (codes "@id") (value_at (codes "@id") (all_beside arrays (entries_of item)))) entry here).run stock).result ≡ ((only_becomes id only here).run stock).result
  only_is item id only e is =
      let value = value_at (codes "@id") (all_beside arrays (entries_of item)) in
      let same : option_map tree_of value ≡ id = tree_at (codes "@id") item ∙ sym e in
      ap (λ (t : Tree). ((map_within arrays t (entry_alone (codes "@id") value) entry here).run stock).result) (is ∙ ap (alone (codes "@id")) (sym same))
      ∙ within_only value
      ∙ ap (λ (i : Option Tree). ((only_becomes i (alone (codes "@id") i) here).run stock).result) same
      ∙ ap (λ (t : Tree). ((only_becomes id t here).run stock).result) (sym is)

-- ---- the parts of it

-- the map of an `@id`, or of nothing
pub none_alone : (made : Sorted Tree) (only : Tree) → made ≡ empty → only ≡ V.Map made → only ≡ alone (codes "@id") None
none_alone made only none e = e ∙ sym (V.rolls-Map made) ∙ ap map_of none

pub one_alone : (start made : Sorted Tree) (copy id only : Tree) → start ≡ empty → made ≡ put start (codes "@id") copy → copy ≡ id → only ≡ V.Map made → only ≡ alone (codes "@id") (Some id)
one_alone start made copy id only none puts same e =
    e ∙ sym (V.rolls-Map made) ∙ ap map_of (puts ∙ ap (λ (m : Sorted Tree). put m (codes "@id") copy) none ∙ ap (λ (t : Tree). put empty (codes "@id") t) same)

module _ (stock : Stock) (id : Option Tree) (only : Tree) (context : Context) (property : Option (List ℕ)) where
  abbrev at_hand : Place
  at_hand = place_of context property Whole

  abbrev value_of : Answer (Option Tree)
  value_of = value_or_map only context property

  abbrev all_of : Result Tree Stop
  all_of = ((only_becomes id only at_hand).run stock).result

  pub only_refuses : (e : Stop) → Refuses e (value_of.run stock).result → Refuses e all_of
  only_refuses e h = then_refuses stock value_of (only_or_value id at_hand) e h

  pub only_value : (value : Tree) → (value_of.run stock).result ≡ Ok (Some value) → all_of ≡ Ok value
  only_value value h = then_result stock value_of (only_or_value id at_hand) (Some value) h

  module _ (none : (value_of.run stock).result ≡ Ok None) where
    abbrev as_map : Sorted Tree → Answer Tree
    as_map made = give (map_of made)

    goes : all_of ≡ ((only_entries context id >>= as_map).run stock).result
    goes = then_result stock value_of (only_or_value id at_hand) None none

    gives_made : (made : Sorted Tree) (tree : Tree) → ((only_entries context id).run stock).result ≡ Ok made → tree ≡ V.Map made → all_of ≡ Ok tree
    gives_made made tree h e = goes ∙ then_result stock (only_entries context id) as_map made h ∙ ap (λ (t : Tree). Ok t) (V.rolls-Map made ∙ sym e)

    pub only_nothing : (made : Sorted Tree) (tree : Tree) → id ≡ None → made ≡ empty → tree ≡ V.Map made → all_of ≡ Ok tree
    only_nothing made tree missing start e = gives_made made tree (ap (λ (i : Option Tree). ((only_entries context i).run stock).result) missing ∙ ap (λ (m : Sorted Tree). Ok m) (sym start)) e

    module _ (value : Tree) (found : id ≡ Some value) (start : Sorted Tree) (begun : start ≡ empty) where
      with_id : ((only_entries context id).run stock).result ≡ ((id_rule context value start).run stock).result
      with_id = ap (λ (i : Option Tree). ((only_entries context i).run stock).result) found ∙ ap (λ (m : Sorted Tree). ((id_rule context value m).run stock).result) (sym begun)

      pub only_id_refuses : (e : Stop) → Refuses e ((id_rule context value start).run stock).result → Refuses e all_of
      only_id_refuses e h =
          subst (λ (r : Result Tree Stop). Refuses e r) (sym goes)
          (then_refuses stock (only_entries context id) as_map e (subst (λ (r : Result (Sorted Tree) Stop). Refuses e r) (sym with_id) h))

      pub only_id : (made : Sorted Tree) (tree : Tree) → ((id_rule context value start).run stock).result ≡ Ok made → tree ≡ V.Map made → all_of ≡ Ok tree
      only_id made tree h e = gives_made made tree (with_id ∙ h) e
