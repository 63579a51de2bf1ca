-- Compaction, level by level: what an element comes to, by what comes of its items or entries.
use Rattle.std.proofs.Common.{◌≡◌, ◌∙◌, refl, sym, ap, ℕ, Bool, List, [], ◌∷◌, map, Option}
use Rattle.ld_tree.specs.Names.{Sorted, same_sorted}
use Rattle.ld_tree.specs.declared.tree.Num.{Num}
use Rattle.ld_tree.specs.declared.tree.Tree.{Tree, out-Tree}
use Rattle.ld_tree.specs.declared.tree.Tree.TheVariants as V
use Rattle.ld_tree.specs.declared.tree.Tree.TheOpen.{Tree-F}
use Rattle.ld_tree.specs.declared.tree.Tree.TheFolds.{map-Tree}
use Rattle.ld_tree.specs.declared.tree.Tree.TheViews as W
use Rattle.ld_tree.proofs.Recursion.{para-out}
use Rattle.ld_rec.specs.Kinds.{map_of, entries_of, entries_in}
use Rattle.ld_rec.specs.Outcome.{Answer, give}
use Rattle.ld_rec.specs.Records.{Context}
use Rattle.ld_compact.specs.Elements.{Way, Whole, IdAlone, Place, Becomes, Item, Value, item_of}
use Rattle.ld_compact.specs.Compaction.{element, compaction_step, list_becomes, by_way, map_becomes, id_becomes}
use Rattle.ld_compact.specs.Steps.{place_of, beside, item_beside, all_beside}
use Rattle.ld_compact.proofs.Singles.{values_same}

module _ (arrays : Bool) where
  abbrev at_level : Tree-F Tree → Becomes × List Item
  at_level y = compaction_step arrays (map-Tree Tree Value (beside arrays) y)

  pub element_level : (t : Tree) → element arrays t ≡ at_level (out-Tree t)
  unfolding element
  element_level t = para-out (Becomes × List Item) (compaction_step arrays) t

  items_beside : (ts : List Tree) → map item_of (map (beside arrays) ts) ≡ map (item_beside arrays) ts
  items_beside [] = refl
  items_beside (t ∷ ts) = ap (λ (l : List Item). item_beside arrays t ∷ l) (items_beside ts)

  abbrev comes : Place → Becomes × List Item → Answer Tree
  comes place b = b.0 place

  abbrev items_of : Becomes × List Item → List Item
  items_of b = b.1

  -- a value's items
  pub items_list : (ts : List Tree) → (element arrays (V.List ts)).1 ≡ map (item_beside arrays) ts
  items_list ts = ap items_of (element_level (V.List ts) ∙ ap at_level (W.outs-List ts)) ∙ items_beside ts

  pub items_map : (es : Sorted Tree) → (element arrays (V.Map es)).1 ≡ []
  items_map es = ap items_of (element_level (V.Map es) ∙ ap at_level (W.outs-Map es))

  pub items_null : (element arrays V.Null).1 ≡ []
  items_null = ap items_of (element_level V.Null ∙ ap at_level W.outs-Null)

  pub items_text : (text : List ℕ) → (element arrays (V.Text text)).1 ≡ []
  items_text text = ap items_of (element_level (V.Text text) ∙ ap at_level (W.outs-Text text))

  pub items_bool : (b : Bool) → (element arrays (V.Bool b)).1 ≡ []
  items_bool b = ap items_of (element_level (V.Bool b) ∙ ap at_level (W.outs-Bool b))

  pub items_num : (n : Num) → (element arrays (V.Num n)).1 ≡ []
  items_num n = ap items_of (element_level (V.Num n) ∙ ap at_level (W.outs-Num n))

  -- what it comes to
  pub element_list : (ts : List Tree) (place : Place) → (element arrays (V.List ts)).0 place ≡ list_becomes arrays (map (item_beside arrays) ts) place
  element_list ts place =
      ap (comes place) (element_level (V.List ts) ∙ ap at_level (W.outs-List ts)) ∙ ap (λ (items : List Item). list_becomes arrays items place) (items_beside ts)

  element_map : (es : Sorted Tree) (place : Place) → (element arrays (V.Map es)).0 place ≡ by_way arrays place.way (map_of es) (all_beside arrays es) place
  element_map es place =
      ap (comes place) (element_level (V.Map es) ∙ ap at_level (W.outs-Map es))
      ∙ ap (λ (trees : Sorted Tree). by_way arrays place.way (map_of trees) (all_beside arrays es) place) (same_sorted _ es (values_same (beside arrays) (λ t. refl) es.0))

  -- by the tree itself
  opened : (es : Sorted Tree) (way : Way) (context : Context) (property : Option (List ℕ))
      → by_way arrays way (map_of es) (all_beside arrays es) (place_of context property way) ≡ by_way arrays way (V.Map es) (all_beside arrays (entries_of (V.Map es))) (place_of context property way)
  opened es way context property =
      ap (λ (t : Tree). by_way arrays way t (all_beside arrays es) (place_of context property way)) (V.rolls-Map es)
      ∙ ap (λ (s : Sorted Tree). by_way arrays way (V.Map es) (all_beside arrays s) (place_of context property way)) (sym (ap entries_in (W.outs-Map es)))

  pub element_whole : (es : Sorted Tree) (context : Context) (property : Option (List ℕ))
      → (element arrays (V.Map es)).0 (place_of context property Whole) ≡ map_becomes arrays (V.Map es) (all_beside arrays (entries_of (V.Map es))) (place_of context property Whole)
  element_whole es context property = element_map es (place_of context property Whole) ∙ opened es Whole context property

  pub element_id : (es : Sorted Tree) (context : Context) (property : Option (List ℕ))
      → (element arrays (V.Map es)).0 (place_of context property IdAlone) ≡ id_becomes arrays (V.Map es) (all_beside arrays (entries_of (V.Map es))) (place_of context property Whole)
  element_id es context property = element_map es (place_of context property IdAlone) ∙ opened es IdAlone context property

  pub element_null : (place : Place) → (element arrays V.Null).0 place ≡ give V.Null
  element_null place = ap (comes place) (element_level V.Null ∙ ap at_level W.outs-Null) ∙ ap (λ (t : Tree). give t) V.rolls-Null

  pub element_text : (text : List ℕ) (place : Place) → (element arrays (V.Text text)).0 place ≡ give (V.Text text)
  element_text text place = ap (comes place) (element_level (V.Text text) ∙ ap at_level (W.outs-Text text)) ∙ ap (λ (t : Tree). give t) (V.rolls-Text text)

  pub element_bool : (b : Bool) (place : Place) → (element arrays (V.Bool b)).0 place ≡ give (V.Bool b)
  element_bool b place = ap (comes place) (element_level (V.Bool b) ∙ ap at_level (W.outs-Bool b)) ∙ ap (λ (t : Tree). give t) (V.rolls-Bool b)

  pub element_num : (n : Num) (place : Place) → (element arrays (V.Num n)).0 place ≡ give (V.Num n)
  element_num n place = ap (comes place) (element_level (V.Num n) ∙ ap at_level (W.outs-Num n)) ∙ ap (λ (t : Tree). give t) (V.rolls-Num n)

pub ruleset element_levels = (element_null, element_bool, element_num, element_text, element_list, element_whole, element_id)

pub ruleset element_items = (items_list, items_map, items_null, items_text, items_bool, items_num)
