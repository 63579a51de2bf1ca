-- Expansion, level by level: what an element comes to, by what comes of its items or entries.
use Rattle.std.proofs.Common.{◌≡◌, ◌∙◌, refl, ap, ℕ, Bool, List, [], ◌∷◌, map}
use Rattle.std.specs.Prelude.{Option, None}
use Rattle.ld_tree.specs.Names.{Sorted, same_sorted}
use Rattle.ld_tree.specs.formers.entries.Entries.{on_value}
use Rattle.ld_tree.specs.declared.tree.Num.{Num}
use Rattle.ld_tree.specs.declared.tree.Tree.{Tree, out-Tree}
use Rattle.ld_tree.specs.declared.tree.Tree.TheVariants as V
use Rattle.ld_tree.specs.declared.tree.Tree.TheOpen.{Tree-F}
use Rattle.ld_tree.specs.declared.tree.Tree.TheFolds.{map-Tree}
use Rattle.ld_tree.specs.declared.tree.Tree.TheViews as W
use Rattle.ld_tree.proofs.Recursion.{para-out}
use Rattle.ld_rec.specs.Outcome.{Answer, give}
use Rattle.ld_rec.specs.Places.{Place, Becomes, Element, Entry, held_by, tree_of}
use Rattle.ld_rec.specs.Expansion.{element_becomes, expansion_step, scalar_becomes, list_becomes, map_by_way}

module _ (base : Option (List ℕ)) where
  -- a tree, beside what it comes to
  abbrev pub beside : Tree → Element
  beside t = (t, element_becomes base t)

  abbrev pub entry_beside : List ℕ × Tree → Entry
  entry_beside e = (e.0, (e.1, element_becomes base e.1))

  abbrev at_level : Tree-F Tree → Becomes
  at_level y = expansion_step base (map-Tree Tree Element beside y)

  pub becomes_level : (t : Tree) (place : Place) → element_becomes base t place ≡ at_level (out-Tree t) place
  unfolding element_becomes
  becomes_level t place = ap (λ (f : Becomes). f place) (para-out Becomes (expansion_step base) t)

  trees_same : (es : List (List ℕ × Tree)) → map (on_value tree_of) (map entry_beside es) ≡ es
  trees_same [] = refl
  trees_same (e ∷ es) = ap (λ (l : List (List ℕ × Tree)). e ∷ l) (trees_same es)

  abbrev way_at : Place → List Entry → Sorted Tree → Answer (Option Tree)
  way_at place entries trees = map_by_way base place.way trees entries place

  pub becomes_map : (es : Sorted Tree) (place : Place) → element_becomes base (V.Map es) place ≡ map_by_way base place.way es (map entry_beside es.0) place
  becomes_map es place =
      becomes_level (V.Map es) place
      ∙ ap (λ (y : Tree-F Tree). at_level y place) (W.outs-Map es)
      ∙ ap (way_at place (map entry_beside es.0)) (same_sorted _ es (trees_same es.0))

  pub becomes_list : (ts : List Tree) (place : Place) → element_becomes base (V.List ts) place ≡ list_becomes (map beside ts) place
  becomes_list ts place = becomes_level (V.List ts) place ∙ ap (λ (y : Tree-F Tree). at_level y place) (W.outs-List ts)

  pub becomes_null : (place : Place) → element_becomes base V.Null place ≡ give None
  becomes_null place = becomes_level V.Null place ∙ ap (λ (y : Tree-F Tree). at_level y place) (W.outs-Null)

  pub becomes_text : (text : List ℕ) (place : Place) → element_becomes base (V.Text text) place ≡ scalar_becomes (V.Text text) place (held_by place.property)
  becomes_text text place =
      becomes_level (V.Text text) place ∙ ap (λ (y : Tree-F Tree). at_level y place) (W.outs-Text text)
      ∙ ap (λ (t : Tree). scalar_becomes t place (held_by place.property)) (V.rolls-Text text)

  pub becomes_bool : (b : Bool) (place : Place) → element_becomes base (V.Bool b) place ≡ scalar_becomes (V.Bool b) place (held_by place.property)
  becomes_bool b place =
      becomes_level (V.Bool b) place ∙ ap (λ (y : Tree-F Tree). at_level y place) (W.outs-Bool b)
      ∙ ap (λ (t : Tree). scalar_becomes t place (held_by place.property)) (V.rolls-Bool b)

  pub becomes_num : (n : Num) (place : Place) → element_becomes base (V.Num n) place ≡ scalar_becomes (V.Num n) place (held_by place.property)
  becomes_num n place =
      becomes_level (V.Num n) place ∙ ap (λ (y : Tree-F Tree). at_level y place) (W.outs-Num n)
      ∙ ap (λ (t : Tree). scalar_becomes t place (held_by place.property)) (V.rolls-Num n)

pub ruleset becomes_levels = (becomes_null, becomes_bool, becomes_num, becomes_text, becomes_list, becomes_map)
