-- What the walk does at one level of a tree.
use Rattle.std.proofs.Common.{◌≡◌, ◌∙◌, rules, ap, ℕ, Bool, List, map}
use Rattle.std.specs.Prelude.{Ok}
use Rattle.ld_tree.specs.Names.{Sorted}
use Rattle.ld_tree.specs.declared.tree.Tree.{Tree, out-Tree}
use Rattle.ld_tree.specs.declared.tree.Tree.TheVariants as V
use Rattle.ld_tree.specs.declared.tree.Num.{Num}
use Rattle.ld_tree.specs.declared.tree.Tree.TheViews.{the_lemmas}
use Rattle.ld_tree.specs.declared.tree.Tree.TheFolds.{map-Tree}
use Rattle.ld_tree.specs.formers.entries.Entries.{on_value}
use Rattle.ld_tree.proofs.Recursion.{para-out}
use Rattle.ld_nodes.specs.Places.{Place}
use Rattle.ld_nodes.specs.Walks.{Walk}
use Rattle.ld_nodes.specs.Visits.{Visit, Child, child_of, visited, visit_step, visit_each, visit_at}

module _ (graph : ℕ) (place : Place) (w : Walk) where
  pub visited_level : (t : Tree) → visited t graph place w ≡ visit_step (map-Tree Tree Child child_of (out-Tree t)) t graph place w
  unfolding child_of
  visited_level t = ap (λ f. f t graph place w) (para-out Visit visit_step t)

  pub visited_list : (items : List Tree) → visited (V.List items) graph place w ≡ visit_each (map child_of items) graph place w
  visited_list items = visited_level (V.List items) ∙ search (rules, the_lemmas)

  pub visited_map : (es : Sorted Tree) → visited (V.Map es) graph place w ≡ visit_at place (map (on_value child_of) es.0) (V.Map es) graph w
  visited_map es = visited_level (V.Map es) ∙ search (rules, the_lemmas)

  pub visited_null : visited V.Null graph place w ≡ Ok w
  visited_null = visited_level V.Null ∙ search (rules, the_lemmas)

  pub visited_bool : (b : Bool) → visited (V.Bool b) graph place w ≡ Ok w
  visited_bool b = visited_level (V.Bool b) ∙ search (rules, the_lemmas)

  pub visited_num : (n : Num) → visited (V.Num n) graph place w ≡ Ok w
  visited_num n = visited_level (V.Num n) ∙ search (rules, the_lemmas)

  pub visited_text : (text : List ℕ) → visited (V.Text text) graph place w ≡ Ok w
  visited_text text = visited_level (V.Text text) ∙ search (rules, the_lemmas)

pub ruleset visited_levels = (visited_null, visited_bool, visited_num, visited_text, visited_list, visited_map)
