-- Recursion in which a step sees each child beside what the recursion gives for it.
use Rattle.ld_tree.specs.declared.tree.Tree.{Tree}
use Rattle.ld_tree.specs.declared.tree.Tree.TheOpen.{Tree-F}
use Rattle.ld_tree.specs.declared.tree.Tree.TheViews.{roll-Tree}
use Rattle.ld_tree.specs.declared.tree.Tree.TheFolds.{fold-Tree, map-Tree}

-- the level itself, beside what the step gives for it
abbrev pub para_step : (A : Type 0) → (Tree-F (Tree × A) → A) → Tree-F (Tree × A) → Tree × A
para_step A step y = (roll-Tree (map-Tree (Tree × A) Tree (λ p. p.0) y), step y)

-- what the step gives at each level for the children paired with what it gave for them
unfoldable pub para : (A : Type 0) → (Tree-F (Tree × A) → A) → Tree → A
para A step t = (fold-Tree (Tree × A) (para_step A step) t).1
