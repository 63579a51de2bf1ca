-- The law of recursion that sees the children.
use Rattle.std.proofs.Common.{◌≡◌, ◌∙◌, refl, rules, ap, ap₂, subst, ℕ, List, [], ◌∷◌, map}
use Rattle.ld_tree.specs.Names.{same_sorted}
use Rattle.ld_tree.specs.Recursion.{para, para_step}
use Rattle.ld_tree.specs.formers.entries.Entries.{on_value}
use Rattle.ld_tree.specs.declared.tree.Tree.{Tree, out-Tree}
use Rattle.ld_tree.specs.declared.tree.Tree.TheOpen.{Tree-F}
use Rattle.ld_tree.specs.declared.tree.Tree.TheViews.{roll-Tree, the_lemmas}
use Rattle.ld_tree.specs.declared.tree.Tree.TheFolds.{ind-Tree, map-Tree, fold-Tree, fold-roll-Tree}

module _ (A : Type 0) (step : Tree-F (Tree × A) → A) where
  abbrev both : Tree → Tree × A
  both = fold-Tree (Tree × A) (para_step A step)

  abbrev first : Tree × A → Tree
  first p = p.0

  -- a tree whose pair has the tree itself
  abbrev Kept : Type 0
  Kept = (t : Tree) × ((both t).0 ≡ t)

  abbrev tree_of : Kept → Tree
  tree_of k = k.0

  items : (xs : List Kept) → map first (map both (map tree_of xs)) ≡ map tree_of xs
  items [] = refl
  items (x ∷ xs) = ap₂ (λ u v. u ∷ v) x.1 (items xs)

  entries : (es : List (List ℕ × Kept)) → map (on_value first) (map (on_value both) (map (on_value tree_of) es)) ≡ map (on_value tree_of) es
  entries [] = refl
  entries (e ∷ es) = ap₂ (λ (u : List ℕ × Tree) (v : List (List ℕ × Tree)). u ∷ v) (ap (λ (t : Tree). let p : List ℕ × Tree = (e.0, t) in p) e.1.1) (entries es)

  level : (y : Tree-F Kept) → map-Tree (Tree × A) Tree first (map-Tree Tree (Tree × A) both (map-Tree Kept Tree tree_of y)) ≡ map-Tree Kept Tree tree_of y
  level (Tree-F.List xs) = ap Tree-F.List (items xs)
  level (Tree-F.Map es) = ap Tree-F.Map (same_sorted _ _ (entries es.0))
  level _ = refl

  itself : (t : Tree) → (both t).0 ≡ t
  itself = ind-Tree (λ t. (both t).0 ≡ t)
      (λ x y is. ap first (fold-roll-Tree (Tree × A) (para_step A step) x)
      ∙ ap roll-Tree (subst (λ v. map-Tree (Tree × A) Tree first (map-Tree Tree (Tree × A) both v) ≡ v) is (level y)))

  paired : (t : Tree) → both t ≡ (t, para A step t)
  unfolding para
  paired t = ap (λ (u : Tree). let p : Tree × A = (u, (both t).1) in p) (itself t)

  -- at one level it is the step over the children, each beside what the recursion gives for it
  pub para-roll : (y : Tree-F Tree) → para A step (roll-Tree y) ≡ step (map-Tree Tree (Tree × A) (λ t. (t, para A step t)) y)
  unfolding para
  para-roll y = ap (λ (p : Tree × A). p.1) (fold-roll-Tree (Tree × A) (para_step A step) y) ∙ ap (λ (f : Tree → Tree × A). step (map-Tree Tree (Tree × A) f y)) (λ i t. paired t i)

  opened : (t : Tree) → t ≡ roll-Tree (out-Tree t)
  opened t = search (rules, the_lemmas)

  -- the same for any tree, read at its level
  pub para-out : (t : Tree) → para A step t ≡ step (map-Tree Tree (Tree × A) (λ s. (s, para A step s)) (out-Tree t))
  para-out t = ap (para A step) (opened t) ∙ para-roll (out-Tree t)
