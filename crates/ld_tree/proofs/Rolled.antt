-- The variants of a tree as layers of it.
use Rattle.std.proofs.Common.{◌≡◌, refl, ℕ, Bool, List}
use Rattle.ld_tree.specs.Names.{Sorted}
use Rattle.ld_tree.specs.declared.tree.Num.{Num}
use Rattle.ld_tree.specs.declared.tree.Tree as t
use Rattle.ld_tree.specs.declared.tree.Tree.{Tree}
use Rattle.ld_tree.specs.declared.tree.Tree.TheOpen.{Tree-F}
use Rattle.ld_tree.specs.declared.tree.Tree.TheViews.{roll-Tree}
use denote.Hole.Carrier.{roll}

pub rolled_null : t.Null ≡ roll-Tree Tree-F.Null
unfolding roll-Tree roll
rolled_null = refl

pub rolled_bool : (b : Bool) → t.Bool b ≡ roll-Tree (Tree-F.Bool b)
unfolding roll-Tree roll
rolled_bool b = refl

pub rolled_num : (n : Num) → t.Num n ≡ roll-Tree (Tree-F.Num n)
unfolding roll-Tree roll
rolled_num n = refl

pub rolled_text : (x : List ℕ) → t.Text x ≡ roll-Tree (Tree-F.Text x)
unfolding roll-Tree roll
rolled_text x = refl

pub rolled_list : (ts : List Tree) → t.List ts ≡ roll-Tree (Tree-F.List ts)
unfolding roll-Tree roll
rolled_list ts = refl

pub rolled_map : (es : Sorted Tree) → t.Map es ≡ roll-Tree (Tree-F.Map es)
unfolding roll-Tree roll
rolled_map es = refl
