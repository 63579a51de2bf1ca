use Rattle.std.proofs.Common.{◌∙◌, sym, ap₂, List, ℕ, arith}
use Rattle.ld_tree.specs.Names.{name_cmp}
use Rattle.ld_tree.specs.declared.tree.Tree.{Tree}
use Rattle.ld_tree_read.proofs.Stable.{order_step, order_next}
use Rattle.ld_tree_read.proofs.members.are_in_order.Goals as goal

pub loop-i-preserved : goal.loop-i-preserved
loop-i-preserved c =
    order_next c.args.members.now c.loop-i.i c.index-members-i.result c.index-members-i-in-loop-i.result (omega (arith, c.loop-i.auto.i)) (omega (arith, c.loop-i-test.true))
    c.index-members-i.is c.index-members-i-in-loop-i.is (ap₂ (λ (x : List ℕ × Tree) (y : List ℕ × Tree). name_cmp x.0 y.0) c.index-members-i.is c.index-members-i-in-loop-i.is ∙ sym c.cmp.ensures ∙ c.in-Less.is) c.loop-i.invariant

pub returns : goal.returns
returns c = λ _. order_step c.args.members.now (λ j k e lt. c.loop-i.invariant j k e (omega (arith, lt, c.loop-i-test.false)))
