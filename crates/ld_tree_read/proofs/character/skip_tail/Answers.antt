use Rattle.std.proofs.Common.{◌≡◌, ◌∙◌, sym, ap, subst, ◌-◌, ◌<◌, arith}
use Rattle.ld_tree_read.specs.Cursor.{left, ahead}
use Rattle.ld_tree_read.specs.Grammar.{IsRest, no_rest}
use Rattle.ld_tree_read.specs.State.{string}
use Rattle.ld_tree_read.proofs.Characters.{rest_next}
use Rattle.ld_tree_read.proofs.Inner.{rest_some}
use Rattle.ld_tree_read.proofs.character.skip_tail.Goals as goal

pub loop-due-init : goal.loop-due-init
loop-due-init c =
    let p = c.in_ok-eat_tail.ensures.passed in
    record {
      passed = λ r w. (p.0, left c.eat_tail.new.cursor, p.1, p.2, w);
      leads = c.in_ok-eat_tail.ensures.leads c.args.more;
      shorter = omega (arith, c.in_ok-eat_tail.ensures.shorter);
    }

pub loop-due-preserved : goal.loop-due-preserved
loop-due-preserved c =
    let d = c.loop-due.cursor in
    let p = c.in_ok-eat_tail-2.ensures.passed in
    let some : 0 < c.loop-due.due = c.loop-due-test.true in
    record {
      passed = λ r w. c.loop-due.invariant.passed r (rest_next c.loop-due.due p.0 (left d) (left c.eat_tail-in-loop-due.new.cursor) r some p.1 p.2 w);
      leads = λ n fs. c.loop-due.invariant.leads n fs ∙ ap (λ i. ahead d fs (string n i)) (rest_some c.loop-due.due some) ∙ c.in_ok-eat_tail-2.ensures.leads (c.loop-due.due - 1) n fs;
      shorter = omega (arith, c.loop-due.invariant.shorter, c.in_ok-eat_tail-2.ensures.shorter);
    }

pub returns-clause-passed : goal.returns-clause-passed
returns-clause-passed c =
    let over : c.loop-due.due ≡ 0 = omega (arith, c.loop-due-test.false) in
    c.loop-due.invariant.passed (left c.loop-due.cursor) (subst (λ n. IsRest n (left c.loop-due.cursor) (left c.loop-due.cursor)) (sym over) no_rest)
