use Rattle.std.proofs.Common.{is_some, arith}
use Rattle.ld_history.specs.Words.{at_iri}
use Rattle.ld_history.proofs.Turns.{all_entered}
use Rattle.ld_history.proofs.Ordered.{fresh, past_in}
use Rattle.ld_history.proofs.tables.Tables.published.Goals as goal

pub enter-entered-requires-clause-fresh : goal.enter-entered-requires-clause-fresh
enter-entered-requires-clause-fresh c = let t = c.args.self.now in fresh t.stored.entries t.order.published.entries t.ordered t.version c.args.version t.past c.requires.version

pub invariant_of-self-2-clause-past : goal.invariant_of-self-2-clause-past
invariant_of-self-2-clause-past c =
    let t = c.args.self.now in
    past_in t.stored.entries t.order.published.entries t.ordered c.in_ok-iri.iri (record { flight = c.args.flight; version = c.args.version; answer = c.in_ok-answer.answer }) t.version c.enter-entered.new.stored.entries c.requires.version c.in_ok-entered.ensures.stored t.past

pub invariant_of-self-2-clause-in_turn : goal.invariant_of-self-2-clause-in_turn
invariant_of-self-2-clause-in_turn c =
    let t = c.args.self.now in
    all_entered t.version c.args.version c.in_ok-iri.iri (is_some (at_iri t.stored.entries c.in_ok-iri.iri)) t.turns.entries c.enter-entered.new.turns.entries c.in_ok-entered.ensures.turns (let lt = c.requires.version in omega (arith, lt)) t.in_turn
