use Rattle.std.proofs.Common.{◌≡◌, sym, subst, true}
use Rattle.ld_history.specs.Index.{are_numbered}
use Rattle.ld_history.proofs.Turns.{all_turned}
use Rattle.ld_history.proofs.Ordered.{past_out}
use Rattle.ld_history.proofs.tables.Tables.evicted.Goals as goal

pub invariant_of-self-2-clause-past : goal.invariant_of-self-2-clause-past
invariant_of-self-2-clause-past c =
    let t = c.args.self.now in
    past_out t.stored.entries t.order.published.entries t.ordered c.args.iri.now t.version c.args.version c.leave.new.stored.entries c.requires c.leave.ensures.stored t.past

pub invariant_of-self-2-clause-in_turn : goal.invariant_of-self-2-clause-in_turn
invariant_of-self-2-clause-in_turn c =
    let t = c.args.self.now in
    all_turned t.version c.args.version c.args.iri.now t.turns.entries c.turn.new.turns.entries c.in_ok-turn.ensures.ok c.requires t.in_turn

pub invariant_of-self-2-clause-numbered : goal.invariant_of-self-2-clause-numbered
invariant_of-self-2-clause-numbered c = subst (λ l. are_numbered c.args.self.now.opened l ≡ true) (sym c.tell.ensures.numbers) c.args.self.now.numbered
