use Rattle.std.proofs.Common.{◌≡◌, sym, subst, true}
use Rattle.ld_history.specs.Index.{are_numbered}
use Rattle.ld_history.specs.Turns.{are_turns}
use Rattle.ld_history.proofs.Undo.{unnamed}
use Rattle.ld_history.proofs.Turns.{all_named}
use Rattle.ld_history.proofs.tables.Tables.led.Goals as goal

pub returns-in-Err-clause-unchanged : goal.returns-in-Err-clause-unchanged
returns-in-Err-clause-unchanged c =
    let turns : c.unname.new.turns.entries ≡ c.args.self.now.turns.entries =
    unnamed c.args.iri.now c.args.self.now.turns.entries c.name.new.turns.entries c.unname.new.turns.entries c.in_ok-first.first c.in_ok-first.ensures.ok c.in_ok-first.ensures.first c.unname.ensures in
    rw (turns, c.in-Err.ensures.no_lead, c.in-Err.ensures.no_session, c.reserve.ensures.items)

pub invariant_of-self-in-Err-clause-in_turn : goal.invariant_of-self-in-Err-clause-in_turn
invariant_of-self-in-Err-clause-in_turn c =
    let t = c.args.self.now in
    let turns : c.unname.new.turns.entries ≡ t.turns.entries =
    unnamed c.args.iri.now t.turns.entries c.name.new.turns.entries c.unname.new.turns.entries c.in_ok-first.first c.in_ok-first.ensures.ok c.in_ok-first.ensures.first c.unname.ensures in
    subst (λ es. are_turns t.version es ≡ true) (sym turns) t.in_turn

pub invariant_of-self-2-clause-in_turn : goal.invariant_of-self-2-clause-in_turn
invariant_of-self-2-clause-in_turn c =
    let t = c.args.self.now in
    all_named t.version c.args.iri.now t.turns.entries c.name.new.turns.entries c.in_ok-first.ensures.ok t.in_turn

pub invariant_of-self-in-Err-clause-numbered : goal.invariant_of-self-in-Err-clause-numbered
invariant_of-self-in-Err-clause-numbered c = subst (λ l. are_numbered c.args.self.now.opened l ≡ true) (sym c.lead.ensures.numbers) c.args.self.now.numbered

pub invariant_of-self-2-clause-numbered : goal.invariant_of-self-2-clause-numbered
invariant_of-self-2-clause-numbered c = subst (λ l. are_numbered c.args.self.now.opened l ≡ true) (sym c.lead.ensures.numbers) c.args.self.now.numbered
