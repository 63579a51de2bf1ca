use Rattle.std.proofs.Common.{arith, ◌≡◌, ◌∙◌, sym, ap, subst, true, None, ◌+◌}
use Rattle.ld_history.specs.Turns.{are_turns}
use Rattle.ld_history.specs.Store.{Store}
use Rattle.ld_history.specs.After.{after_led, take_iri, turned}
use Rattle.ld_history.specs.Seen.{seen}
use Rattle.ld_history.proofs.Turns.{all_turned}
use Rattle.ld_history.proofs.Unturned.{turns_undone}
use Rattle.ld_history.proofs.Overtold.{replaced}
use Rattle.ld_history.proofs.Ordered.{past_later, past_out}
use Rattle.ld_history.specs.Order.{ArePast}
use Rattle.ld_history.proofs.tables.Tables.swap.Goals as goal

pub invariant_of-self-2-clause-past : goal.invariant_of-self-2-clause-past
invariant_of-self-2-clause-past c = let t = c.args.self.now in past_later t.version c.args.r.now.version t.stored.entries c.requires.version t.past

pub invariant_of-self-in-Err-clause-past : goal.invariant_of-self-in-Err-clause-past
invariant_of-self-in-Err-clause-past c =
    let t = c.args.self.now in
    let kept : c.led.new.self.stored.entries ≡ t.stored.entries = ap (λ (s : Store). s.stored) c.in-Err.ensures.unchanged in
    subst (ArePast t.version) (sym kept) t.past

pub invariant_of-self-3-clause-past : goal.invariant_of-self-3-clause-past
invariant_of-self-3-clause-past c =
    let l = c.led.new.self in
    past_out l.stored.entries l.order.published.entries l.ordered c.args.r.now.out l.version l.version c.leave.new.stored.entries (omega arith) c.leave.ensures.stored l.past

pub invariant_of-self-2-clause-in_turn : goal.invariant_of-self-2-clause-in_turn
invariant_of-self-2-clause-in_turn c =
    let t = c.args.self.now in
    all_turned t.version c.args.r.now.version c.args.r.now.out t.turns.entries c.turn.new.turns.entries c.in_ok-turn.ensures.ok c.requires.version t.in_turn

pub invariant_of-self-in-Err-clause-in_turn : goal.invariant_of-self-in-Err-clause-in_turn
invariant_of-self-in-Err-clause-in_turn c =
    let t = c.args.self.now in
    let kept : c.led.new.self.turns.entries ≡ c.turn.new.turns.entries = ap (λ (s : Store). s.turns) c.in-Err.ensures.unchanged in
    let turns : c.unturn.new.turns.entries ≡ t.turns.entries
    = turns_undone c.args.r.now.out c.args.r.now.version t.turns.entries c.led.new.self.turns.entries c.unturn.new.turns.entries (kept ∙ c.in_ok-turn.ensures.ok) c.unturn.ensures in
    subst (λ es. are_turns t.version es ≡ true) (sym turns) t.in_turn

pub returns-in-Err-clause-unchanged : goal.returns-in-Err-clause-unchanged
returns-in-Err-clause-unchanged c =
    let t = c.args.self.now in
    let kept : c.led.new.self.turns.entries ≡ c.turn.new.turns.entries = ap (λ (s : Store). s.turns) c.in-Err.ensures.unchanged in
    let turns : c.unturn.new.turns.entries ≡ t.turns.entries
    = turns_undone c.args.r.now.out c.args.r.now.version t.turns.entries c.led.new.self.turns.entries c.unturn.new.turns.entries (kept ∙ c.in_ok-turn.ensures.ok) c.unturn.ensures in
    ap (λ (s : Store). record s { version = t.version; turns = c.unturn.new.turns.entries }) c.in-Err.ensures.unchanged ∙ ap (λ es. record (seen t) { turns = es }) turns

pub returns-clause-ok : goal.returns-clause-ok
returns-clause-ok c =
    let t = c.args.self.now in
    let r = c.args.r.now in
    let led = seen c.led.new.self in
    let out : c.leave.new.stored.entries ≡ take_iri c.led.new.self.stored.entries r.out = c.leave.ensures.stored in
    let is_led : led ≡ after_led (record (seen t) { version = r.version; turns = turned t.turns.entries r.out r.version }) r.session r.iri r.flight
    = c.in_default.ensures.ok ∙ ap (λ ts. after_led (record (seen t) { version = r.version; turns = ts }) r.session r.iri r.flight) c.in_ok-turn.ensures.ok in
    replaced (seen t) led _ r is_led (ap (λ es. record led { stored = es; events = led.events + 2; evicted = None }) out)
