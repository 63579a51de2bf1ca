use Rattle.std.proofs.Common.{[], ◌∷◌, ◌++◌, ap, ◌∙◌, sym}
use Rattle.std.specs.Option.{option_map}
use Rattle.ld_history.specs.Seen.{seen}
use Rattle.ld_history.specs.Legal.{state}
use Rattle.ld_history.specs.ByTurns.{allows}
use Rattle.ld_history.specs.Steps.{plain, grown, revise_step}
use Rattle.ld_history.proofs.Counting.{can_count}
use Rattle.ld_history.proofs.Revising.{revise_allowed, revise_taken}
use Rattle.ld_history.proofs.state.State.revise.Goals as goal

pub revise_answer-answer-requires : goal.revise_answer-answer-requires
revise_answer-answer-requires c = can_count c.self.inside.limits c.self.inside.history.items (seen c.self.inside.tables) c.self.invariant.kept

pub append-requires : goal.append-requires
append-requires c =
    let may = revise_allowed c.self.inside.limits c.self.inside.history.items c.args.session c.in-Some.request c.in_ok-iri.iri c.revise_answer-answer.result
    (seen c.self.inside.tables) c.args.self.now c.self.invariant.kept c.self.view_is (sym c.pinned_request.ensures ∙ c.in-Some.is) c.revise_answer-answer.ensures in
    ap (allows c.args.self.now.limits (state c.args.self.now.entries)) (c.plain.ensures ∙ ap plain c.revise_event-event.ensures) ∙ may

pub returns-clause-answered : goal.returns-clause-answered
returns-clause-answered c =
    let taken_so = revise_taken c.self.inside.limits c.self.inside.history.items c.args.session c.in-Some.request c.in_ok-iri.iri c.revise_answer-answer.result
    (seen c.self.inside.tables) c.args.self.now c.self.invariant.kept c.self.view_is (sym c.pinned_request.ensures ∙ c.in-Some.is) c.revise_answer-answer.ensures in
    ap (λ iri. option_map (λ t. t.answer) (revise_step c.args.self.now c.args.session iri)) (sym c.in_ok-iri.ensures) ∙ ap (option_map (λ t. t.answer)) taken_so

pub returns-clause-appended : goal.returns-clause-appended
returns-clause-appended c =
    let taken_so = revise_taken c.self.inside.limits c.self.inside.history.items c.args.session c.in-Some.request c.in_ok-iri.iri c.revise_answer-answer.result
    (seen c.self.inside.tables) c.args.self.now c.self.invariant.kept c.self.view_is (sym c.pinned_request.ensures ∙ c.in-Some.is) c.revise_answer-answer.ensures in
    c.in_ok-append.ensures.appended
    ∙ ap (λ e. record c.args.self.now { entries = c.args.self.now.entries ++ e ∷ [] }) (c.plain.ensures ∙ ap plain c.revise_event-event.ensures)
    ∙ sym (ap (grown c.args.self.now) (ap (λ iri. revise_step c.args.self.now c.args.session iri) (sym c.in_ok-iri.ensures) ∙ taken_so))
