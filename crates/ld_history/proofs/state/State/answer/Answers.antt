use Rattle.std.proofs.Common.{ap, sym, ◌∙◌, true}
use Rattle.std.specs.Prelude.{option_map}
use Rattle.ld_history.specs.declared.event.Event.TheVariants as event
use Rattle.ld_history.specs.Seen.{seen}
use Rattle.ld_history.specs.Steps.{plain, grown}
use Rattle.ld_history.proofs.Answering.{allowed_so, answers_so, allowed_outside}
use Rattle.ld_history.proofs.state.State.answer.Goals as goal

pub append_end-requires-clause-allowed : goal.append_end-requires-clause-allowed
append_end-requires-clause-allowed c =
    let s = c.self.inside in
    let may = allowed_so s.limits s.history.items (seen s.tables) c.args.self.now c.self.invariant.kept c.self.view_is c.args.session c.args.how c.unwrap-request.result (sym c.request.ensures ∙ c.unwrap-request.ensures) c.requires in
    allowed_outside s.limits s.history.items (seen s.tables) c.args.self.now c.self.invariant.kept c.self.view_is (plain (event.Answered c.args.session c.unwrap-request.result c.args.how)) may

pub returns-clause-answered : goal.returns-clause-answered
returns-clause-answered c =
    let s = c.self.inside in
    let is = sym c.request.ensures ∙ c.unwrap-request.ensures in
    let may = allowed_so s.limits s.history.items (seen s.tables) c.args.self.now c.self.invariant.kept c.self.view_is c.args.session c.args.how c.unwrap-request.result is c.requires in
    ap (option_map (λ t. t.answer)) (answers_so s.limits s.history.items (seen s.tables) c.args.self.now c.self.invariant.kept c.self.view_is c.args.session c.args.how c.unwrap-request.result is true (sym may))

pub returns-clause-appended : goal.returns-clause-appended
returns-clause-appended c =
    let s = c.self.inside in
    let is = sym c.request.ensures ∙ c.unwrap-request.ensures in
    let may = allowed_so s.limits s.history.items (seen s.tables) c.args.self.now c.self.invariant.kept c.self.view_is c.args.session c.args.how c.unwrap-request.result is c.requires in
    c.append_end.ensures
    ∙ sym (ap (grown c.args.self.now) (answers_so s.limits s.history.items (seen s.tables) c.args.self.now c.self.invariant.kept c.self.view_is c.args.session c.args.how c.unwrap-request.result is true (sym may)))
