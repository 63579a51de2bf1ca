use Rattle.std.proofs.Common.{[], ◌∷◌, ◌++◌, ◌≡◌, ◌∙◌, sym, ap, subst, true, Some}
use Rattle.std.specs.Prelude.{option_map}
use Rattle.ld_history.specs.declared.answers.LackAnswer.TheVariants as lack_answer
use Rattle.ld_history.specs.declared.plans.LackPlan.{LackPlan}
use Rattle.ld_history.specs.declared.plans.LackPlan.TheVariants as lack_plan
use Rattle.ld_history.specs.Store.{Store}
use Rattle.ld_history.specs.Seen.{seen}
use Rattle.ld_history.specs.Legal.{History, state}
use Rattle.ld_history.specs.ByTurns.{allows, lack_found}
use Rattle.ld_history.specs.After.{after}
use Rattle.ld_history.specs.Steps.{plain, grown, lack_step}
use Rattle.ld_history.specs.Plans.{lack_planned, goes_out, comes_in}
use Rattle.ld_history.proofs.Counting.{can_count}
use Rattle.ld_history.proofs.StepLack.{lack_allowed}
use Rattle.ld_history.proofs.KeptStep.{few_held, taken_allowed}
use Rattle.ld_history.proofs.LawTold.{lack_kept}
use Rattle.ld_history.proofs.state.State.lack.Goals as goal

pub lacking-requires-clause-few : goal.lacking-requires-clause-few
lacking-requires-clause-few c = few_held c.self.inside.limits c.self.inside.history.items (seen c.self.inside.tables) c.self.invariant.kept

pub lacking-requires-clause-count : goal.lacking-requires-clause-count
lacking-requires-clause-count c = can_count c.self.inside.limits c.self.inside.history.items (seen c.self.inside.tables) c.self.invariant.kept

pub append-requires : goal.append-requires
append-requires c =
    let s = c.self.inside in
    let session = c.args.session in
    let iri = c.in_ok-iri.iri in
    let plan = lack_plan.One c.in-One.answer c.in-One.event in
    let is : lack_found s.limits (seen s.tables) session iri ≡ Some (lack_planned plan) = sym c.in_ok-plan.ensures ∙ ap (option_map lack_planned) (c.in-Some.is ∙ ap (λ (p : LackPlan). Some p) c.in-One.is) in
    let ok = taken_allowed s.limits s.history.items (seen s.tables) c.self.invariant.kept (λ (x : Store). lack_found s.limits x session iri) (lack_planned plan)
    (lack_allowed s.limits s.history.items c.self.invariant.kept.legal session iri) is in
    ap (allows c.args.self.now.limits (state c.args.self.now.entries)) c.plain.ensures ∙ subst (λ (h : History). allows h.limits (state h.entries) (plain c.in-One.event) ≡ true) c.self.view_is ok.0

pub replace-requires-clause-out : goal.replace-requires-clause-out
replace-requires-clause-out c =
    let s = c.self.inside in
    let session = c.args.session in
    let iri = c.in_ok-iri.iri in
    let plan = lack_plan.Replace c.in-Replace.r in
    let is : lack_found s.limits (seen s.tables) session iri ≡ Some (lack_planned plan) = sym c.in_ok-plan.ensures ∙ ap (option_map lack_planned) (c.in-Some.is ∙ ap (λ (p : LackPlan). Some p) c.in-Replace.is) in
    let ok = taken_allowed s.limits s.history.items (seen s.tables) c.self.invariant.kept (λ (x : Store). lack_found s.limits x session iri) (lack_planned plan)
    (lack_allowed s.limits s.history.items c.self.invariant.kept.legal session iri) is in
    subst (λ (h : History). allows h.limits (state h.entries) (plain (goes_out c.in-Replace.r)) ≡ true) c.self.view_is ok.0

pub replace-requires-clause-led : goal.replace-requires-clause-led
replace-requires-clause-led c =
    let s = c.self.inside in
    let session = c.args.session in
    let iri = c.in_ok-iri.iri in
    let plan = lack_plan.Replace c.in-Replace.r in
    let is : lack_found s.limits (seen s.tables) session iri ≡ Some (lack_planned plan) = sym c.in_ok-plan.ensures ∙ ap (option_map lack_planned) (c.in-Some.is ∙ ap (λ (p : LackPlan). Some p) c.in-Replace.is) in
    let ok = taken_allowed s.limits s.history.items (seen s.tables) c.self.invariant.kept (λ (x : Store). lack_found s.limits x session iri) (lack_planned plan)
    (lack_allowed s.limits s.history.items c.self.invariant.kept.legal session iri) is in
    subst (λ (h : History). allows h.limits (after (state h.entries) (plain (goes_out c.in-Replace.r))) (plain (comes_in c.in-Replace.r)) ≡ true) c.self.view_is ok.1.0

pub returns-in_default-clause-refused : goal.returns-in_default-clause-refused
returns-in_default-clause-refused c _ =
    let s = c.self.inside in
    let session = c.args.session in
    let iri = c.in_ok-iri.iri in
    let same : lack_step c.args.self.now c.args.session c.args.iri ≡ lack_found s.limits (seen s.tables) session iri
    = ap (λ iri. lack_step c.args.self.now c.args.session iri) (sym c.in_ok-iri.ensures) ∙ lack_kept s.limits s.history.items (seen s.tables) c.args.self.now c.self.invariant.kept c.self.view_is session iri in
    same ∙ sym c.in_ok-plan.ensures ∙ ap (option_map lack_planned) c.in_default.is

pub returns-in-One-clause-answered : goal.returns-in-One-clause-answered
returns-in-One-clause-answered c =
    let s = c.self.inside in
    let session = c.args.session in
    let iri = c.in_ok-iri.iri in
    let plan = lack_plan.One c.in-One.answer c.in-One.event in
    let is : lack_found s.limits (seen s.tables) session iri ≡ Some (lack_planned plan) = sym c.in_ok-plan.ensures ∙ ap (option_map lack_planned) (c.in-Some.is ∙ ap (λ (p : LackPlan). Some p) c.in-One.is) in
    let same : lack_step c.args.self.now c.args.session c.args.iri ≡ lack_found s.limits (seen s.tables) session iri
    = ap (λ iri. lack_step c.args.self.now c.args.session iri) (sym c.in_ok-iri.ensures) ∙ lack_kept s.limits s.history.items (seen s.tables) c.args.self.now c.self.invariant.kept c.self.view_is session iri in
    ap (option_map (λ t. t.answer)) (same ∙ is)

pub returns-in-One-clause-appended : goal.returns-in-One-clause-appended
returns-in-One-clause-appended c =
    let s = c.self.inside in
    let session = c.args.session in
    let iri = c.in_ok-iri.iri in
    let plan = lack_plan.One c.in-One.answer c.in-One.event in
    let is : lack_found s.limits (seen s.tables) session iri ≡ Some (lack_planned plan) = sym c.in_ok-plan.ensures ∙ ap (option_map lack_planned) (c.in-Some.is ∙ ap (λ (p : LackPlan). Some p) c.in-One.is) in
    let same : lack_step c.args.self.now c.args.session c.args.iri ≡ lack_found s.limits (seen s.tables) session iri
    = ap (λ iri. lack_step c.args.self.now c.args.session iri) (sym c.in_ok-iri.ensures) ∙ lack_kept s.limits s.history.items (seen s.tables) c.args.self.now c.self.invariant.kept c.self.view_is session iri in
    c.in_ok-append-in-One.ensures.appended ∙ ap (λ e. record c.args.self.now { entries = c.args.self.now.entries ++ e ∷ [] }) c.plain.ensures ∙ sym (ap (grown c.args.self.now) (same ∙ is))

pub returns-clause-answered : goal.returns-clause-answered
returns-clause-answered c =
    let s = c.self.inside in
    let session = c.args.session in
    let iri = c.in_ok-iri.iri in
    let plan = lack_plan.Replace c.in-Replace.r in
    let is : lack_found s.limits (seen s.tables) session iri ≡ Some (lack_planned plan) = sym c.in_ok-plan.ensures ∙ ap (option_map lack_planned) (c.in-Some.is ∙ ap (λ (p : LackPlan). Some p) c.in-Replace.is) in
    let same : lack_step c.args.self.now c.args.session c.args.iri ≡ lack_found s.limits (seen s.tables) session iri
    = ap (λ iri. lack_step c.args.self.now c.args.session iri) (sym c.in_ok-iri.ensures) ∙ lack_kept s.limits s.history.items (seen s.tables) c.args.self.now c.self.invariant.kept c.self.view_is session iri in
    ap (option_map (λ t. t.answer)) (same ∙ is)
    ∙ ap (λ out. Some (lack_answer.Led c.in-Replace.r.flight (Some (record { iri = out; version = c.in-Replace.r.version })))) (sym c.in_ok-share-in-Replace.ensures)

pub returns-clause-appended : goal.returns-clause-appended
returns-clause-appended c =
    let s = c.self.inside in
    let session = c.args.session in
    let iri = c.in_ok-iri.iri in
    let plan = lack_plan.Replace c.in-Replace.r in
    let is : lack_found s.limits (seen s.tables) session iri ≡ Some (lack_planned plan) = sym c.in_ok-plan.ensures ∙ ap (option_map lack_planned) (c.in-Some.is ∙ ap (λ (p : LackPlan). Some p) c.in-Replace.is) in
    let same : lack_step c.args.self.now c.args.session c.args.iri ≡ lack_found s.limits (seen s.tables) session iri
    = ap (λ iri. lack_step c.args.self.now c.args.session iri) (sym c.in_ok-iri.ensures) ∙ lack_kept s.limits s.history.items (seen s.tables) c.args.self.now c.self.invariant.kept c.self.view_is session iri in
    c.in_ok-replace-in-Replace.ensures.appended ∙ sym (ap (grown c.args.self.now) (same ∙ is))
