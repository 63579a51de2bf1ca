use Rattle.std.proofs.Common.{◌≡◌, ◌∙◌, sym, ap, subst, true, Some}
use Rattle.std.specs.Prelude.{option_map}
use Rattle.ld_history.specs.declared.event.Event.TheVariants as event
use Rattle.ld_history.specs.declared.plans.EvictPlan.{EvictPlan}
use Rattle.ld_history.specs.declared.plans.EvictPlan.TheVariants as evict_plan
use Rattle.ld_history.specs.Store.{Store}
use Rattle.ld_history.specs.Seen.{seen}
use Rattle.ld_history.specs.Legal.{History, state}
use Rattle.ld_history.specs.ByTurns.{allows}
use Rattle.ld_history.specs.After.{after}
use Rattle.ld_history.specs.Steps.{plain}
use Rattle.ld_history.specs.Plans.{evict_found, evict_taken, told_out}
use Rattle.ld_history.proofs.Counting.{can_count}
use Rattle.ld_history.proofs.StepEvict.{evict_allowed}
use Rattle.ld_history.proofs.KeptStep.{taken_allowed}
use Rattle.ld_history.proofs.state.State.evict.Goals as goal

pub evicting-requires : goal.evicting-requires
evicting-requires c = can_count c.self.inside.limits c.self.inside.history.items (seen c.self.inside.tables) c.self.invariant.kept

pub append-requires : goal.append-requires
append-requires c =
    let s = c.self.inside in
    let session = c.args.session in
    let iri = c.in_ok-iri.iri in
    let plan = evict_plan.One c.in-One.answer c.in-One.event in
    let is : evict_found (seen s.tables) session iri ≡ Some (evict_taken session iri plan) = sym c.evicting.ensures ∙ ap (option_map (evict_taken session iri)) (c.in-Some.is ∙ ap (λ (p : EvictPlan). Some p) c.in-One.is) in
    let ok = taken_allowed s.limits s.history.items (seen s.tables) c.self.invariant.kept (λ (x : Store). evict_found x session iri) (evict_taken session iri plan)
    (evict_allowed s.limits s.history.items c.self.invariant.kept.legal session iri) is in
    ap (allows c.args.self.now.limits (state c.args.self.now.entries)) c.plain.ensures ∙ subst (λ (h : History). allows h.limits (state h.entries) (plain c.in-One.event) ≡ true) c.self.view_is ok.0

pub evict-requires-clause-out : goal.evict-requires-clause-out
evict-requires-clause-out c =
    let s = c.self.inside in
    let session = c.args.session in
    let iri = c.in_ok-iri.iri in
    let plan = evict_plan.Evict c.in-Evict.request c.in-Evict.version in
    let is : evict_found (seen s.tables) session iri ≡ Some (evict_taken session iri plan) = sym c.evicting.ensures ∙ ap (option_map (evict_taken session iri)) (c.in-Some.is ∙ ap (λ (p : EvictPlan). Some p) c.in-Evict.is) in
    let ok = taken_allowed s.limits s.history.items (seen s.tables) c.self.invariant.kept (λ (x : Store). evict_found x session iri) (evict_taken session iri plan)
    (evict_allowed s.limits s.history.items c.self.invariant.kept.legal session iri) is in
    subst (λ (h : History). allows h.limits (state h.entries) (plain (event.Evicted session iri c.in-Evict.version)) ≡ true) c.self.view_is ok.0

pub evict-requires-clause-told : goal.evict-requires-clause-told
evict-requires-clause-told c =
    let s = c.self.inside in
    let session = c.args.session in
    let iri = c.in_ok-iri.iri in
    let plan = evict_plan.Evict c.in-Evict.request c.in-Evict.version in
    let is : evict_found (seen s.tables) session iri ≡ Some (evict_taken session iri plan) = sym c.evicting.ensures ∙ ap (option_map (evict_taken session iri)) (c.in-Some.is ∙ ap (λ (p : EvictPlan). Some p) c.in-Evict.is) in
    let ok = taken_allowed s.limits s.history.items (seen s.tables) c.self.invariant.kept (λ (x : Store). evict_found x session iri) (evict_taken session iri plan)
    (evict_allowed s.limits s.history.items c.self.invariant.kept.legal session iri) is in
    subst (λ (h : History). allows h.limits (after (state h.entries) (plain (event.Evicted session iri c.in-Evict.version))) (plain (told_out session c.in-Evict.request c.in-Evict.version)) ≡ true) c.self.view_is ok.1.0
