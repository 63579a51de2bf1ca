use Rattle.std.proofs.Common.{◌≡◌, ◌∙◌, sym, ap, Some, None}
use Rattle.std.specs.Prelude.{option_map}
use Rattle.ld_history.specs.Seen.{seen}
use Rattle.ld_history.specs.ByTurns.{lack_found}
use Rattle.ld_history.specs.Steps.{lack_step, out_at}
use Rattle.ld_history.specs.Plans.{lack_planned}
use Rattle.ld_history.proofs.Counting.{can_count}
use Rattle.ld_history.proofs.KeptStep.{few_held}
use Rattle.ld_history.proofs.LawTold.{lack_kept}
use Rattle.ld_history.proofs.state.State.out_of_lack.Goals as goal

pub lacking-requires-clause-few : goal.lacking-requires-clause-few
lacking-requires-clause-few c = few_held c.self.inside.limits c.self.inside.history.items (seen c.self.inside.tables) c.self.invariant.kept

pub lacking-requires-clause-count : goal.lacking-requires-clause-count
lacking-requires-clause-count c = can_count c.self.inside.limits c.self.inside.history.items (seen c.self.inside.tables) c.self.invariant.kept

pub returns-in-Some : goal.returns-in-Some
returns-in-Some c =
    let s = c.self.inside in
    let session = c.args.session in
    let iri = c.args.iri.now in
    let is : lack_found s.limits (seen s.tables) session iri ≡ Some (lack_planned c.in-Some.plan) = sym c.in_ok-plan.ensures ∙ ap (option_map lack_planned) c.in-Some.is in
    let same : lack_step c.args.self.now session iri ≡ lack_found s.limits (seen s.tables) session iri = lack_kept s.limits s.history.items (seen s.tables) c.args.self.now c.self.invariant.kept c.self.view_is session iri in
    c.into_out.ensures ∙ sym (ap out_at (same ∙ is))

pub returns-in-None : goal.returns-in-None
returns-in-None c =
    let s = c.self.inside in
    let session = c.args.session in
    let iri = c.args.iri.now in
    let is : lack_found s.limits (seen s.tables) session iri ≡ None = sym c.in_ok-plan.ensures ∙ ap (option_map lack_planned) c.in-None.is in
    let same : lack_step c.args.self.now session iri ≡ lack_found s.limits (seen s.tables) session iri = lack_kept s.limits s.history.items (seen s.tables) c.args.self.now c.self.invariant.kept c.self.view_is session iri in
    sym (ap out_at (same ∙ is))
