-- What a kept history gives to a step: what its sessions hold is few, and the rules allow its entries.
use Rattle.std.proofs.Common.{◌≡◌, ◌+◌, ◌*◌, ◌≤◌, arith, sym, ap, ◌∙◌, subst, Option, Some}
use Rattle.ld_history.specs.declared.limits.Limits.{Limits}
use Rattle.ld_history.specs.Store.{Store}
use Rattle.ld_history.specs.Legal.{state, Entries}
use Rattle.ld_history.specs.Counts.{loads_under_way}
use Rattle.ld_history.specs.Steps.{Taken}
use Rattle.ld_history.specs.Plans.{AreFew, AllowsStep}
use Rattle.ld_history.specs.ByTurns.{IsKept}
use Rattle.ld_history.proofs.LawHolds.{bytes_kept}
use Rattle.ld_history.proofs.LawSound.{sound}

module _ (limits : Limits) (entries : Entries) (store : Store) (kept : IsKept limits entries store) where
  pub few_held : AreFew limits store
  few_held = subst (AreFew limits) (sym kept.replayed) (λ n s is. ((sound limits entries kept.legal).crew.each n s is).few)

  -- the step that was found over the tables is the one over the history
  pub taken_allowed : {A : Type 0} (step : Store → Option (Taken A)) (t : Taken A) → AllowsStep limits (state entries) (step (state entries)) → step store ≡ Some t → AllowsStep limits (state entries) (Some t)
  taken_allowed step t allowed is = subst (AllowsStep limits (state entries)) (sym (ap step kept.replayed) ∙ is) allowed

-- the bytes that are kept are within the limit
pub bytes_within : (limits : Limits) (entries : Entries) (store : Store) → IsKept limits entries store → store.bytes ≤ limits.bytes
bytes_within limits entries store kept =
    let few : (state entries).bytes + 1048576 * loads_under_way (state entries).flights ≤ limits.bytes = bytes_kept limits entries kept.legal in
    let same : store.bytes ≡ (state entries).bytes = ap (λ (s : Store). s.bytes) kept.replayed in
    omega (arith, few, same)
