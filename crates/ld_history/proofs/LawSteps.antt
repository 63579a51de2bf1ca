-- A lack and a pin are steps exactly where their conditions hold.
use Rattle.std.proofs.Common.{◌≡◌, ℕ, ◌+◌, List, refl, Option, Some, None, Bool, true, false, ◌||◌}
use Rattle.std.specs.Prelude.{is_some, if◌then◌else◌}
use Rattle.ld_history.specs.declared.limits.Limits.{Limits}
use Rattle.ld_history.specs.declared.session.Session.{Session}
use Rattle.ld_history.specs.Words.{at_number, is_some_and, is_idle}
use Rattle.ld_history.specs.Rules.{on_session, may_pin_again}
use Rattle.ld_history.specs.Legal.{Entries, state, is_in_stock}
use Rattle.ld_history.specs.Steps.{of_found, where_, missing, may_lack, lack_step, pin_step, pinned, pinning, pinning_first}
use Rattle.ld_history.specs.ByTurns.{Legal}
use Rattle.ld_history.proofs.NextGoes.{missing_some}

module _ (limits : Limits) (entries : Entries) (session : ℕ) where
  module _ (iri : List ℕ) (legal : Legal limits entries) where
    missing_by : (s : Session) (may : Bool) → is_some (if may then missing limits (state entries) session iri s else None) ≡ may
    missing_by s true = missing_some limits entries legal session iri s
    missing_by s false = refl

    lack_by : (o : Option Session) → is_some (of_found (λ s. if may_lack (is_in_stock entries) iri s then missing limits (state entries) session iri s else None) o)
        ≡ is_some_and (may_lack (is_in_stock entries) iri) o
    lack_by None = refl
    lack_by (Some s) = missing_by s (may_lack (is_in_stock entries) iri s)

    pub lack_taken_where : is_some (lack_step (record { limits = limits; entries = entries }) session iri) ≡ on_session (state entries) session (may_lack (is_in_stock entries) iri)
    lack_taken_where = lack_by (at_number (state entries).sessions session)

  again_by : (s : Session) (may : Bool) → is_some (where_ may (pinned (state entries) session s.request (s.attempt + 1))) ≡ may
  again_by s true = refl
  again_by s false = refl

  pinning_by : (s : Session) (idle : Bool)
      → is_some (if idle then Some (pinning_first limits (state entries) session s) else where_ (may_pin_again (state entries) s.last) (pinned (state entries) session s.request (s.attempt + 1)))
      ≡ (idle || may_pin_again (state entries) s.last)
  pinning_by s true = refl
  pinning_by s false = again_by s (may_pin_again (state entries) s.last)

  pin_by : (o : Option Session) → is_some (of_found (pinning limits (state entries) session) o) ≡ is_some_and (λ s. is_idle s.last || may_pin_again (state entries) s.last) o
  pin_by None = refl
  pin_by (Some s) = pinning_by s (is_idle s.last)

  pub pin_taken_where : is_some (pin_step (record { limits = limits; entries = entries }) session) ≡ on_session (state entries) session (λ s. is_idle s.last || may_pin_again (state entries) s.last)
  pin_taken_where = pin_by (at_number (state entries).sessions session)
