-- The numbers that come next after a kept history fit their types.
use Rattle.std.proofs.Common.{◌≡◌, ◌+◌, ◌-◌, ◌^◌, ◌<◌, ◌≤◌, ℕ, zero, suc, length, Some, sym, ap, subst, arith, true, false}
use Rattle.std.proofs.lemmas.Option.{slice_get_within}
use Rattle.ld_history.specs.declared.limits.Limits.{Limits}
use Rattle.ld_history.specs.declared.session.Flight.{Flight}
use Rattle.ld_history.specs.declared.session.Last.{Last}
use Rattle.ld_history.specs.declared.session.Last.TheVariants as last
use Rattle.ld_history.specs.Store.{Store}
use Rattle.ld_history.specs.Words.{is_idle, flight_at}
use Rattle.ld_history.specs.Legal.{state, Entries, AreWithin}
use Rattle.ld_history.specs.ByTurns.{IsKept, Legal}
use Rattle.ld_history.specs.Choices.{CanCount}
use Rattle.ld_history.proofs.Bounded.{Bounded, bounded}

busy : (l : Last) → is_idle l ≡ false → l ≡ last.Idle → ⊥
busy l not is = let idle : is_idle l ≡ true = ap is_idle is in cc

small : (n most : ℕ) → n ≤ most → most ≤ 16777216 → n + 1 < 2 ^ 32
small n most le few = omega arith

at : (limits : Limits) (store : Store) → limits.held ≤ 64 → limits.events ≤ 16777216 → Bounded limits store → CanCount store
at limits store held events b =
    let few : store.events ≤ 16777216 = omega (arith, b.few, events) in
    record {
      version = omega (arith, b.version, few);
      opened = small store.opened store.events b.opened few;
      flights = small _ store.events b.flights few;
      requests = λ n s is. small s.request store.events (b.requests n s is) few;
      attempts = λ n s is not. let most = b.attempts n s is (busy s.last not) in small s.attempt (limits.held + 1) most (omega (arith, held));
    }

pub can_count : (limits : Limits) (entries : Entries) (store : Store) → IsKept limits entries store → CanCount store
can_count limits entries store kept =
    subst CanCount (sym kept.replayed) (at limits (state entries) kept.within.held kept.within.events (bounded limits entries kept.within.held kept.legal))

pub flight_fits : (limits : Limits) (entries : Entries) (number : ℕ) (flight : Flight) → AreWithin limits → Legal limits entries → flight_at (state entries).flights number ≡ Some flight → number < 2 ^ 32 - 1
flight_fits limits entries zero flight within legal is = omega arith
flight_fits limits entries (suc place) flight within legal is =
    let fit : length (state entries).flights + 1 < 2 ^ 32 = (at limits (state entries) within.held within.events (bounded limits entries within.held legal)).flights in
    omega (arith, fit, slice_get_within (state entries).flights place flight is)
