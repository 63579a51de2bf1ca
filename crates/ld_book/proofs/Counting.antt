-- The numbers that come next after a legal history fit their types.
use Rattle.std.proofs.Common.{refl}
use Rattle.ld_history.specs.declared.limits.Limits.{Limits}
use Rattle.ld_history.specs.Legal.{AreWithin, Entries, Legal, state}
use Rattle.ld_history.specs.Choices.{CanCount}
use Rattle.ld_history.proofs.Counting.{can_count}
use Rattle.ld_history.proofs.LawHolds.{events_counted}
use Rattle.ld_history.proofs.LawTold.{by_turns}

pub counts : (limits : Limits) (entries : Entries) → AreWithin limits → Legal limits entries → CanCount (state entries)
counts limits entries within legal =
    let turns = by_turns limits entries legal in
    can_count limits entries (state entries) (record { within = within; legal = turns; replayed = refl; counted = events_counted limits entries within.held turns })
