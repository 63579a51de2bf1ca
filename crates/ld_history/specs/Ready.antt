-- What a `State` keeps beside its history: the state after it, and room for what is promised.
use Rattle.std.specs.Prelude.{◌≤◌, ℕ, ◌+◌, ◌*◌, Bool, true, false, List, length}
use Rattle.ld_blocks.specs.Listed.{Listed}
use Rattle.ld_history.specs.declared.limits.Limits.{Limits}
use Rattle.ld_history.specs.declared.event.Given.{Given}
use Rattle.ld_history.specs.declared.event.Event.{Event}
use Rattle.ld_history.specs.declared.event.Event.TheVariants as event
use Rattle.ld_history.specs.declared.event.Entry.{Entry}
use Rattle.ld_history.specs.Store.{Store}
use Rattle.ld_history.specs.Words.{requests_under_way}
use Rattle.ld_history.specs.ByTurns.{IsKept}
use Rattle.ld_history.specs.Ahead.{promised}

pub record IsReady (limits : Limits) (history : Listed (Entry (List ℕ) Given)) (store : Store) : Type 0 where
  pub kept : IsKept limits history.items store
  pub room : promised history.items ≤ history.capacity

-- what open sessions and requests under way are promised at most
abbrev pub ahead : Store → ℕ
ahead store = 320 * requests_under_way store + length store.sessions

-- the event ends a flight, a request or a session, for which the tables take no memory
abbrev pub is_ending : Event (List ℕ) → Bool
is_ending (event.Failed flight before after) = true
is_ending (event.Lapsed flight) = true
is_ending (event.Answered session request how) = true
is_ending (event.Closed session) = true
is_ending _ = false
