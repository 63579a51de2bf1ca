use Rattle.ld_history.proofs.LawHolds.{room_kept, bytes_kept, events_counted}
use Rattle.ld_history.proofs.LawTold.{by_turns}
use Rattle.ld_history.proofs.laws.room_is_kept.Goals as goal

pub returns-clause-events : goal.returns-clause-events
returns-clause-events c limits entries small legal = room_kept limits entries small (by_turns limits entries legal)

pub returns-clause-bytes : goal.returns-clause-bytes
returns-clause-bytes c limits entries legal = bytes_kept limits entries (by_turns limits entries legal)

pub returns-clause-counted : goal.returns-clause-counted
returns-clause-counted c limits entries small legal = events_counted limits entries small (by_turns limits entries legal)
