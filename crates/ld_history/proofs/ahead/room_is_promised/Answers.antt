use Rattle.std.proofs.Common.{sym, ◌∙◌}
use Rattle.ld_history.proofs.LawRoom.{rises}
use Rattle.ld_history.proofs.LawTold.{by_turns, allowed_alike}
use Rattle.ld_history.proofs.ahead.room_is_promised.Goals as goal

pub returns : goal.returns
returns c = record {
  rises = λ limits entries entry small legal ok.
      rises limits small entries (by_turns limits entries legal) entry (sym (allowed_alike limits entries (by_turns limits entries legal) entry) ∙ ok);
}
