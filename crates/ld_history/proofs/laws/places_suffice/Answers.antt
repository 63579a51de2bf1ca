use Rattle.ld_history.proofs.LawHolds.{places_kept}
use Rattle.ld_history.proofs.LawTold.{by_turns}
use Rattle.ld_history.proofs.laws.places_suffice.Goals as goal

pub returns : goal.returns
returns c = record { places = λ limits entries legal. places_kept limits entries (by_turns limits entries legal) }
