use Rattle.ld_history.proofs.LawHeld.{too_many_new}
use Rattle.ld_history.proofs.LawTold.{by_turns}
use Rattle.ld_history.proofs.laws.too_many_is_new.Goals as goal

pub returns : goal.returns
returns c limits entries session request s iri legal is ok = too_many_new limits entries session request s iri (by_turns limits entries legal) is ok
