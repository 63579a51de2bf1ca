use Rattle.ld_history.proofs.LawHolds.{held_where, pinned_holds}
use Rattle.ld_history.proofs.LawTold.{by_turns}
use Rattle.ld_history.proofs.laws.held_stays.Goals as goal

pub returns-clause-held : goal.returns-clause-held
returns-clause-held c limits entries session s iri legal = held_where limits entries session s iri (by_turns limits entries legal)

pub returns-clause-pinned : goal.returns-clause-pinned
returns-clause-pinned c limits entries session s iri legal = pinned_holds limits entries session s iri (by_turns limits entries legal)
