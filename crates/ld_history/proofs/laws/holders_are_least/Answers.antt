use Rattle.ld_history.proofs.LawHeld.{holder_holds, holder_least, holder_none}
use Rattle.ld_history.proofs.LawTold.{by_turns}
use Rattle.ld_history.proofs.laws.holders_are_least.Goals as goal

pub returns-clause-holds : goal.returns-clause-holds
returns-clause-holds c limits entries iri holder legal is = holder_holds limits entries (by_turns limits entries legal) iri holder is

pub returns-clause-least : goal.returns-clause-least
returns-clause-least c limits entries iri holder session legal is h = holder_least limits entries (by_turns limits entries legal) iri holder session h.s is h.is h.has

pub returns-clause-none : goal.returns-clause-none
returns-clause-none c limits entries iri session legal is h = holder_none limits entries (by_turns limits entries legal) iri session h.s is h.is h.has
