use Rattle.ld_history.specs.Legal.{is_in_stock, state}
use Rattle.ld_fits.proofs.Leading.{entry_leads, evict_goes, lack_goes, revise_goes, stored_is_unled}
use Rattle.ld_fits.proofs.laws.steps_lead.Goals as goal

pub returns-clause-entry : goal.returns-clause-entry
returns-clause-entry c limits stock store session from entry mine = entry_leads limits stock store session from entry mine

pub returns-clause-lack : goal.returns-clause-lack
returns-clause-lack c limits stock entries session r op envelope iri t is = lack_goes limits stock (state entries) session (is_in_stock entries) r op envelope iri t is

pub returns-clause-revise : goal.returns-clause-revise
returns-clause-revise c limits stock entries session r iri t legal is = revise_goes limits stock (state entries) session r iri (stored_is_unled limits entries iri legal) t is

pub returns-clause-evict : goal.returns-clause-evict
returns-clause-evict c limits stock entries session r iri t is = evict_goes limits stock (state entries) session r iri t is
