use Rattle.ld_items.proofs.Saying.{first_due, first_said}
use Rattle.ld_items.proofs.laws.first_items_are_said.Goals as goal

pub returns-clause-first : goal.returns-clause-first
returns-clause-first c came bytes items p d said says = first_said came items p said bytes d says

pub returns-clause-due : goal.returns-clause-due
returns-clause-due c came bytes items p d said due says = first_due came items p said bytes d due says
