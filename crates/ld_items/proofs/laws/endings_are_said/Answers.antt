use Rattle.ld_items.proofs.Saying.{said_ended, said_last}
use Rattle.ld_items.proofs.laws.endings_are_said.Goals as goal

pub returns-clause-last : goal.returns-clause-last
returns-clause-last c came bytes went items p q source a said takes shut = said_last came items p said bytes went q source a takes shut

pub returns-clause-ended : goal.returns-clause-ended
returns-clause-ended c came bytes went items p q source ending said takes = said_ended came items p said bytes ending takes.0

pub returns-clause-stood : goal.returns-clause-stood
returns-clause-stood c came bytes went items p q source ending said takes = said_ended came items p said bytes ending takes.0
