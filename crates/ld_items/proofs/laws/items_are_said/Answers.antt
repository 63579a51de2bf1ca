use Rattle.ld_items.proofs.Saying.{said_none, said_one_more}
use Rattle.ld_items.proofs.laws.items_are_said.Goals as goal

pub returns-clause-none : goal.returns-clause-none
returns-clause-none c = said_none

pub returns-clause-one_more : goal.returns-clause-one_more
returns-clause-one_more c came bytes went items p q source a said takes stays = said_one_more came items p said bytes went q source a takes stays
