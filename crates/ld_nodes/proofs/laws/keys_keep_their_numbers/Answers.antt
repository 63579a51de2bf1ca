use Rattle.ld_nodes.proofs.Telling.{stays}
use Rattle.ld_nodes.proofs.laws.keys_keep_their_numbers.Goals as goal

pub returns : goal.returns
returns g c table later key n = stays g.met.K.Ord.total table later key n
