use Rattle.ld_nodes.proofs.Telling.{told_apart}
use Rattle.ld_nodes.proofs.laws.numbers_tell_keys_apart.Goals as goal

pub returns : goal.returns
returns g c keys a b n = told_apart g.met.K.Ord.total keys a b n
