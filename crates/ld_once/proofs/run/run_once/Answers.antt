use Rattle.ld_once.proofs.Contract.{Ended-exact, Ended-foreseen}
use Rattle.ld_once.proofs.Soaks.{Ended-soak}
use Rattle.ld_once.proofs.run.run_once.Goals as goal

pub returns : goal.returns
returns g c = record {
  ended = c.run.ensures;
  exact = Ended-exact _ _ _ _ _ _ _ _ c.run.ensures;
  foreseen = Ended-foreseen _ _ _ _ _ _ _ _ c.run.ensures;
  soak = Ended-soak _ _ _ _ _ _ _ _ c.run.ensures;
}
