use Rattle.std.proofs.Common.{refl}
use Rattle.ld_once.specs.Runs.{soaked}
use Rattle.ld_once.proofs.run.run.Goals as goal

pub returns-in-Some : goal.returns-in-Some
returns-in-Some g c = soaked c.run_soak.result c.in-Some.count c.in-Some.ensures refl refl c.run_soak.ensures
