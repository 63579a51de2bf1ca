use Rattle.std.proofs.Common.{[]}
use Rattle.ld_fits.specs.Play.{Idle}
use Rattle.ld_moves.proofs.Stepping.{close_moves}
use Rattle.ld_moves.proofs.steps.closes_move.Goals as goal

pub returns : goal.returns
returns c session limits front found text t f is = close_moves session limits front found f t is (Idle [] text)
