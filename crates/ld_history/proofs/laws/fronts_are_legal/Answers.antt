use Rattle.std.proofs.Common.{[]}
use Rattle.ld_history.proofs.LawTold.{legal_front}
use Rattle.ld_history.proofs.laws.fronts_are_legal.Goals as goal

pub returns : goal.returns
returns c limits front back legal = legal_front limits [] front back legal
