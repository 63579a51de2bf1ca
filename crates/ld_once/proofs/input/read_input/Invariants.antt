use Rattle.std.proofs.Common.{◌-◌, ◌≤◌, ◌<◌, vec_len}
use Rattle.ld_once.specs.Runs.{Reads}
use Rattle.ld_once.proofs.input.read_input.Given as goal

abbrev pub invariant-loop-bytes : goal.invariant-loop-bytes
invariant-loop-bytes g l = record {
  in_limit : vec_len l.bytes ≤ 4194305;
  some_piece : 0 < vec_len l.piece;
  read : Reads (g.S.Source.incoming l.initial.input) (g.S.Source.incoming l.input) l.bytes.items;
}

abbrev pub decreases-loop-bytes : goal.decreases-loop-bytes
decreases-loop-bytes g l = 4194305 - vec_len l.bytes
