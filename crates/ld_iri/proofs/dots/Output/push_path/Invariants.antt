use Rattle.std.proofs.Common.{◌≡◌, ◌++◌, List, ℕ, length}
use denote.Text.{Utf8}
use denote.Shadow.{shadow}
use Rattle.ld_iri.specs.Resolution.{segments}
use Rattle.ld_iri.specs.Outputs.{completes}
use Rattle.ld_iri.proofs.dots.Output.push_path.Given as goal

abbrev pub invariant-loop-segment : goal.invariant-loop-segment
invariant-loop-segment l = shadow (Utf8 l.rest) × ((more : List (List ℕ)) → completes l.self (segments l.rest ++ more) ≡ completes l.initial.self (segments l.path ++ more))

abbrev pub decreases-loop-segment : goal.decreases-loop-segment
decreases-loop-segment l = length l.rest
