use Rattle.std.proofs.Common.{◌≡◌, ◌++◌, string_bytes, length}
use denote.Text.{Utf8}
use denote.Shadow.{shadow}
use Rattle.ld_iri.specs.Resolution.{folders}
use Rattle.ld_iri.specs.Relative.{steps_up}
use Rattle.ld_iri.proofs.shortening.push_steps_up.Given as goal

abbrev pub invariant-loop-after : goal.invariant-loop-after
invariant-loop-after l = shadow (Utf8 l.rest) × (string_bytes l.text ++ steps_up (folders l.rest) ≡ string_bytes l.initial.text ++ steps_up (folders l.path))

abbrev pub decreases-loop-after : goal.decreases-loop-after
decreases-loop-after l = length l.rest
