use Rattle.std.proofs.Common.{◌≡◌, length}
use denote.Text.{Utf8}
use denote.Shadow.{shadow}
use Rattle.ld_iri.specs.Resolution.{segments, folders}
use Rattle.ld_iri.specs.Relative.{way}
use Rattle.ld_iri.proofs.shortening.left_over.Given as goal

abbrev pub invariant-loop-folder : goal.invariant-loop-folder
invariant-loop-folder l = shadow (Utf8 l.base_left) × shadow (Utf8 l.path_left) × (way (folders l.base_left) (segments l.path_left) ≡ way (folders l.base) (segments l.path))

abbrev pub decreases-loop-folder : goal.decreases-loop-folder
decreases-loop-folder l = length l.base_left
