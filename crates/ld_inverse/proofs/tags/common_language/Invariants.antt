use Rattle.std.proofs.Common.{◌≡◌, drop}
use denote.Text.{Utf8}
use denote.Shadow.{shadow}
use Rattle.ld_rec.specs.Wishes.{common_language}
use Rattle.ld_inverse.proofs.tags.common_language.Given as goal

-- what is left gives what the whole gives
abbrev pub invariant-loop-item : goal.invariant-loop-item
invariant-loop-item l = (common_language l.first l.items ≡ common_language l.common (drop l.item-index l.items)) × shadow (Utf8 l.common)
