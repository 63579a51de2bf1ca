-- What an evaluation comes to.
use Rattle.std.specs.Prelude.{◌≡◌, Result, Some, Err}
use Rattle.ld_fits.specs.Play.{result}
use Rattle.ld_rec.specs.declared.stop.Stop.{Stop}
use Rattle.ld_rec.specs.declared.stop.Stop.TheVariants as stop
use Rattle.ld_tree.specs.declared.tree.Tree.{Tree}
use Rattle.ld_talk.specs.declared.judging.Judged.{Judged}
use Rattle.ld_talk.specs.declared.judging.Judged.TheVariants as judged

-- it is this outcome, or this context is missing
abbrev pub IsJudged : Result Tree Stop → Judged → Type 0
IsJudged r (judged.Outcome outcome) = result r ≡ Some outcome
IsJudged r (judged.Missing iri) = r ≡ Err (stop.Missing iri)
