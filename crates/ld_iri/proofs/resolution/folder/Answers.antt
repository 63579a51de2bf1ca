use Rattle.std.proofs.Common.{◌≡◌, ◌∙◌, sym, ap, take, Some, None, lit<, arith, option_copied}
use Rattle.std.proofs.lemmas.Str.Pattern.{rfind_char}
use Rattle.std.proofs.lemmas.Grind.{common_steps}
use Rattle.ld_iri.specs.Resolution.{folder_segments, segments}
use Rattle.ld_iri.proofs.Segments.{folders_last, folders_none}
use Rattle.ld_iri.proofs.resolution.folder.Goals as goal

pub returns-in_err-at : goal.returns-in_err-at
returns-in_err-at c =
    let p = rfind_char 47 c.args.path.now None c.in_err-at.ensures.cases (lit< tt) in
    folders_none c.args.path.now p ∙ sym (ap (λ o. folder_segments (option_copied o)) c.from_residual.ensures)

pub returns : goal.returns
returns c =
    let p = rfind_char 47 c.args.path.now (Some c.in_ok-at.at) c.in_ok-at.ensures.cases (lit< tt) in
    let front : take c.in_ok-at.at c.args.path.now ≡ c.range.result.now = grind (arith, common_steps, c.range.ensures.value) in
    folders_last c.args.path.now c.in_ok-at.at p.0 p.1 p.2 ∙ ap segments front
