use Rattle.std.proofs.Common.{◌∙◌, sym, ap, take, Some, None, lit<}
use Rattle.std.proofs.lemmas.Str.Pattern.{rfind_char}
use Rattle.ld_iri.specs.Resolution.{without_last}
use Rattle.ld_iri.proofs.Segments.{without_last_at, without_last_none}
use Rattle.ld_iri.proofs.dots.remove_last.Goals as goal

pub returns-in-Some : goal.returns-in-Some
returns-in-Some c =
    let p = rfind_char 47 c.as_str.result.now (Some c.in-Some.at) c.in-Some.ensures.cases (lit< tt) in
    c.truncate.ensures.bytes ∙ ap (take c.in-Some.at) (sym c.as_str.ensures.value) ∙ sym (without_last_at c.as_str.result.now c.in-Some.at p.0 p.1 p.2) ∙ ap without_last c.as_str.ensures.value

pub returns-in-None : goal.returns-in-None
returns-in-None c =
    let p = rfind_char 47 c.as_str.result.now None c.in-None.ensures.cases (lit< tt) in
    c.clear.ensures.bytes ∙ sym (without_last_none c.as_str.result.now p) ∙ ap without_last c.as_str.ensures.value
