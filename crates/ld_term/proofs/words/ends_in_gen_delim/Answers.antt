use Rattle.std.proofs.Common.{◌≡◌, ◌-◌, ℕ, List, length, Some, None, sym, ap, ◌∙◌}
use Rattle.std.specs.Prelude.{slice_get}
use Rattle.ld_term.proofs.Texts.{ends_some, ends_none}
use Rattle.ld_term.proofs.words.ends_in_gen_delim.Goals as goal

pub returns-in-Some : goal.returns-in-Some
returns-in-Some c =
    let same : c.as_bytes.result.now ≡ c.args.iri.now = c.as_bytes.ensures.value ∙ c.as_str.ensures in
    let last : Some c.in-Some.last.now ≡ slice_get c.as_bytes.result.now (length c.as_bytes.result.now - 1) = c.in-Some.ensures.value in
    c.is_gen_delim.ensures ∙ sym (ends_some c.args.iri.now c.in-Some.last.now (ap (λ (l : List ℕ). slice_get l (length l - 1)) (sym same) ∙ sym last))

pub returns-in-None : goal.returns-in-None
returns-in-None c =
    let same : c.as_bytes.result.now ≡ c.args.iri.now = c.as_bytes.ensures.value ∙ c.as_str.ensures in
    let last : None ≡ slice_get c.as_bytes.result.now (length c.as_bytes.result.now - 1) = c.in-None.ensures.value in
    sym (ends_none c.args.iri.now (ap (λ (l : List ℕ). slice_get l (length l - 1)) (sym same) ∙ sym last))
