use Rattle.std.proofs.Common.{◌∙◌, sym, ap, ◌++◌, Some, None, codes, string_bytes, append_assoc, append-nil, lit<, rules}
use Rattle.std.proofs.lemmas.Str.Pattern.{split_parts}
use Rattle.ld_iri.specs.Resolution.{folders}
use Rattle.ld_iri.specs.Relative.{steps_up}
use Rattle.ld_iri.proofs.Segments.{folders_none}
use Rattle.ld_iri.proofs.Ways.{folders_first}
use Rattle.ld_iri.proofs.shortening.push_steps_up.Goals as goal

pub loop-after-preserved : goal.loop-after-preserved
loop-after-preserved c =
    let p = split_parts 47 c.loop-after.rest.now (Some (c.in-Some.field-0-0, c.in-Some.after)) c.in-Some.ensures.cases (lit< tt) in (
      search rules,
      ap (λ t. t ++ steps_up (folders c.in-Some.after.now)) c.in_ok-push_str.ensures.bytes
          ∙ append_assoc (string_bytes c.loop-after.text) (codes "../") (steps_up (folders c.in-Some.after.now))
          ∙ sym (ap (λ f. string_bytes c.loop-after.text ++ steps_up f) (ap folders p.0 ∙ folders_first c.in-Some.field-0-0.now c.in-Some.after.now p.1))
          ∙ c.loop-after.invariant.1,
    )

pub returns : goal.returns
returns c =
    let p = split_parts 47 c.loop-after.rest.now None c.in_default.ensures.cases (lit< tt) in
    sym (append-nil (string_bytes c.loop-after.text))
    ∙ sym (ap (λ f. string_bytes c.loop-after.text ++ steps_up f) (folders_none c.loop-after.rest.now p))
    ∙ c.loop-after.invariant.1
