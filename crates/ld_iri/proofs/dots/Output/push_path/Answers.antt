use Rattle.std.proofs.Common.{◌∙◌, sym, ap, ◌++◌, Some, None, lit<, rules}
use Rattle.std.proofs.lemmas.Result.{on_ok_weaker}
use Rattle.std.proofs.lemmas.Str.Pattern.{split_parts}
use Rattle.ld_iri.specs.Resolution.{segments}
use Rattle.ld_iri.specs.Outputs.{completes}
use Rattle.ld_iri.proofs.Segments.{segments_first, segments_one}
use Rattle.ld_iri.proofs.dots.Output.push_path.Goals as goal

pub loop-segment-preserved : goal.loop-segment-preserved
loop-segment-preserved c =
    let p = split_parts 47 c.loop-segment.rest.now (Some (c.in-Some.segment, c.in-Some.after)) c.in-Some.ensures.cases (lit< tt) in (
      search rules,
      λ more. c.in_ok-push.ensures (segments c.in-Some.after.now ++ more)
          ∙ sym (ap (λ t. completes c.loop-segment.self (t ++ more)) (ap segments p.0 ∙ segments_first _ _ p.1))
          ∙ c.loop-segment.invariant.1 more,
    )

pub returns : goal.returns
returns c =
    let p = split_parts 47 c.loop-segment.rest.now None c.in_default.ensures.cases (lit< tt) in
    on_ok_weaker c.push-2.result (λ h rest. h rest
    ∙ sym (ap (λ t. completes c.loop-segment.self (t ++ rest)) (segments_one c.loop-segment.rest.now p))
    ∙ c.loop-segment.invariant.1 rest) c.push-2.ensures
