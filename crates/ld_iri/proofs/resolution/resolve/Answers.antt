use Rattle.std.proofs.Common.{◌∙◌, ap, ◌++◌, List, ℕ}
use Rattle.ld_iri.specs.Components.{parts, recomposed}
use Rattle.ld_iri.specs.View.{components}
use Rattle.ld_iri.specs.Resolution.{target, resolved}
use Rattle.ld_iri.proofs.Targets.{same_components}
use Rattle.ld_iri.proofs.resolution.resolve.Goals as goal

pub returns : goal.returns
unfolding resolved
returns c =
    let s = c.split-base.ensures in
    let t = c.split-reference.ensures in
    let from = same_components (components c.split-base.result) (parts c.args.base.now) s.scheme s.authority s.path s.query s.fragment in
    let to = same_components (components c.split-reference.result) (parts c.args.reference.now) t.scheme t.authority t.path t.query t.fragment in
    let reached = target (components c.split-base.result) (components c.split-reference.result) in
    c.in_ok-push_parts.ensures
    ∙ ap (λ x. x ++ recomposed (components c.with_path.result)) c.in_ok-text.ensures.bytes
    ∙ ap recomposed (c.with_path.ensures
    ∙ ap (λ (p : List ℕ). record reached { path = p }) (c.as_str.ensures.value ∙ c.in_ok-path.ensures)
    ∙ ap (λ x. target x (components c.split-reference.result)) from
    ∙ ap (λ x. target (parts c.args.base.now) x) to)
