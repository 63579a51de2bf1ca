use Rattle.std.proofs.Common.{◌∙◌, sym, ap, Option, List, ℕ, option_copied}
use Rattle.ld_iri.specs.View.{components}
use Rattle.ld_iri.specs.Components.{Components}
use Rattle.ld_iri.proofs.Targets.{copied_is, option_copied-option_or, is_empty-length, target_of_scheme, target_of_authority, target_of_empty, target_with_path}
use Rattle.ld_iri.proofs.resolution.with_path.Goals as goal

pub returns-then-is_some : goal.returns-then-is_some
returns-then-is_some c =
    sym (ap (λ (t : Components). record t { path = c.args.path.now }) (target_of_scheme _ _ (copied_is _ _ c.if-is_some.ensures)))

pub returns-then-is_some-2 : goal.returns-then-is_some-2
returns-then-is_some-2 c =
    sym (ap (λ (t : Components). record t { path = c.args.path.now }) (target_of_authority _ _ (copied_is _ _ c.if-is_some.ensures) (copied_is _ _ c.if-is_some-2.ensures)))

pub returns-then-is_empty : goal.returns-then-is_empty
returns-then-is_empty c =
    ap (λ (q : Option (List ℕ)). record (components c.args.base.now) { path = c.args.path.now; query = q; fragment = option_copied c.args.reference.now.fragment })
    (ap option_copied c.or.ensures ∙ option_copied-option_or c.args.reference.now.query c.args.base.now.query)
    ∙ sym (ap (λ (t : Components). record t { path = c.args.path.now }) (target_of_empty (components c.args.base.now) (components c.args.reference.now) (copied_is _ _ c.if-is_some.ensures) (copied_is _ _ c.if-is_some-2.ensures)
    (is_empty-length c.args.reference.now.path.now ∙ sym c.if-is_empty.ensures)))

pub returns : goal.returns
returns c =
    sym (target_with_path _ _ c.args.path.now (copied_is _ _ c.if-is_some.ensures) (copied_is _ _ c.if-is_some-2.ensures) (is_empty-length c.args.reference.now.path.now ∙ sym c.if-is_empty.ensures))
