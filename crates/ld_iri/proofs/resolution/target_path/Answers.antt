use Rattle.std.proofs.Common.{◌≡◌, ◌∙◌, sym, ap, lit<}
use Rattle.std.proofs.lemmas.Result.{IfOk-weaker}
use Rattle.std.proofs.lemmas.Str.Pattern.{starts_char}
use Rattle.ld_iri.specs.Components.{Components}
use Rattle.ld_iri.specs.View.{components}
use Rattle.ld_iri.specs.Resolution.{target, remove_dot_segments, without_dots, segments}
use Rattle.ld_iri.proofs.Targets.{copied_is, is_empty-length, begins_with_slash-from, target_of_scheme, target_of_authority, target_of_empty, target_of_slash, target_of_path}
use Rattle.ld_iri.proofs.resolution.target_path.Goals as goal
use Rattle.ld_iri.proofs.resolution.target_path.Goals.{then-is_some-via-then-is_some, then-is_some-via-else-is_some+then-is_some-2}

pub returns-then-is_some : goal.returns-then-is_some
returns-then-is_some c =
    let e : (target (components c.args.base.now) (components c.args.reference.now)).path ≡ remove_dot_segments c.args.reference.now.path.now = elim c.then-is_some.branch [
      | then-is_some-via-then-is_some w ↦ ap (λ (t : Components). t.path) (target_of_scheme _ _ (copied_is _ _ w.if-is_some.ensures))
      | then-is_some-via-else-is_some+then-is_some-2 w ↦ ap (λ (t : Components). t.path) (target_of_authority _ _ (copied_is _ _ w.if-is_some.ensures) (copied_is _ _ w.if-is_some-2.ensures))
    ] in IfOk-weaker c.without_dots.result _ _ (λ text h. h ∙ sym e) c.without_dots.ensures

pub returns-then-is_empty : goal.returns-then-is_empty
returns-then-is_empty c =
    c.in_ok-from_str.ensures.ok ∙ sym (ap (λ (t : Components). t.path) (target_of_empty (components c.args.base.now) (components c.args.reference.now)
    (copied_is _ _ c.if-is_some.ensures) (copied_is _ _ c.if-is_some-2.ensures) (is_empty-length c.args.reference.now.path.now ∙ sym c.if-is_empty.ensures)))

pub returns-then-starts_with : goal.returns-then-starts_with
returns-then-starts_with c =
    let slash = begins_with_slash-from c.args.reference.now.path.now c.starts_with.result (starts_char 47 _ _ c.starts_with.ensures.cases (lit< tt) (lit< tt)) ∙ c.if-starts_with.true in
    let e = target_of_slash (components c.args.base.now) (components c.args.reference.now) (copied_is _ _ c.if-is_some.ensures) (copied_is _ _ c.if-is_some-2.ensures) (is_empty-length c.args.reference.now.path.now ∙ sym c.if-is_empty.ensures) slash in
    IfOk-weaker c.without_dots-then-starts_with.result _ _ (λ text h. h ∙ sym (ap (λ (t : Components). t.path) e)) c.without_dots-then-starts_with.ensures

pub returns : goal.returns
returns c =
    let slash = begins_with_slash-from c.args.reference.now.path.now c.starts_with.result (starts_char 47 _ _ c.starts_with.ensures.cases (lit< tt) (lit< tt)) ∙ c.if-starts_with.false in
    let e = target_of_path (components c.args.base.now) (components c.args.reference.now) (copied_is _ _ c.if-is_some.ensures) (copied_is _ _ c.if-is_some-2.ensures) (is_empty-length c.args.reference.now.path.now ∙ sym c.if-is_empty.ensures) slash in
    IfOk-weaker c.without_dots-2.result _ _ (λ text h. h ∙ sym (ap (λ (t : Components). t.path) e ∙ ap without_dots (c.merge_folder.ensures (segments c.args.reference.now.path.now)))) c.without_dots-2.ensures
