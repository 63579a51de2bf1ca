use Rattle.std.proofs.Common.{◌≡◌, ◌∙◌, sym, ap, subst, ◌∷◌, ◌++◌, Some, None, lit<, rules}
use Rattle.std.proofs.lemmas.Str.Pattern.{split_parts}
use Rattle.std.proofs.lemmas.Slice.Eq.{bytes_eq-Decides}
use Rattle.ld_iri.specs.Resolution.{segments, folders}
use Rattle.ld_iri.specs.Relative.{way}
use Rattle.ld_iri.proofs.Cuts.{not_is}
use Rattle.ld_iri.proofs.Ways.{EndsAt, ends_no_folder, ends_one_segment, ends_unlike, way_step}
use Rattle.ld_iri.proofs.shortening.left_over.Goals as goal

pub returns-in_default-split_once : goal.returns-in_default-split_once
returns-in_default-split_once c =
    let q = split_parts 47 c.loop-folder.path_left.now None c.in_default-split_once.ensures.cases (lit< tt) in
    sym (ends_one_segment c.loop-folder.base_left.now c.loop-folder.path_left.now q) ∙ c.loop-folder.invariant.2

pub returns-then-ne : goal.returns-then-ne
returns-then-ne c =
    let p = split_parts 47 c.loop-folder.base_left.now (Some (c.in-Some.folder, c.in-Some.base_rest)) c.in-Some.ensures.cases (lit< tt) in
    let q = split_parts 47 c.loop-folder.path_left.now (Some (c.in-Some-split_once.segment, c.in-Some-split_once.path_rest)) c.in-Some-split_once.ensures.cases (lit< tt) in
    let there = subst (λ t. EndsAt t c.loop-folder.path_left.now) (sym p.0) (subst (λ t. EndsAt (c.in-Some.folder.now ++ 47 ∷ c.in-Some.base_rest.now) t) (sym q.0)
    (ends_unlike c.in-Some.folder.now c.in-Some.base_rest.now c.in-Some-split_once.segment.now c.in-Some-split_once.path_rest.now p.1 q.1 (not_is _ _ c.if-ne.ensures))) in
    sym there ∙ c.loop-folder.invariant.2

pub loop-folder-preserved : goal.loop-folder-preserved
loop-folder-preserved c =
    let p = split_parts 47 c.loop-folder.base_left.now (Some (c.in-Some.folder, c.in-Some.base_rest)) c.in-Some.ensures.cases (lit< tt) in
    let q = split_parts 47 c.loop-folder.path_left.now (Some (c.in-Some-split_once.segment, c.in-Some-split_once.path_rest)) c.in-Some-split_once.ensures.cases (lit< tt) in
    let same : c.in-Some.folder.now ≡ c.in-Some-split_once.segment.now = (bytes_eq-Decides _ _).0 (not_is _ _ c.if-ne.ensures) in
    let path : c.loop-folder.path_left.now ≡ c.in-Some.folder.now ++ 47 ∷ c.in-Some-split_once.path_rest.now = q.0 ∙ ap (λ s. s ++ 47 ∷ c.in-Some-split_once.path_rest.now) (sym same) in (
      search rules,
      search rules,
      sym (way_step c.in-Some.folder.now c.in-Some.base_rest.now c.in-Some-split_once.path_rest.now p.1)
          ∙ sym (ap (λ t. way (folders t) (segments (c.in-Some.folder.now ++ 47 ∷ c.in-Some-split_once.path_rest.now))) p.0)
          ∙ sym (ap (λ t. way (folders c.loop-folder.base_left.now) (segments t)) path)
          ∙ c.loop-folder.invariant.2,
    )

pub returns : goal.returns
returns c =
    let p = split_parts 47 c.loop-folder.base_left.now None c.in_default.ensures.cases (lit< tt) in
    sym (ends_no_folder c.loop-folder.base_left.now c.loop-folder.path_left.now p) ∙ c.loop-folder.invariant.2
