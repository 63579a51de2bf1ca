use Rattle.std.proofs.Common.{◌∙◌, sym, ap, ap₂, ◌++◌, codes, option_copied}
use Rattle.std.specs.Str.{bytes_eq}
use Rattle.ld_iri.specs.Components.{parts, marked}
use Rattle.ld_iri.specs.Resolution.{resolved}
use Rattle.ld_iri.specs.Relative.{has_same_place, is_fragment_of, path_reference}
use Rattle.ld_iri.specs.View.{components}
use Rattle.ld_iri.proofs.Targets.{same_components}
use Rattle.ld_iri.proofs.Relatives.{relative_elsewhere, relative_fragment, relative_back, relative_no_way}
use Rattle.ld_iri.proofs.shortening.relative.Goals as goal

pub returns-then-not-has_same_place : goal.returns-then-not-has_same_place
returns-then-not-has_same_place c =
    let s = c.split-from.ensures in
    let t = c.split-to.ensures in
    let from = same_components (components c.split-from.result) (parts c.args.base.now) s.scheme s.authority s.path s.query s.fragment in
    let to = same_components (components c.split-to.result) (parts c.args.iri.now) t.scheme t.authority t.path t.query t.fragment in
    let place = sym (ap₂ has_same_place from to) ∙ sym c.if-not-has_same_place.ensures in
    c.in_ok-from_str.ensures.ok ∙ sym (relative_elsewhere c.args.base.now c.args.iri.now place)

pub returns-then-is_fragment_of : goal.returns-then-is_fragment_of
returns-then-is_fragment_of c =
    let s = c.split-from.ensures in
    let t = c.split-to.ensures in
    let from = same_components (components c.split-from.result) (parts c.args.base.now) s.scheme s.authority s.path s.query s.fragment in
    let to = same_components (components c.split-to.result) (parts c.args.iri.now) t.scheme t.authority t.path t.query t.fragment in
    let place = sym (ap₂ has_same_place from to) ∙ sym c.if-not-has_same_place.ensures in
    let fragment = sym (ap₂ is_fragment_of from to) ∙ sym c.if-is_fragment_of.ensures in
    c.in_ok-push_marked.ensures
    ∙ ap (λ x. x ++ marked (codes "#") (option_copied c.split-to.result.fragment)) c.in_ok-text.ensures.bytes
    ∙ ap (marked (codes "#")) t.fragment
    ∙ sym (relative_fragment c.args.base.now c.args.iri.now place fragment)

pub returns-then-eq : goal.returns-then-eq
returns-then-eq c =
    let s = c.split-from.ensures in
    let t = c.split-to.ensures in
    let from = same_components (components c.split-from.result) (parts c.args.base.now) s.scheme s.authority s.path s.query s.fragment in
    let to = same_components (components c.split-to.result) (parts c.args.iri.now) t.scheme t.authority t.path t.query t.fragment in
    let place = sym (ap₂ has_same_place from to) ∙ sym c.if-not-has_same_place.ensures in
    let fragment = sym (ap₂ is_fragment_of from to) ∙ sym c.if-is_fragment_of.ensures in
    let reference = c.as_str.ensures.value ∙ c.in_ok-reference.ensures ∙ ap₂ path_reference from to in
    let reached = c.in_ok-reached.ensures ∙ ap (resolved c.args.base.now) reference in
    let back = ap (λ r. bytes_eq r c.args.iri.now) (sym (c.as_str-2.ensures.value ∙ reached)) ∙ sym c.if-eq.ensures in
    c.in_ok-reference.ensures ∙ ap₂ path_reference from to ∙ sym (relative_back c.args.base.now c.args.iri.now place fragment back)

pub returns-in_ok-from_str-2 : goal.returns-in_ok-from_str-2
returns-in_ok-from_str-2 c =
    let s = c.split-from.ensures in
    let t = c.split-to.ensures in
    let from = same_components (components c.split-from.result) (parts c.args.base.now) s.scheme s.authority s.path s.query s.fragment in
    let to = same_components (components c.split-to.result) (parts c.args.iri.now) t.scheme t.authority t.path t.query t.fragment in
    let place = sym (ap₂ has_same_place from to) ∙ sym c.if-not-has_same_place.ensures in
    let fragment = sym (ap₂ is_fragment_of from to) ∙ sym c.if-is_fragment_of.ensures in
    let reference = c.as_str.ensures.value ∙ c.in_ok-reference.ensures ∙ ap₂ path_reference from to in
    let reached = c.in_ok-reached.ensures ∙ ap (resolved c.args.base.now) reference in
    let back = ap (λ r. bytes_eq r c.args.iri.now) (sym (c.as_str-2.ensures.value ∙ reached)) ∙ sym c.if-eq.ensures in
    c.in_ok-from_str-2.ensures.ok ∙ sym (relative_no_way c.args.base.now c.args.iri.now place fragment back)
