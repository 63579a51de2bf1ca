use Rattle.std.proofs.Common.{◌∙◌, ap}
use Rattle.ld_iri.specs.Components.{parts, cut, scheme_and_rest, authority_and_path}
use Rattle.ld_iri.proofs.parts.split.Goals as goal

pub returns-clause-fragment : goal.returns-clause-fragment
unfolding parts
returns-clause-fragment c = c.cut.ensures.rest

pub returns-clause-query : goal.returns-clause-query
unfolding parts
returns-clause-query c = c.cut-2.ensures.rest ∙ ap (λ t. (cut 63 t).1) c.cut.ensures.front

pub returns-clause-scheme : goal.returns-clause-scheme
unfolding parts
returns-clause-scheme c =
    let front = c.cut-2.ensures.front ∙ ap (λ t. (cut 63 t).0) c.cut.ensures.front in
    c.scheme_and_rest.ensures.scheme ∙ ap (λ t. (scheme_and_rest t).0) front

pub returns-clause-authority : goal.returns-clause-authority
unfolding parts
returns-clause-authority c =
    let front = c.cut-2.ensures.front ∙ ap (λ t. (cut 63 t).0) c.cut.ensures.front in
    c.authority_and_path.ensures.authority ∙ ap (λ t. (authority_and_path t).0) (c.scheme_and_rest.ensures.rest ∙ ap (λ t. (scheme_and_rest t).1) front)

pub returns-clause-path : goal.returns-clause-path
unfolding parts
returns-clause-path c =
    let front = c.cut-2.ensures.front ∙ ap (λ t. (cut 63 t).0) c.cut.ensures.front in
    c.authority_and_path.ensures.path ∙ ap (λ t. (authority_and_path t).1) (c.scheme_and_rest.ensures.rest ∙ ap (λ t. (scheme_and_rest t).1) front)
