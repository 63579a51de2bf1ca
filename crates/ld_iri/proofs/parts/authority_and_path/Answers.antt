use Rattle.std.proofs.Common.{◌∙◌, sym, ap, Some, length, ◌∷◌, subst, take, drop, lit<}
use Rattle.std.specs.Str.{IsCharBoundary}
use Rattle.ld_iri.proofs.Cuts.{cut-boundary, take-cut, drop-cut, authority_some}
use Rattle.ld_iri.proofs.parts.authority_and_path.Goals as goal

pub split_at-requires : goal.split_at-requires
split_at-requires c = subst (λ t. IsCharBoundary c.in-Some.rest.now (length t)) (sym c.cut.ensures.front) (cut-boundary 47 c.in-Some.rest.now (lit< tt))

pub returns-in-Some-clause-authority : goal.returns-in-Some-clause-authority
returns-in-Some-clause-authority c =
    ap Some (c.split_at.ensures.front ∙ ap (λ t. take (length t) c.in-Some.rest.now) c.cut.ensures.front ∙ take-cut 47 c.in-Some.rest.now)
    ∙ sym (ap (λ p. p.0) (authority_some c.args.text.now c.in-Some.rest.now (c.in-Some.ensures.cases.1.1 ∙ ap (λ t. 47 ∷ 47 ∷ t) (sym c.in-Some.ensures.cases.2))))

pub returns-in-Some-clause-path : goal.returns-in-Some-clause-path
returns-in-Some-clause-path c =
    c.split_at.ensures.back ∙ ap (λ t. drop (length t) c.in-Some.rest.now) c.cut.ensures.front ∙ drop-cut 47 c.in-Some.rest.now
    ∙ sym (ap (λ p. p.1) (authority_some c.args.text.now c.in-Some.rest.now (c.in-Some.ensures.cases.1.1 ∙ ap (λ t. 47 ∷ 47 ∷ t) (sym c.in-Some.ensures.cases.2))))
