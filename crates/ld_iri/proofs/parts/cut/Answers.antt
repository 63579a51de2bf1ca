use Rattle.std.proofs.Common.{◌∙◌, sym, ap, Some, None}
use Rattle.std.proofs.lemmas.Str.Pattern.{split_parts}
use Rattle.ld_iri.specs.Components.{cut}
use Rattle.ld_iri.proofs.Cuts.{cut_at, cut_none}
use Rattle.ld_iri.proofs.parts.cut.Goals as goal

pub returns-in-Some-clause-front : goal.returns-in-Some-clause-front
returns-in-Some-clause-front c =
    let p = split_parts c.args.mark c.args.text.now (Some (c.in-Some.front, c.in-Some.rest)) c.in-Some.ensures.cases c.requires in
    sym (ap (λ t. (cut c.args.mark t).0) p.0 ∙ ap (λ x. x.0) (cut_at c.args.mark _ _ p.1))

pub returns-in-Some-clause-rest : goal.returns-in-Some-clause-rest
returns-in-Some-clause-rest c =
    let p = split_parts c.args.mark c.args.text.now (Some (c.in-Some.front, c.in-Some.rest)) c.in-Some.ensures.cases c.requires in
    sym (ap (λ t. (cut c.args.mark t).1) p.0 ∙ ap (λ x. x.1) (cut_at c.args.mark _ _ p.1))

pub returns-in-None-clause-front : goal.returns-in-None-clause-front
returns-in-None-clause-front c =
    let p = split_parts c.args.mark c.args.text.now None c.in-None.ensures.cases c.requires in
    sym (ap (λ x. x.0) (cut_none c.args.mark c.args.text.now p))

pub returns-in-None-clause-rest : goal.returns-in-None-clause-rest
returns-in-None-clause-rest c =
    let p = split_parts c.args.mark c.args.text.now None c.in-None.ensures.cases c.requires in
    sym (ap (λ x. x.1) (cut_none c.args.mark c.args.text.now p))
