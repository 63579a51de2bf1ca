use Rattle.std.proofs.Common.{map, ap, ◌∙◌}
use Rattle.ld_rec.specs.Selection.{chosen}
use Rattle.ld_inverse.proofs.iri.select.Goals as goal

pub returns : goal.returns
returns c = λ context h.
    c.select.ensures context h
    ∙ ap (λ cs. chosen context c.args.iri.now cs c.args.question.now.kind (map (λ p. p.now) c.args.preferred.now)) c.as_slice.ensures.value
