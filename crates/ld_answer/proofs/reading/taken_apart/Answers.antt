use Rattle.std.proofs.Common.{sym, ◌∙◌}
use Rattle.ld_answer.proofs.Fields.{base_is_iri, no_wrong_kind}
use Rattle.ld_answer.proofs.reading.taken_apart.Goals as goal

pub invariant_of-result : goal.invariant_of-result
invariant_of-result c = record { is_base = λ x e. base_is_iri c.args.entries x (no_wrong_kind c.args.op c.args.entries c.requires) (sym c.in_ok-base.ensures ∙ e) }
