use Rattle.std.proofs.Common.{ap, ◌∙◌}
use Rattle.std.specs.List.{list_any}
use Rattle.ld_ctx.specs.Flat.{flat}
use Rattle.ld_rec.specs.Records.{is_protected}
use Rattle.ld_context.proofs.Protected.{any_map}
use Rattle.ld_context.proofs.null.has_protected.Goals as goal

pub returns : goal.returns
returns c = c.any_of.ensures ∙ ap (list_any (λ flag. flag)) (c.as_slice.ensures.value ∙ c.in_ok-all.ensures) ∙ any_map is_protected (flat c.args.ctx.now).own.terms.0
