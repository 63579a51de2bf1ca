use Rattle.std.proofs.Common.{arith, sym, ◌∙◌}
use Rattle.std.proofs.lemmas.Str.Pattern.{split_once_first}
use Rattle.ld_ctx.proofs.Colons.{split_is_parts}
use Rattle.ld_ctx.proofs.iri.parts.Goals as goal

pub returns-then-has_inner_colon : goal.returns-then-has_inner_colon
returns-then-has_inner_colon c = split_is_parts c.args.text.now c.split_once.result (sym c.has_inner_colon.ensures ∙ c.if-has_inner_colon.true) (split_once_first 58 c.args.text.now c.split_once.result c.split_once.ensures.cases (omega arith))
