use Rattle.std.proofs.Common.{sym, ◌∙◌, arith}
use Rattle.std.proofs.lemmas.Grind.{common_steps}
use Rattle.ld_term.proofs.Texts.{without_last_take}
use Rattle.ld_term.proofs.words.without_last.Goals as goal

pub returns-else-is_empty : goal.returns-else-is_empty
returns-else-is_empty c = let e = without_last_take c.args.bytes.now in grind (arith, common_steps)
