use Rattle.ld_script.proofs.Words.{word_utf8}
use Rattle.ld_script.proofs.word.copy_text.Goals as goal

pub unreachable-requires : goal.unreachable-requires
unreachable-requires c = c.in-Err.ensures.cases.0 (word_utf8 c.args.word.now c.requires)
