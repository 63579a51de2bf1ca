use Rattle.ld_tree.proofs.ReadUtf8.{read_utf8, read_utf8_whole}
use Rattle.ld_tree.proofs.reading.reads_utf8.Goals as goal

pub returns-clause-whole : goal.returns-clause-whole
returns-clause-whole c = read_utf8_whole

pub returns-clause-past_mark : goal.returns-clause-past_mark
returns-clause-past_mark c = read_utf8
