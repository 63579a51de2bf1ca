use Rattle.ld_script.proofs.Decided.{each_is_one}
use Rattle.ld_script.proofs.laws.each_text_is_read.Goals as goal

pub returns : goal.returns
returns c = each_is_one
