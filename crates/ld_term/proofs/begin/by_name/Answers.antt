use Rattle.std.proofs.Common.{true, arith}
use Rattle.ld_term.proofs.Shrinking.{enters_by, looser}
use Rattle.ld_term.proofs.begin.by_name.Goals as goal

pub returns-then-is_keyword_form-clause-enters : goal.returns-then-is_keyword_form-clause-enters
returns-then-is_keyword_form-clause-enters c = enters_by c.ignored.result c.args.defined.now c.ignored.new.defined c.args.term true c.ignored.ensures.marked

pub returns-then-is_keyword_form-clause-size : goal.returns-then-is_keyword_form-clause-size
returns-then-is_keyword_form-clause-size c = looser c.ignored.result 1 13 (omega arith) c.ignored.ensures.size
