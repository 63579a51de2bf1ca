use Rattle.ld_answer.proofs.Reasons.{both}
use Rattle.ld_answer.specs.Targets.{target_fault}
use Rattle.ld_answer.proofs.target.read_target.Goals as goal

pub returns-clause-refused : goal.returns-clause-refused
returns-clause-refused c = c.unread.ensures target_fault c.args.bytes.now (both c.in-Err.e _ _ c.in-Err.ensures.refused c.in-Err.ensures.unread)
