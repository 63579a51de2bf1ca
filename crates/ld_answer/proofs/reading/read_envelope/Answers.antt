use Rattle.ld_answer.proofs.Reasons.{both}
use Rattle.ld_answer.specs.Envelopes.{fault_of}
use Rattle.ld_answer.proofs.reading.read_envelope.Goals as goal

pub returns-clause-refused : goal.returns-clause-refused
returns-clause-refused c = c.unread.ensures (fault_of c.args.op) c.args.bytes.now (both c.in-Err.e _ _ c.in-Err.ensures.refused c.in-Err.ensures.unread)
