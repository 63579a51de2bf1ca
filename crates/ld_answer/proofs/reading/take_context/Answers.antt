use Rattle.std.proofs.Common.{ap}
use Rattle.ld_answer.proofs.Fields.{document_stays}
use Rattle.ld_answer.proofs.reading.take_context.Goals as goal

pub returns-in-Compact-clause-document : goal.returns-in-Compact-clause-document
returns-in-Compact-clause-document c = document_stays c.args.entries.now c.take_out.new.self (ap (λ m. m.0) c.take_out.ensures.map)
