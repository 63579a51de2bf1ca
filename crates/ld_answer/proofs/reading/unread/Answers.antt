use Rattle.std.proofs.Common.{arith}
use Rattle.ld_answer.proofs.Reasons.{told}
use Rattle.ld_answer.proofs.reading.unread.Goals as goal

pub returns-in-Syntax : goal.returns-in-Syntax
returns-in-Syntax c = λ fault bytes known. told c.args.e _ (λ memory. grind (arith, c.in-Syntax.is, memory)) known
