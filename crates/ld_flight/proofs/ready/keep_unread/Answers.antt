use Rattle.std.proofs.Common.{arith, refl}
use Rattle.ld_flight.proofs.Reasons.{told}
use Rattle.ld_flight.proofs.ready.keep_unread.Goals as goal

pub returns-in-Syntax : goal.returns-in-Syntax
returns-in-Syntax c = record {
  body = (refl, c.requires.short, told c.args.e _ (λ memory. grind (arith, c.in-Syntax.is, memory)) c.requires.unread);
  kept = refl;
  text_back = tt;
}
