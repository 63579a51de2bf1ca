use Rattle.std.proofs.Common.{refl}
use Rattle.ld_own.proofs.Adding.{adds_none, adds_own, adds_trans, quiet_adds}
use Rattle.ld_own.proofs.Closing.{gone_stays}
use Rattle.ld_own.proofs.Opening.{none_before}
use Rattle.ld_own.proofs.laws.additions_add_up.Goals as goal

pub returns-clause-none : goal.returns-clause-none
returns-clause-none c session front = adds_none session front

pub returns-clause-more : goal.returns-clause-more
returns-clause-more c session a b d mine more p q = adds_trans session a b d mine more p q

pub returns-clause-own : goal.returns-clause-own
returns-clause-own c session front later mine p = adds_own session front later mine p

pub returns-clause-quiet : goal.returns-clause-quiet
returns-clause-quiet c session seat front later opened grows quiet = quiet_adds session seat front later opened grows quiet

pub returns-clause-closed : goal.returns-clause-closed
returns-clause-closed c limits session front more small legal was gone = record { since = more; is = refl; own = gone_stays limits small session front more legal (record { was = was; is = gone }) }

pub returns-clause-before : goal.returns-clause-before
returns-clause-before c limits session entries small legal ahead = none_before limits small session entries legal ahead
