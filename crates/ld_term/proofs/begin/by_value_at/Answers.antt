use Rattle.std.proofs.Common.{sym}
use Rattle.ld_term.proofs.Shrinking.{sized, fitting}
use Rattle.ld_term.proofs.begin.by_value_at.Goals as goal

pub returns-in-Some-clause-size : goal.returns-in-Some-clause-size
returns-in-Some-clause-size c = sized c.args.local.now c.args.defined.now c.by_entry.new.defined c.args.term c.in-Some.value.now (sym c.in-Some.ensures) c.requires c.by_entry.result c.by_entry.ensures.enters c.by_entry.ensures.size

pub returns-in-Some-clause-fits : goal.returns-in-Some-clause-fits
returns-in-Some-clause-fits c = fitting c.args.local.now c.args.defined.now c.by_entry.new.defined c.args.term c.in-Some.value.now (sym c.in-Some.ensures) c.requires c.by_entry.result c.by_entry.ensures.enters
