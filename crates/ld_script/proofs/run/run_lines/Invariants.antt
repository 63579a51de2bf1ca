use Rattle.std.proofs.Common.{◌≡◌, ◌++◌}
use Rattle.ld_script.specs.Printed.{printed, printed_after}
use Rattle.ld_script.proofs.run.run_lines.Given as goal

abbrev pub invariant-loop-line : goal.invariant-loop-line
invariant-loop-line l = l.out.items ++ printed_after l.state l.line-iterator.rest.items ≡ printed l.fn.limits l.fn.lines.items
