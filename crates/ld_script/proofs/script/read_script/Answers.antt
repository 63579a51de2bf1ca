use Rattle.std.proofs.Common.{◌≡◌, sym, ap, Err}
use Rattle.ld_script.specs.declared.refusal.ScriptRefusal.TheVariants as refusal
use Rattle.ld_script.proofs.Scripts.{headed_script, stuck_headed, stuck_plain}
use Rattle.ld_script.proofs.script.read_script.Goals as goal

pub returns-in_err-lines-in-Some-clause-bad_line : goal.returns-in_err-lines-in-Some-clause-bad_line
returns-in_err-lines-in-Some-clause-bad_line c = λ line e.
    let same : refusal.BadLine line ≡ c.in_err-lines-in-Some.field-0.0 = rw e at c.from_residual.ensures.1 in
    stuck_headed c.in-Some.limits c.in-Some.ensures.0 c.in-Some.ensures.1 (c.in_err-lines-in-Some.ensures.bad_line line (ap Err (sym same)))

pub returns-in_err-lines-in-None-clause-bad_line : goal.returns-in_err-lines-in-None-clause-bad_line
returns-in_err-lines-in-None-clause-bad_line c = λ line e.
    let same : refusal.BadLine line ≡ c.in_err-lines-in-None.field-0.0 = rw e at c.from_residual-in_err-lines-in-None.ensures.1 in
    stuck_plain c.in-None.ensures (c.in_err-lines-in-None.ensures.bad_line line (ap Err (sym same)))

pub returns-in_ok-lines-in-Some-clause-read : goal.returns-in_ok-lines-in-Some-clause-read
returns-in_ok-lines-in-Some-clause-read c =
    headed_script c.in-Some.limits c.in-Some.ensures.0 c.in-Some.ensures.1 c.in_ok-lines-in-Some.ensures.read.0 c.in_ok-lines-in-Some.ensures.read.1
