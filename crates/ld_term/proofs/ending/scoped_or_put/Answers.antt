use Rattle.std.proofs.Common.{◌≡◌, sym, ap, ◌∙◌, Some, None}
use Rattle.ld_tree.specs.Maps.{find}
use Rattle.std.specs.Prelude.{codes}
use Rattle.ld_rec.specs.Outcome.{◌>>=◌}
use Rattle.ld_rec.specs.Terms.{scoped_in}
use Rattle.ld_term.specs.Waits.{made_of, rest_of, draft_of, closed_and_put, from_scoped}
use Rattle.ld_term.proofs.Along.{comes_then, comes_along, alike_trans, given}
use Rattle.ld_term.proofs.Cases.{checked_first, scoped_by}
use Rattle.ld_term.proofs.ending.scoped_or_put.Goals as goal

pub returns-in_ok-scoped-in-Some-clause-gives : goal.returns-in_ok-scoped-in-Some-clause-gives
returns-in_ok-scoped-in-Some-clause-gives c = λ check define local.
    let there : find c.args.entries.now (codes "@context") ≡ Some c.in_ok-scoped-in-Some.scoped = sym c.in-Some.ensures ∙ ap Some (sym c.in_ok-scoped-in-Some.ensures) in
    alike_trans (scoped_by check (rest_of c.args.rest.now) c.args.task.term c.args.entries.now c.args.task.previous (draft_of c.args.task (made_of c.args.made.now c.args.defined.now)) _ there)
    (rw c.in_ok-entries-in-Some.ensures (checked_first check (rest_of c.args.rest.now) c.args.task.term c.args.entries.now c.args.task.previous (draft_of c.args.task (made_of c.args.made.now c.args.defined.now)) c.in_ok-scoped-in-Some.scoped))
