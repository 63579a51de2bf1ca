use Rattle.std.proofs.Common.{sym, ap, ◌∙◌}
use Rattle.ld_history.specs.Seen.{seen}
use Rattle.ld_history.specs.Legal.{is_allowed}
use Rattle.ld_history.proofs.Leading.{leaders_wait}
use Rattle.ld_history.proofs.LawTold.{allowed_kept}
use Rattle.ld_history.proofs.state.step.Goals as goal

pub allows-requires : goal.allows-requires
allows-requires c = leaders_wait c.state.inside.limits c.state.inside.history.items (seen c.state.inside.tables) c.state.invariant.kept

pub returns-then-not-allows-clause-refused : goal.returns-then-not-allows-clause-refused
returns-then-not-allows-clause-refused c _ =
    ap (is_allowed c.args.state.now.limits c.args.state.now.entries) (sym c.in_ok-entry.ensures)
    ∙ allowed_kept c.state.inside.limits c.state.inside.history.items (seen c.state.inside.tables) c.args.state.now c.state.invariant.kept c.state.view_is c.in_ok-entry.entry ∙ sym c.if-not-allows.ensures

pub returns-clause-allowed : goal.returns-clause-allowed
returns-clause-allowed c =
    ap (is_allowed c.args.state.now.limits c.args.state.now.entries) (sym c.in_ok-entry.ensures)
    ∙ allowed_kept c.state.inside.limits c.state.inside.history.items (seen c.state.inside.tables) c.args.state.now c.state.invariant.kept c.state.view_is c.in_ok-entry.entry ∙ sym c.if-not-allows.ensures
