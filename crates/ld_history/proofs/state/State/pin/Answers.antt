use Rattle.std.proofs.Common.{ap, ◌∙◌, sym, Some}
use Rattle.ld_history.specs.Seen.{seen}
use Rattle.ld_history.specs.Legal.{state}
use Rattle.ld_history.specs.ByTurns.{allows}
use Rattle.ld_history.proofs.Counting.{can_count}
use Rattle.ld_history.proofs.Pinning.{pin_allowed}
use Rattle.ld_history.proofs.state.State.pin.Goals as goal

pub pin_answer-requires : goal.pin_answer-requires
pin_answer-requires c = can_count c.self.inside.limits c.self.inside.history.items (seen c.self.inside.tables) c.self.invariant.kept

pub append-requires : goal.append-requires
append-requires c =
    let may = pin_allowed c.self.inside.limits c.self.inside.history.items (seen c.self.inside.tables) c.args.self.now c.args.session c.in-Pinned.request c.in-Pinned.attempt c.in-Pinned.version
    c.self.invariant.kept c.self.view_is (sym c.pin_answer.ensures ∙ c.in-Some.is ∙ ap Some c.in-Pinned.is) in
    ap (allows c.args.self.now.limits (state c.args.self.now.entries)) c.plain.ensures ∙ may
