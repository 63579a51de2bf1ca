use Rattle.std.proofs.Common.{sym, ◌∙◌}
use Rattle.ld_history.specs.Seen.{seen}
use Rattle.ld_history.proofs.Leading.{leaders_wait}
use Rattle.ld_history.proofs.Answering.{may_so, unopened}
use Rattle.ld_history.proofs.state.State.may_answer.Goals as goal

pub may_answer-requires : goal.may_answer-requires
may_answer-requires c = leaders_wait c.self.inside.limits c.self.inside.history.items (seen c.self.inside.tables) c.self.invariant.kept

pub returns-in-Some : goal.returns-in-Some
returns-in-Some c =
    let s = c.self.inside in
    may_so s.limits s.history.items (seen s.tables) c.args.self.now c.self.invariant.kept c.self.view_is c.args.session c.args.how.now c.in-Some.request (sym c.request.ensures ∙ c.in-Some.is) c.may_answer.result c.may_answer.ensures

pub returns-in-None : goal.returns-in-None
returns-in-None c =
    let s = c.self.inside in
    unopened s.limits s.history.items (seen s.tables) c.args.self.now c.self.invariant.kept c.self.view_is c.args.session c.args.how.now (sym c.request.ensures ∙ c.in-None.is)
