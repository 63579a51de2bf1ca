use Rattle.std.proofs.Common.{sym, subst, [], refl, ap, ◌∙◌}
use Rattle.std.specs.Map.{keys_of}
use Rattle.ld_history.specs.declared.session.Session.{Session}
use Rattle.ld_history.specs.declared.session.Last.TheVariants as last
use Rattle.ld_history.proofs.IndexSessions.{keys_changed, index_holds, index_ended}
use Rattle.ld_history.proofs.HeldAlike.{alike_cleared}
use Rattle.ld_history.specs.declared.index.Index.{Index}
use Rattle.ld_history.specs.Order.{IsHeldAlike}
use Rattle.ld_history.proofs.changes.release.Goals as goal

pub end-requires : goal.end-requires
end-requires c =
    index_holds c.args.sessions.now.entries c.args.number (λ (s : Session). record s { held = []; last = last.Idle }) c.args.index.now c.is_busy-was_busy.result c.requires (λ s. refl) c.is_busy-was_busy.ensures

pub returns-clause-numbers : goal.returns-clause-numbers
returns-clause-numbers c = ap keys_of c.clear_held-held.ensures.sessions ∙ keys_changed c.args.sessions.now.entries c.args.number (λ (s : Session). record s { held = []; last = last.Idle })

pub returns-clause-index : goal.returns-clause-index
returns-clause-index c =
    index_ended c.args.sessions.now.entries c.args.number (λ (s : Session). record s { held = []; last = last.Idle }) (λ s. refl) (λ s idle. refl) c.args.index.now
    (record c.args.index.now { holders = c.unlist_session.new.holders }) c.end.new.self c.clear_held-held.new.sessions.entries c.is_busy-was_busy.result c.requires (λ s. refl) (λ s. refl) c.clear_held-held.ensures.sessions c.is_busy-was_busy.ensures
    refl refl c.unlist_session.ensures.filled c.unlist_session.ensures.cleared c.end.ensures

pub returns-clause-alike : goal.returns-clause-alike
returns-clause-alike c =
    let before = c.args.index.now.holders.entries in
    subst (IsHeldAlike c.clear_held-held.result before) (sym (ap (λ (i : Index). i.holders.entries) c.end.ensures))
    (alike_cleared before c.unlist_session.new.holders.entries c.requires.filled c.unlist_session.ensures.filled c.clear_held-held.result c.args.number (λ q. c.requires.held q c.args.number ∙ sym (c.clear_held-held.ensures.held q)) c.unlist_session.ensures.cleared)
