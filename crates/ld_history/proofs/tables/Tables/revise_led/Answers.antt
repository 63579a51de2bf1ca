use Rattle.std.proofs.Common.{[], ◌≡◌, true, ◌∙◌, sym, ap, subst}
use Rattle.ld_history.specs.declared.session.Flying.{Flying}
use Rattle.ld_history.specs.Index.{are_numbered}
use Rattle.ld_history.specs.Order.{IsOrder, IsFree}
use Rattle.ld_history.specs.After.{put_iri}
use Rattle.ld_history.proofs.Freed.{free_put}
use Rattle.ld_history.proofs.tables.Tables.revise_led.Goals as goal

pub invariant_of-self-2-clause-ordered : goal.invariant_of-self-2-clause-ordered
invariant_of-self-2-clause-ordered c = let t = c.args.self.now in subst (IsOrder t.stored.entries) (sym c.refresh.ensures.published) t.ordered

pub invariant_of-self-2-clause-free : goal.invariant_of-self-2-clause-free
invariant_of-self-2-clause-free c =
    let t = c.args.self.now in
    let flying : Flying = record { flight = c.args.flight; session = c.args.session } in
    let refreshed = c.refresh.ensures.free [] (free_put c.args.iri.now flying t.order.published.entries t.order.free.items t.index.holders.entries t.revisions.entries c.insert.new.self.entries
    (c.in_ok-insert.ensures.entries ∙ ap (λ k. put_iri t.revisions.entries k flying) c.in_ok-key.ensures) t.free) in
    subst (λ h. IsFree [] c.refresh.new.order.published.entries c.refresh.new.order.free.items h.entries c.insert.new.self.entries) (sym c.tell.ensures.holders) refreshed

pub invariant_of-self-2-clause-numbered : goal.invariant_of-self-2-clause-numbered
invariant_of-self-2-clause-numbered c = subst (λ l. are_numbered c.args.self.now.opened l ≡ true) (sym c.tell.ensures.numbers) c.args.self.now.numbered
