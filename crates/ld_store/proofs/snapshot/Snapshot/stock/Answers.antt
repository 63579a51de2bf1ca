use Rattle.std.proofs.Common.{◌≡◌, ◌∙◌, ap, subst, map}
use Rattle.std.specs.Prelude.{IfOk}
use Rattle.ld_tree.specs.Names.{same_sorted}
use Rattle.ld_tree.specs.formers.entries.Entries.{on_value, to_shape}
use Rattle.ld_rec.specs.Outcome.{Stock}
use Rattle.ld_ctx.specs.Stocks.{shared_entries, stock_of}
use Rattle.ld_store.specs.Snapshots.{doc_of, stock_at}
use Rattle.ld_store.proofs.Stocked.{stock_in_order}
use Rattle.ld_store.proofs.snapshot.Snapshot.stock.Goals as goal

pub returns : goal.returns
returns c =
    let placed = c.self.inside.placed in
    let is : stock_of (map (on_value doc_of) placed.0) ≡ stock_at (record { version = c.self.inside.version; placed = placed })
    = same_sorted (stock_of (map (on_value doc_of) placed.0)) (stock_at (record { version = c.self.inside.version; placed = placed })) (stock_in_order (map (on_value doc_of) placed.0) (to_shape doc_of placed.0 placed.1)) in
    let same : stock_of (shared_entries c.in_ok-shared.field-0.items) ≡ stock_at c.args.self.now
    = ap stock_of c.in_ok-shared.ensures ∙ is ∙ ap stock_at c.self.view_is in
    subst (λ (s : Stock). IfOk c.of_shared.result (λ stock. stock ≡ s)) same c.of_shared.ensures
