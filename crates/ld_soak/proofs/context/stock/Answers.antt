use Rattle.std.proofs.Common.{◌≡◌, ◌∙◌, ap, ap₂}
use Rattle.ld_ctx.specs.Stocks.{shared_entries, stock_of, with_document}
use Rattle.ld_flight.specs.Passes.{Flight}
use Rattle.ld_tree.specs.Maps.{empty}
use Rattle.ld_soak.proofs.Results.{IfOk-map}
use Rattle.ld_soak.proofs.context.stock.Goals as goal

pub returns-in_ok-documents-in-Ok : goal.returns-in_ok-documents-in-Ok
returns-in_ok-documents-in-Ok c =
    let entries = ap (λ es. stock_of (shared_entries es)) c.in_ok-documents-in-Ok.ensures.items in
    let iri = c.into_iri.ensures ∙ ap (λ (p : Flight). p.iri) (c.into_parts-pass.ensures.pass ∙ c.in-Ok.ensures.pass) in
    IfOk-map c.of_shared.result _ _
    (λ stock is. (c.in-Ok.ready.doc, c.in-Ok.ensures.doc, is ∙ entries ∙ ap₂ (λ i d. with_document empty (i, d)) iri c.into_parts-pass.ensures.doc)) c.of_shared.ensures
