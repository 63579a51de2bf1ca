use Rattle.std.proofs.Common.{◌≡◌, ◌∙◌, ap, sym, subst, List, [], ◌∷◌, ℕ}
use Rattle.std.specs.Prelude.{IfOk}
use Rattle.ld_ctx.specs.Stocks.{stock_of}
use Rattle.ld_flight.specs.Loads.{Answer, IsDocument, IsFirst}
use Rattle.ld_flight.specs.Memory.{Kept, answers_for}
use Rattle.ld_flight.specs.Passes.{Flight}
use Rattle.ld_rec.specs.declared.doc.Doc.{Doc}
use Rattle.ld_soak.specs.Soaks.{context_iri, context_text, IsStock}
use Rattle.ld_soak.proofs.Results.{IfOk-map}
use Rattle.ld_soak.proofs.context.load_stock.Goals as goal

pub returns-in-Ok-clause-stock : goal.returns-in-Ok-clause-stock
returns-in-Ok-clause-stock c =
    let loaded = c.in-Ok.loaded in
    let asked : c.lead-pass.result.iri ≡ context_iri = c.lead-pass.ensures.iri ∙ c.in_ok-from_str.ensures in
    let answer : Answer = (loaded.url, loaded.text) in
    let first : IsFirst (answers_for context_iri ((context_iri, context_iri, context_text) ∷ [])) answer =
    subst (λ answers. IsFirst (answers_for context_iri answers) answer) c.in_ok-loader.ensures (subst (λ iri. IsFirst (answers_for iri c.in_ok-loader.loader.answers) answer) asked c.in-Ok.ensures.next) in
    let url : loaded.url ≡ context_iri = ap (λ (a : Answer). a.0) (sym first) in
    let text : loaded.text ≡ context_text = ap (λ (a : Answer). a.1) (sym first) in
    let iri : loaded.pass.iri ≡ context_iri = ap (λ (p : Flight). p.iri) c.in-Ok.ensures.pass ∙ asked in
    IfOk-map c.stock.result _ _
    (λ stock is. (is.0, subst (λ u. IsDocument is.0 u context_text) url (subst (λ t. IsDocument is.0 loaded.url t) text is.1), is.2 ∙ ap (λ i. stock_of ((i, is.0) ∷ [])) iri)) c.stock.ensures
