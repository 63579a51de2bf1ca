use Rattle.std.proofs.Common.{◌≡◌, ◌∷◌, arith}
use Rattle.std.proofs.lemmas.Grind.{common_steps}
use Rattle.ld_ctx.proofs.Sharing.{stock_begun, stock_next}
use Rattle.ld_ctx.proofs.stock.Stock.of_shared.Goals as goal

pub loop-iri-init : goal.loop-iri-init
loop-iri-init c =
    let same : c.into_iter-iri-iterator.result.rest.items ≡ c.args.entries.items = grind (arith, common_steps) in
    stock_begun c.new-docs.result c.into_iter-iri-iterator.result.rest.items c.args.entries.items c.new-docs.ensures same

pub loop-iri-preserved-in-Ok : goal.loop-iri-preserved-in-Ok
loop-iri-preserved-in-Ok c =
    let rest = c.next.new.self.rest.items in
    let step : c.loop-iri.iri-iterator.rest.items ≡ (c.in-Some.iri, c.in-Some.doc) ∷ rest = grind (arith, common_steps) in
    stock_next c.loop-iri.docs c.put.new.self c.in-Some.iri c.in-Some.doc c.args.entries.items c.loop-iri.iri-iterator.rest.items rest c.in-Ok.ensures.map step c.loop-iri.invariant

pub loop-iri-preserved-in-Ok-2 : goal.loop-iri-preserved-in-Ok-2
loop-iri-preserved-in-Ok-2 c =
    let rest = c.next.new.self.rest.items in
    let step : c.loop-iri.iri-iterator.rest.items ≡ (c.in-Some.iri, c.in-Some.doc) ∷ rest = grind (arith, common_steps) in
    stock_next c.loop-iri.docs c.put.new.self c.in-Some.iri c.in-Some.doc c.args.entries.items c.loop-iri.iri-iterator.rest.items rest c.in-Ok.ensures.map step c.loop-iri.invariant
