use Rattle.std.proofs.Common.{◌∙◌, ap}
use Rattle.std.specs.Arc.{arc_value}
use Rattle.ld_ctx.specs.Stocks.{shared_entries}
use Rattle.ld_once.proofs.Steps.{joined}
use Rattle.ld_once.proofs.loading.load_missing.Goals as goal

pub returns-in_ok-push-in-Ok-clause-more : goal.returns-in_ok-push-in-Ok-clause-more
returns-in_ok-push-in-Ok-clause-more g c = λ _.
    ((c.in-Ok.document.0, arc_value c.in-Ok.document.1), ap shared_entries c.in_ok-push-in-Ok.ensures.items ∙ joined c.args.documents.now.items c.in-Ok.document, c.in-Ok.ensures.loaded)
