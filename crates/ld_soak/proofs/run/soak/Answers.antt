use Rattle.std.proofs.Common.{◌∙◌, ap}
use Rattle.ld_soak.specs.declared.sums.Sums.{Sums}
use Rattle.ld_soak.proofs.run.soak.Goals as goal

pub returns : goal.returns
returns c = record {
  documents = c.in_ok-add_documents.ensures.documents;
  loads = c.in_ok-add_documents.ensures.loads ∙ ap (λ (s : Sums). s.loads) c.in_ok-stock.ensures.others;
  stock = c.in_ok-stock.stock;
  stock_is = c.in_ok-stock.ensures.stock;
  lengths = c.in_ok-add_documents.ensures.lengths;
}
