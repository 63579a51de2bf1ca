-- The stock of documents in the order of their IRIs has just them.
use Rattle.std.proofs.Common.{◌≡◌, ◌∙◌, refl, ℕ, List, [], ◌∷◌}
use Rattle.std.specs.Prelude.{fold}
use Rattle.std.specs.Map.{keys_of}
use Rattle.ld_tree.specs.Maps.{empty}
use Rattle.ld_tree.specs.Names.{AreInOrder}
use Rattle.ld_tree.specs.Reading.{put_all}
use Rattle.ld_tree_read.proofs.Stable.{put_in_order}
use Rattle.ld_rec.specs.Outcome.{Stock}
use Rattle.ld_rec.specs.declared.doc.Doc.{Doc}
use Rattle.ld_ctx.specs.Stocks.{stock_of, with_document}

put_each : (stock : Stock) (documents : List (List ℕ × Doc)) → (fold with_document stock documents).0 ≡ put_all stock.0 documents
put_each stock [] = refl
put_each stock (document ∷ documents) = put_each (with_document stock document) documents

pub stock_in_order : (documents : List (List ℕ × Doc)) → AreInOrder (keys_of documents) → (stock_of documents).0 ≡ documents
stock_in_order documents h = put_each empty documents ∙ put_in_order documents h
