-- The stock of a list of documents.
use Rattle.std.specs.Prelude.{ℕ, List, map, fold}
use Rattle.std.specs.declared.sync.Arc.{Arc}
use Rattle.std.specs.declared.alloc.Global.{Global}
use Rattle.ld_tree.specs.Maps.{empty, put}
use Rattle.ld_tree.specs.formers.entries.Entries.{on_value}
use Rattle.ld_rec.specs.declared.doc.Doc.{Doc}
use Rattle.ld_rec.specs.Outcome.{Stock}
use Rattle.ld_ctx.specs.Shares.{value_in}

abbrev pub with_document : Stock → List ℕ × Doc → Stock
with_document stock e = put stock e.0 e.1

-- one after the other: the last of an IRI counts
abbrev pub stock_of : List (List ℕ × Doc) → Stock
stock_of entries = fold with_document empty entries

abbrev pub shared_entries : List (List ℕ × Arc Doc Global) → List (List ℕ × Doc)
shared_entries entries = map (on_value value_in) entries
