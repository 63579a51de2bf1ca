-- What each version of a book has, and when a book is sound.
use Rattle.std.specs.Prelude.{ℕ}
use Rattle.ld_ctx.specs.Stocks as contexts
use Rattle.ld_rec.specs.Outcome.{Stock}
use Rattle.ld_history.specs.declared.limits.Limits.{Limits}
use Rattle.ld_history.specs.Legal.{AreWithin, Legal}
use Rattle.ld_book.specs.Documents.{ArePages}
use Rattle.ld_book.specs.Pages.{Pages, entries_of, stock_of}

-- what each version of a book has: its documents, by IRI
abbrev pub stocks : Pages → ℕ → Stock
stocks pages version = contexts.stock_of (stock_of pages version)

-- The book's rules hold: its limits are within the server's, its history is legal, and each document is that of its
-- answer.
pub record IsSound (limits : Limits) (pages : Pages) : Type 0 where
  pub within : AreWithin limits
  pub legal : Legal limits (entries_of pages)
  pub documents : ArePages pages
