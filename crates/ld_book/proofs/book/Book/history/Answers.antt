use Rattle.std.proofs.Common.{sym}
use Rattle.ld_book.specs.Kept.{values_in}
use Rattle.ld_book.proofs.Viewing.{seen}
use Rattle.ld_book.proofs.book.Book.history.Goals as goal

pub returns : goal.returns
returns c = let s = c.self.inside in sym (seen s.state (values_in s.documents.items) c.args.self.now c.self.view_is)
