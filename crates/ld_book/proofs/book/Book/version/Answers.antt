use Rattle.std.proofs.Common.{◌∙◌, ap, sym}
use Rattle.ld_history.specs.Legal.{History, state}
use Rattle.ld_book.specs.Kept.{values_in}
use Rattle.ld_book.proofs.Viewing.{seen}
use Rattle.ld_book.proofs.book.Book.version.Goals as goal

pub returns : goal.returns
returns c =
    let s = c.self.inside in
    c.version.ensures ∙ sym (ap (λ (h : History). (state h.entries).version) (seen s.state (values_in s.documents.items) c.args.self.now c.self.view_is))
