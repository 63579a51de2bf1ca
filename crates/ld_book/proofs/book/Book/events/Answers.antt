use Rattle.std.proofs.Common.{◌∙◌, ap, sym, subst, length}
use Rattle.std.proofs.lemmas.List.{length-map}
use Rattle.ld_history.specs.Legal.{History, Legal}
use Rattle.ld_book.specs.declared.page.Page.{Page}
use Rattle.ld_book.specs.Kept.{values_in}
use Rattle.ld_book.proofs.Viewing.{seen}
use Rattle.ld_book.proofs.book.Book.events.Goals as goal

pub returns-clause-count : goal.returns-clause-count
returns-clause-count c =
    let s = c.self.inside in
    c.events.ensures.count ∙ sym (ap (λ (h : History). length h.entries) (seen s.state (values_in s.documents.items) c.args.self.now c.self.view_is))
    ∙ length-map c.args.self.now.pages (λ (p : Page). p.entry)

pub returns-clause-legal : goal.returns-clause-legal
returns-clause-legal c =
    let s = c.self.inside in
    subst (λ (h : History). Legal h.limits h.entries) (sym (seen s.state (values_in s.documents.items) c.args.self.now c.self.view_is)) c.events.ensures.legal
