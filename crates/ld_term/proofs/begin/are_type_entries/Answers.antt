use Rattle.std.proofs.Common.{◌≡◌, sym, ap, ◌∙◌, false}
use Rattle.std.specs.List.{list_all}
use Rattle.std.proofs.lemmas.List.Folds.{list_all_at}
use Rattle.ld_rec.specs.Terms.{is_type_entry}
use Rattle.ld_term.proofs.begin.are_type_entries.Goals as goal

pub returns-then-not-is_type_entry : goal.returns-then-not-is_type_entry
returns-then-not-is_type_entry c =
    let no : is_type_entry c.entry-item.result ≡ false = cc in
    sym (ap (list_all is_type_entry) (sym c.as_slice-entry-items.ensures.value) ∙ list_all_at is_type_entry c.as_slice-entry-items.result.now c.loop-entry.entry-index c.entry-item.result c.loop-entry-test.true (ap is_type_entry (sym c.entry-item.is) ∙ no))
