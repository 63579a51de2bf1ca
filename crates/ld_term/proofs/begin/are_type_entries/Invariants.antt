use Rattle.std.proofs.Common.{◌≡◌, true, take}
use Rattle.std.specs.List.{list_all}
use Rattle.ld_rec.specs.Terms.{is_type_entry}
use Rattle.ld_term.proofs.begin.are_type_entries.Given as goal

abbrev pub invariant-loop-entry : goal.invariant-loop-entry
invariant-loop-entry l = list_all is_type_entry (take l.entry-index l.entry-items) ≡ true
