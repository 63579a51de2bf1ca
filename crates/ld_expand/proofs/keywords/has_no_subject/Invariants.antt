use Rattle.std.proofs.Common.{◌≡◌, drop}
use Rattle.std.specs.List.{list_any}
use Rattle.ld_rec.specs.Expansion.{is_no_subject}
use Rattle.ld_expand.proofs.keywords.has_no_subject.Given as goal

abbrev pub invariant-loop-item : goal.invariant-loop-item
invariant-loop-item l = list_any is_no_subject (drop l.item-index l.items) ≡ list_any is_no_subject l.items
