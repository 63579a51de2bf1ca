use Rattle.std.proofs.Common.{◌≡◌, true, take}
use Rattle.std.specs.List.{list_all}
use Rattle.ld_rec.specs.Terms.{entry_names}
use Rattle.ld_rec.specs.Words.{is_among}
use Rattle.ld_term.proofs.ending.has_only_entry_names.Given as goal

abbrev pub invariant-loop-name : goal.invariant-loop-name
invariant-loop-name l = list_all (λ e. is_among entry_names e.0) (take l.name-index l.name-items) ≡ true
