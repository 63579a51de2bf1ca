use Rattle.std.proofs.Common.{◌≡◌, [], ◌∷◌, drop}
use Rattle.std.specs.Prelude.{codes}
use Rattle.std.specs.List.{list_all}
use Rattle.std.specs.Map.{keys_of}
use Rattle.ld_rec.specs.Words.{is_among, names_are_among}
use Rattle.ld_rec.specs.Expansion.{value_names}
use Rattle.ld_expand.proofs.ending.are_value_names.Given as goal

abbrev pub invariant-loop-name : goal.invariant-loop-name
invariant-loop-name l = list_all (is_among value_names) (keys_of (drop l.name-index l.name-items)) ≡ names_are_among value_names l.entries
