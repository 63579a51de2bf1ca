use Rattle.std.proofs.Common.{◌≡◌, drop, [], ◌∷◌}
use Rattle.std.specs.Prelude.{codes}
use Rattle.std.specs.List.{list_all}
use Rattle.std.specs.Map.{keys_of}
use Rattle.ld_rec.specs.Words.{is_among, names_are_among}
use Rattle.ld_compact.proofs.values.are_reference_names.Given as goal

abbrev pub invariant-loop-name : goal.invariant-loop-name
invariant-loop-name l =
    names_are_among (codes "@id" ∷ codes "@index" ∷ []) l.entries
    ≡ list_all (is_among (codes "@id" ∷ codes "@index" ∷ [])) (keys_of (drop l.name-index l.name-items))
