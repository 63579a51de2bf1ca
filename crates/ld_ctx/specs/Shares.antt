-- A map of shared values, as the map of the values.
use Rattle.std.specs.Prelude.{map}
use Rattle.std.specs.Arc.{arc_value}
use Rattle.std.specs.declared.sync.Arc.{Arc}
use Rattle.std.specs.declared.alloc.Global.{Global}
use Rattle.ld_tree.specs.Names.{Sorted}
use Rattle.ld_tree.specs.formers.entries.Entries.{on_value, to_shape}

abbrev pub value_in : {T : Type 0} → Arc T Global → T
value_in shared = arc_value shared

abbrev pub values_of_shared : {T : Type 0} → Sorted (Arc T Global) → Sorted T
values_of_shared m = (map (on_value value_in) m.0, to_shape value_in m.0 m.1)
