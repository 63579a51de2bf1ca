-- The orders by which the tables are sorted. Any total orders would do: no clause of a public call speaks of them.
use Rattle.std.specs.Prelude.{ℕ, List}
use Rattle.std.specs.Ordering.{nat_cmp, bool_cmp, ordering_then}
use Rattle.std.specs.declared.cmp.Ordering.{Ordering}
use Rattle.ld_tree.specs.Names.{name_cmp}
use Rattle.ld_rec.specs.declared.def.Containers.{Containers}
use Rattle.ld_rec.specs.declared.slot.Kind.{Kind}
use Rattle.ld_rec.specs.declared.slot.Kind.TheVariants.{Any, Tag, Typed}
use Rattle.ld_rec.specs.declared.slot.Slot.{Slot}
use Rattle.ld_rec.specs.Slots.{characters}

-- keyword by keyword
abbrev pub containers_cmp : Containers → Containers → Ordering
containers_cmp a b =
    ordering_then (bool_cmp a.graph b.graph)
    (ordering_then (bool_cmp a.id b.id)
    (ordering_then (bool_cmp a.index b.index)
    (ordering_then (bool_cmp a.language b.language)
    (ordering_then (bool_cmp a.list b.list)
    (ordering_then (bool_cmp a.set b.set) (bool_cmp a.types b.types))))))

abbrev pub rank : Kind → ℕ
rank Any = 0
rank Tag = 1
rank Typed = 2

abbrev pub kind_cmp : Kind → Kind → Ordering
kind_cmp a b = nat_cmp (rank a) (rank b)

-- by IRI, then by containers, kind and value
abbrev pub slot_cmp : Slot → Slot → Ordering
slot_cmp a b =
    ordering_then (name_cmp a.iri b.iri)
    (ordering_then (containers_cmp a.containers b.containers)
    (ordering_then (kind_cmp a.kind b.kind) (name_cmp a.value b.value)))

-- a term after its number of characters
abbrev pub mark : List ℕ → ℕ × List ℕ
mark term = (characters term, term)
