-- The part of a table that is under one IRI.
use Rattle.std.specs.Prelude.{◌≡◌, ℕ, List}
use Rattle.ld_rec.specs.declared.def.Containers.{Containers}
use Rattle.ld_rec.specs.declared.slot.Kind.{Kind}
use Rattle.ld_rec.specs.Slots.{Offer, slot}
use Rattle.ld_inverse.specs.Groups.{group, IsInOrder}
use Rattle.ld_inverse.specs.Orders.{slot_cmp}

-- it is in order, and has under each slot of the IRI what the list has there, in the list's order
pub record IsGroupedUnder (iri : List ℕ) (entries part : List Offer) : Type 0 where
  pub in_order : IsInOrder slot_cmp part
  pub same : (containers : Containers) (kind : Kind) (value : List ℕ) → group slot_cmp (slot iri containers kind value) part ≡ group slot_cmp (slot iri containers kind value) entries
