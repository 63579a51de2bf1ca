-- Which term a question chooses: Term Selection (JSON-LD 1.1 API, 4.4). There is no table: what the terms offer
-- is filtered, and the first is taken.
use Rattle.std.specs.Prelude.{ℕ, List, [], ◌∷◌, Option, Some, None, Bool, true, false, ◌&&◌, filter, slice_get}
use Rattle.std.specs.Option.{option_map, option_or}
use Rattle.std.specs.Str.{bytes_eq}
use Rattle.ld_rec.specs.declared.def.Containers.{Containers}
use Rattle.ld_rec.specs.declared.slot.Kind.{Kind}
use Rattle.ld_rec.specs.declared.slot.Kind.TheVariants.{Any, Tag, Typed}
use Rattle.ld_rec.specs.declared.slot.Slot.{Slot}
use Rattle.ld_rec.specs.Records.{Context, same_containers}
use Rattle.ld_rec.specs.Slots.{Offer, slot, slots}

abbrev pub same_kind : Kind → Kind → Bool
same_kind Any Any = true
same_kind Tag Tag = true
same_kind Typed Typed = true
same_kind _ _ = false

abbrev pub same_slot : Slot → Slot → Bool
same_slot a b = bytes_eq a.iri b.iri && same_containers a.containers b.containers && same_kind a.kind b.kind && bytes_eq a.value b.value

-- the first term that offers the slot
abbrev pub first_to_offer : List Offer → Slot → Option (List ℕ)
first_to_offer all wanted = option_map (λ o. o.1) (slice_get (filter (λ o. same_slot o.0 wanted) all) 0)

abbrev pub first_some : {X Y : Type 0} → (X → Option Y) → List X → Option Y
first_some f [] = None
first_some f (x ∷ xs) = option_or (f x) (first_some f xs)

-- the containers in order, and for each the wishes in order
abbrev pub chosen_from : List Offer → List ℕ → List Containers → Kind → List (List ℕ) → Option (List ℕ)
chosen_from all iri containers kind wishes =
    first_some (λ c. first_some (λ wish. first_to_offer all (slot iri c kind wish)) wishes) containers

abbrev pub chosen : Context → List ℕ → List Containers → Kind → List (List ℕ) → Option (List ℕ)
chosen context iri containers kind wishes = chosen_from (slots context) iri containers kind wishes
