-- The order of slots is total, and says Equal of the same slot.
use Rattle.std.proofs.Common.{◌≡◌, ℕ, ◌&&◌, Bool, true, false, refl, ap₂, ◌∙◌, List}
use Rattle.std.specs.Prelude.{filter}
use Rattle.std.specs.Bool.{beq}
use Rattle.std.specs.Str.{bytes_eq}
use Rattle.std.specs.Ordering.{is_eq, bool_cmp, ordering_then}
use Rattle.std.specs.declared.cmp.Ordering.{Ordering}
use Rattle.std.specs.declared.cmp.Ordering.TheVariants.{Less, Equal, Greater}
use Rattle.std.proofs.lemmas.Map.Text.{is_eq-slice_cmp}
use Rattle.std.specs.Cmp.{IsTotalOrder, on_total, then_total, nat_cmp_total, bool_cmp_total}
use Rattle.std.specs.Cmp.Lexicographic.{nat_list_cmp_total}
use Rattle.ld_rec.specs.declared.def.Containers.{Containers}
use Rattle.ld_inverse.specs.Orders.{containers_cmp, kind_cmp, rank}
use Rattle.ld_inverse.specs.Groups.{group, IsInOrder}
use Rattle.ld_inverse.specs.Under.{IsGroupedUnder}
use Rattle.ld_inverse.proofs.Grouping.{filter_alike}
use Rattle.ld_rec.specs.declared.slot.Kind.{Kind}
use Rattle.ld_rec.specs.declared.slot.Kind.TheVariants.{Any, Tag, Typed}
use Rattle.ld_rec.specs.Records.{same_containers}
use Rattle.ld_rec.specs.Selection.{same_kind, same_slot}
use Rattle.ld_rec.specs.Slots.{Offer, slot}
use Rattle.ld_inverse.specs.Orders.{slot_cmp}
use Rattle.ld_rec.specs.declared.slot.Slot.{Slot}

pub containers_total : IsTotalOrder containers_cmp
containers_total =
    then_total (on_total (λ (c : Containers). c.graph) bool_cmp_total)
    (then_total (on_total (λ (c : Containers). c.id) bool_cmp_total)
    (then_total (on_total (λ (c : Containers). c.index) bool_cmp_total)
    (then_total (on_total (λ (c : Containers). c.language) bool_cmp_total)
    (then_total (on_total (λ (c : Containers). c.list) bool_cmp_total)
    (then_total (on_total (λ (c : Containers). c.set) bool_cmp_total) (on_total (λ (c : Containers). c.types) bool_cmp_total))))))

pub slot_total : IsTotalOrder slot_cmp
slot_total =
    then_total (on_total (λ (s : Slot). s.iri) nat_list_cmp_total)
    (then_total (on_total (λ (s : Slot). s.containers) containers_total)
    (then_total (on_total (λ (s : Slot). rank s.kind) nat_cmp_total) (on_total (λ (s : Slot). s.value) nat_list_cmp_total)))

-- ---- Equal is the same

then_both : (p q : Ordering) → is_eq (ordering_then p q) ≡ (is_eq p && is_eq q)
then_both Less q = refl
then_both Equal q = refl
then_both Greater q = refl

bools : (a b : Bool) → is_eq (bool_cmp a b) ≡ beq a b
bools true true = refl
bools true false = refl
bools false true = refl
bools false false = refl

and_then : (p q : Ordering) (a b : Bool) → is_eq p ≡ a → is_eq q ≡ b → is_eq (ordering_then p q) ≡ (a && b)
and_then p q a b e f = then_both p q ∙ ap₂ (λ x y. x && y) e f

left4 : (a b c d : Bool) → (a && (b && (c && d))) ≡ (a && b && c && d)
left4 false b c d = refl
left4 true false c d = refl
left4 true true c d = refl

left7 : (a b c d e f g : Bool) → (a && (b && (c && (d && (e && (f && g)))))) ≡ (a && b && c && d && e && f && g)
left7 false b c d e f g = refl
left7 true false c d e f g = refl
left7 true true false d e f g = refl
left7 true true true false e f g = refl
left7 true true true true false f g = refl
left7 true true true true true f g = refl

containers_same : (a b : Containers) → is_eq (containers_cmp a b) ≡ same_containers a b
containers_same a b =
    and_then _ _ _ _ (bools a.graph b.graph)
    (and_then _ _ _ _ (bools a.id b.id)
    (and_then _ _ _ _ (bools a.index b.index)
    (and_then _ _ _ _ (bools a.language b.language)
    (and_then _ _ _ _ (bools a.list b.list)
    (and_then _ _ _ _ (bools a.set b.set) (bools a.types b.types))))))
    ∙ left7 (beq a.graph b.graph) (beq a.id b.id) (beq a.index b.index) (beq a.language b.language) (beq a.list b.list) (beq a.set b.set) (beq a.types b.types)

kinds_same : (a b : Kind) → is_eq (kind_cmp a b) ≡ same_kind a b
kinds_same Any Any = refl
kinds_same Any Tag = refl
kinds_same Any Typed = refl
kinds_same Tag Any = refl
kinds_same Tag Tag = refl
kinds_same Tag Typed = refl
kinds_same Typed Any = refl
kinds_same Typed Tag = refl
kinds_same Typed Typed = refl

pub slots_same : (a b : Slot) → is_eq (slot_cmp a b) ≡ same_slot a b
slots_same a b =
    and_then _ _ _ _ (is_eq-slice_cmp a.iri b.iri)
    (and_then _ _ _ _ (containers_same a.containers b.containers)
    (and_then _ _ _ _ (kinds_same a.kind b.kind) (is_eq-slice_cmp a.value b.value)))
    ∙ left4 (bytes_eq a.iri b.iri) (same_containers a.containers b.containers) (same_kind a.kind b.kind) (bytes_eq a.value b.value)

-- what the part of a table has under a slot is what the list has there
pub found_offers : (iri : List ℕ) (all part found : List Offer) (containers : Containers) (kind : Kind) (value : List ℕ) → IsGroupedUnder iri all part
    → (IsInOrder slot_cmp part → found ≡ group slot_cmp (slot iri containers kind value) part) → found ≡ filter (λ o. same_slot o.0 (slot iri containers kind value)) all
found_offers iri all part found containers kind value grouped clause =
    clause grouped.in_order ∙ grouped.same containers kind value ∙ filter_alike _ _ (λ o. slots_same o.0 (slot iri containers kind value)) all
