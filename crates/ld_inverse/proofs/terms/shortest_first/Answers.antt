use Rattle.std.proofs.Common.{◌≡◌, Bor, ℕ, List, map, rules, ap, ◌∙◌}
use Rattle.std.proofs.lemmas.Simd.{map-map}
use Rattle.ld_rec.specs.Slots.{shortest_first}
use Rattle.ld_inverse.proofs.Sorting.{names_of_counted}
use Rattle.ld_inverse.proofs.terms.shortest_first.Goals as goal

pub returns : goal.returns
returns g c =
    let collected : c.in_ok-collect.field-0.items ≡ map (λ t. t.1) c.in_ok-sorted.sorted.keys = search rules in
    rw collected (
    map-map (λ t. t.now) (λ t. t.1) c.in_ok-sorted.sorted.keys ∙ names_of_counted _ _ c.in_ok-sorted.ensures
    ∙ ap shortest_first (ap (map (λ (t : Bor (List ℕ)). t.now)) c.as_slice.ensures.value ∙ c.in_ok-terms.ensures)
    )
