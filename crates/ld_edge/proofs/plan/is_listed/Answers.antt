use Rattle.std.proofs.lemmas.List.Sorted.{searched}
use Rattle.ld_edge.proofs.Listed.{found_iff_listed}
use Rattle.ld_edge.proofs.plan.is_listed.Goals as goal

pub returns : goal.returns
returns c =
    let found = searched _ _ _ c.binary_search.ensures.position (λ i j. c.requires i j 0) in
    rw c.is_ok.ensures.value (found_iff_listed _ _ _ found)
