-- How failures of several calls on one object add up.
use Rattle.std.proofs.Common.{◌≤◌, ℕ, inl, inr, ⊎_elim, arith}
use Rattle.std.proofs.lemmas.Bool.{cases_lt}
use Rattle.ld_edge.specs.Faults.{last_count, NeverFalls, Rose}

pub NeverFalls-rose : (before after : ℕ) → Rose before after → NeverFalls before after
NeverFalls-rose before after rose = ⊎_elim (λ more. omega (arith, more)) (λ stood. omega (arith, stood.0, stood.1)) rose

-- calls that may fail, and then one that fails
pub Rose-after : (first before after : ℕ) → NeverFalls first before → Rose before after → Rose first after
Rose-after first before after kept rose = ⊎_elim
    (λ more. inl (omega (arith, kept, more)))
    (λ stood. ⊎_elim (λ below. inl (omega (arith, below, stood.1))) (λ above. inr (omega (arith, kept, above, stood.0), stood.1)) (cases_lt first last_count))
    rose

-- one call that fails, and then calls that may fail
pub Rose-before : (before after last : ℕ) → Rose before after → NeverFalls after last → last ≤ last_count → Rose before last
Rose-before before after last rose kept in_range = ⊎_elim
    (λ more. inl (omega (arith, kept, more)))
    (λ stood. inr (stood.0, omega (arith, kept, in_range, stood.1)))
    rose
