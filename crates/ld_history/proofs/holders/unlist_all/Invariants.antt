use Rattle.std.proofs.Common.{◌≡◌, ℕ, List, drop, true}
use Rattle.std.specs.List.{list_any}
use Rattle.ld_history.specs.Words.{same_iri}
use Rattle.ld_history.specs.Holders.{held_by, AreFilled}
use Rattle.ld_history.proofs.holders.unlist_all.Given as goal

abbrev pub invariant-loop-iri : goal.invariant-loop-iri
invariant-loop-iri l =
    record {
      filled : AreFilled l.holders.entries;
      there : (q : List ℕ) (n : ℕ) → (n ≡ l.session → ⊥) → held_by l.holders.entries q n ≡ held_by l.fn.holders.entries q n;
      left : (q : List ℕ) → held_by l.holders.entries q l.session ≡ true → list_any (λ iri. same_iri iri q) (drop l.iri-index l.held) ≡ true;
    }
