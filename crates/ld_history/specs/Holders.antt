-- Which sessions hold each IRI, by IRI.
use Rattle.std.specs.Prelude.{◌≡◌, ℕ, Bool, false, List, [], Some}
use Rattle.std.specs.Ordering.{nat_cmp}
use Rattle.std.specs.BTreeSet.{BTreeSet, contains}
use Rattle.ld_history.specs.Words.{at_iri, is_some_and}

abbrev pub Holders : Type 0
Holders = List (List ℕ × BTreeSet ℕ)

-- this session is listed at the IRI
abbrev pub held_by : Holders → List ℕ → ℕ → Bool
held_by holders iri session = is_some_and (λ set. contains nat_cmp set session) (at_iri holders iri)

-- an IRI that is listed has a holder
abbrev pub AreFilled : Holders → Type 0
AreFilled holders = (iri : List ℕ) (set : BTreeSet ℕ) → at_iri holders iri ≡ Some set → set.keys ≡ [] → ⊥

-- whether the session is listed at the IRI is changed, and nothing else
pub record IsMarked (before after : Holders) (iri : List ℕ) (session : ℕ) (listed : Bool) : Type 0 where
  pub here : held_by after iri session ≡ listed
  pub there : (q : List ℕ) (n : ℕ) → (q ≡ iri → n ≡ session → ⊥) → held_by after q n ≡ held_by before q n

-- the same of all IRIs of one session
pub record IsCleared (before after : Holders) (session : ℕ) : Type 0 where
  pub here : (q : List ℕ) → held_by after q session ≡ false
  pub there : (q : List ℕ) (n : ℕ) → (n ≡ session → ⊥) → held_by after q n ≡ held_by before q n

abbrev pub IsSame : Holders → Holders → Type 0
IsSame before after = (q : List ℕ) (n : ℕ) → held_by after q n ≡ held_by before q n
