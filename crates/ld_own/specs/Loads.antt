-- What a loader gave and how often it failed, as the entries of a session that it loads for tell it.
use Rattle.std.specs.Prelude.{◌≡◌, ◌⊎◌, ℕ, ◌≤◌, List, [], ◌∷◌, ◌++◌, Option, Some}
use Rattle.ld_edge.specs.Faults.{Rose}
use Rattle.ld_flight.specs.declared.given.Given as loader
use Rattle.ld_history.specs.declared.event.Event.{Event}
use Rattle.ld_history.specs.declared.event.Event.TheVariants as event
use Rattle.ld_history.specs.declared.event.Given.{Given}
use Rattle.ld_history.specs.declared.session.Flight.{Flight}
use Rattle.ld_history.specs.Words.{flight_at}
use Rattle.ld_own.specs.Own.{Placed}

-- the answer was given for this flight
pub record IsFor (p : Placed) (flight : ℕ) (given : loader.Given) : Type 0 where
  pub f : Flight
  pub is : flight_at p.before.flights flight ≡ Some f
  pub number : given.flight ≡ flight
  pub iri : given.iri ≡ f.iri

-- and it is what the history keeps of it
pub record IsKept (kept : Option Given) (given : loader.Given) : Type 0 where
  pub answer : Given
  pub is : kept ≡ Some answer
  pub url : given.url ≡ answer.url
  pub length : given.length ≡ answer.length
  pub mark : given.mark ≡ answer.mark

abbrev pub BringsBy : Placed → Event (List ℕ) → List loader.Given → Type 0
BringsBy p (event.Published flight version) gained = (given : loader.Given) × (gained ≡ given ∷ []) × IsFor p flight given × IsKept p.entry.given given
BringsBy p (event.Same flight) gained = (given : loader.Given) × (gained ≡ given ∷ []) × IsFor p flight given × IsKept p.entry.given given
BringsBy p (event.Lapsed flight) gained = (gained ≡ []) ⊎ ((given : loader.Given) × (gained ≡ given ∷ []) × IsFor p flight given)
BringsBy p _ gained = gained ≡ []

-- What the loader gave for the flight that ended so: its answer, where it was published or is the same; and where the
-- flight lapsed, its answer or nothing, since memory may have been wanting before or after the load.
abbrev pub Brings : Placed → List loader.Given → Type 0
Brings p gained = BringsBy p p.entry.event gained

-- and for all of them, in order
abbrev pub Gained : List Placed → List loader.Given → Type 0
Gained [] gained = gained ≡ []
Gained (p ∷ mine) gained = (part rest : List loader.Given) × Brings p part × Gained mine rest × (gained ≡ part ++ rest)

-- ---- failures

abbrev pub after_fault : Event (List ℕ) → ℕ → (ℕ → Type 0) → Type 0
after_fault (event.Failed flight before after) low rest = (low ≤ before) × Rose before after × rest after
after_fault _ low rest = rest low

-- Each flight that failed has the loader's count of failures before and after its load. These lie between the first and the
-- last count, one after another.
abbrev pub Spans : ℕ → List Placed → ℕ → Type 0
Spans low [] high = low ≤ high
Spans low (p ∷ mine) high = after_fault p.entry.event low (λ count. Spans count mine high)
