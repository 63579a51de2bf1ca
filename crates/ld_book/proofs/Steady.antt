-- The state over one entry, as far as a book's snapshot and passes rest on it.
use Rattle.std.proofs.Common.{◌≡◌, ℕ, zero, suc, ◌+◌, List, [], ◌∷◌, ◌++◌, length, refl, sym, ap, ◌∙◌, subst, Bool, true, false, Option, Some, None, ◌⊎◌, inl, inr, slice_get, length-append, arith}
use Rattle.std.specs.Prelude.{slice_set}
use Rattle.std.specs.Option.{option_map}
use Rattle.std.proofs.lemmas.List.{length-set}
use Rattle.ld_history.specs.declared.event.Event.{Event}
use Rattle.ld_history.specs.declared.event.Event.TheVariants as event
use Rattle.ld_history.specs.declared.event.Given.{Given}
use Rattle.ld_history.specs.declared.event.Entry.{Entry}
use Rattle.ld_history.specs.declared.session.Flight.{Flight}
use Rattle.ld_history.specs.declared.session.End.{End}
use Rattle.ld_history.specs.declared.session.End.TheVariants as end
use Rattle.ld_history.specs.Store.{Store}
use Rattle.ld_history.specs.Words.{flight_at, is_some_and, is_published}
use Rattle.ld_history.specs.Rules.{ended, is_flying}
use Rattle.ld_history.specs.After.{after, with_flight, landed, answered_by, ended_as, end_at}
use Rattle.ld_history.proofs.LawFlights.{number_cases, apart_numbers, flight_ended, flight_kept}
use Rattle.ld_history.proofs.LawReads.{Flies, read_fly}

-- the flight of this number has brought its answer into the store
abbrev pub landed_in : List Flight → ℕ → Bool
landed_in flights flight = is_some_and is_published (option_map (λ (f : Flight). f.end) (flight_at flights flight))

-- what a book rests on stays: no document comes or goes out
pub record Steady (store : Store) (next : Store) : Type 0 where
  pub version : next.version ≡ store.version
  pub stored : next.stored ≡ store.stored
  pub landed : (flight : ℕ) → landed_in next.flights flight ≡ landed_in store.flights flight

-- the event makes no version, and where it ends a flight, that is under way
abbrev pub IsCalm : Store → Event (List ℕ) → Type 0
IsCalm store (event.Published flight version) = ⊥
IsCalm store (event.Evicted session iri version) = ⊥
IsCalm store (event.Failed flight before after) = is_flying store flight ≡ true
IsCalm store (event.Lapsed flight) = is_flying store flight ≡ true
IsCalm store (event.Same flight) = is_flying store flight ≡ true
IsCalm store _ = Unit {0}

-- how many flights begin with it
abbrev pub begins : Event (List ℕ) → ℕ
begins (event.Led session iri flight) = 1
begins (event.ReviseLed session iri flight) = 1
begins _ = 0

-- ---- flights
got_more : (fs : List Flight) (g : Flight) → is_published g.end ≡ false → (i : ℕ)
    → is_some_and is_published (option_map (λ (f : Flight). f.end) (slice_get (fs ++ g ∷ []) i)) ≡ is_some_and is_published (option_map (λ (f : Flight). f.end) (slice_get fs i))
got_more [] g not zero = not
got_more [] g not (suc i) = refl
got_more (f ∷ fs) g not zero = refl
got_more (f ∷ fs) g not (suc i) = got_more fs g not i

begun_landed : (fs : List Flight) (g : Flight) → is_published g.end ≡ false → (n : ℕ) → landed_in (fs ++ g ∷ []) n ≡ landed_in fs n
begun_landed fs g not zero = refl
begun_landed fs g not (suc n) = got_more fs g not n

pub length-ended : (fs : List Flight) (n : ℕ) (how : End) → length (ended_as fs n how) ≡ length fs
length-ended fs zero how = refl
length-ended fs (suc place) how =
    elim (slice_get fs place) as (λ o. length (end_at fs place how o) ≡ length fs) [
      | None ↦ refl
      | Some f ↦ length-set fs place (record f { end = how })
    ]

length-begun : (fs : List Flight) (g : Flight) → length (fs ++ g ∷ []) ≡ length fs + 1
length-begun fs g = length-append fs (g ∷ [])

-- whether a flight brought its answer, once another or itself has ended
pub ended_other : (fs : List Flight) (n : ℕ) (how : End) (m : ℕ) → (m ≡ n → ⊥) → landed_in (ended_as fs n how) m ≡ landed_in fs m
ended_other fs n how m apart = ap (λ (o : Option Flight). is_some_and is_published (option_map (λ (f : Flight). f.end) o)) (flight_kept fs n how m apart)

pub ended_same : (fs : List Flight) (n : ℕ) (how : End) (f : Flight) → flight_at fs n ≡ Some f → landed_in (ended_as fs n how) n ≡ is_published how
ended_same fs n how f is = ap (λ (o : Option Flight). is_some_and is_published (option_map (λ (f : Flight). f.end) o)) (flight_ended fs n how f is)

pub flying_landed : (fs : List Flight) (n : ℕ) (f : Flight) → flight_at fs n ≡ Some f → f.end ≡ end.UnderWay → landed_in fs n ≡ false
flying_landed fs n f is flying = ap (λ (o : Option Flight). is_some_and is_published (option_map (λ (f : Flight). f.end) o)) is ∙ ap is_published flying

ended_landed : (fs : List Flight) (n : ℕ) (how : End) (f : Flight) → flight_at fs n ≡ Some f → f.end ≡ end.UnderWay → is_published how ≡ false → (m : ℕ)
    → landed_in (ended_as fs n how) m ≡ landed_in fs m
ended_landed fs n how f is flying not m = elim (number_cases m n) [
  | inl same ↦ ap (landed_in (ended_as fs n how)) same ∙ ended_same fs n how f is ∙ not ∙ sym (flying_landed fs n f is flying) ∙ ap (landed_in fs) (sym same)
  | inr apart ↦ ended_other fs n how m (apart_numbers m n apart)
]

-- ---- one entry
-- the state once a flight under way has ended so
module _ (store : Store) (flight : ℕ) (how : End) (p : Flies store flight) where
  abbrev ending : Store
  ending = with_flight store (landed store flight how) (flight_at store.flights flight)

  ending_is : ending ≡ landed store flight how p.f
  ending_is = ap (with_flight store (landed store flight how)) p.is

  pub steady_ending : is_published how ≡ false → Steady store ending
  steady_ending not = subst (Steady store) (sym ending_is) (record { version = refl; stored = refl; landed = ended_landed store.flights flight how p.f p.is p.flying not })

  length-ending : length ending.flights ≡ length store.flights + 0
  length-ending = ap (λ (s : Store). length s.flights) ending_is ∙ length-ended store.flights flight how ∙ omega arith

module _ (store : Store) (given : Option Given) where
  abbrev next : Event (List ℕ) → Store
  next e = after store (record { event = e; given = given })

  pub steady : (e : Event (List ℕ)) → IsCalm store e → Steady store (next e)
  steady (event.Opened session seat) calm = record { version = refl; stored = refl; landed = λ flight. refl }
  steady (event.Pinned session request attempt version) calm = record { version = refl; stored = refl; landed = λ flight. refl }
  steady (event.Found session iri) calm = record { version = refl; stored = refl; landed = λ flight. refl }
  steady (event.Led session iri flight) calm = record { version = refl; stored = refl; landed = begun_landed store.flights _ refl }
  steady (event.Joined session iri flight) calm = record { version = refl; stored = refl; landed = λ flight. refl }
  steady (event.Published flight version) calm = absurd calm
  steady (event.Failed flight before after) calm = let s = steady_ending store flight (end.Failed before after) (read_fly store flight calm) refl in record { version = s.version; stored = s.stored; landed = s.landed }
  steady (event.Lapsed flight) calm = let s = steady_ending store flight end.Lapsed (read_fly store flight calm) refl in record { version = s.version; stored = s.stored; landed = s.landed }
  steady (event.Evicted session iri version) calm = absurd calm
  steady (event.ReviseLed session iri flight) calm = record { version = refl; stored = refl; landed = begun_landed store.flights _ refl }
  steady (event.Same flight) calm = let s = steady_ending store flight end.Same (read_fly store flight calm) refl in record { version = s.version; stored = s.stored; landed = s.landed }
  steady (event.Answered session request how) calm = record { version = refl; stored = refl; landed = λ flight. refl }
  steady (event.Closed session) calm = record { version = refl; stored = refl; landed = λ flight. refl }

  pub flights_after : (e : Event (List ℕ)) → IsCalm store e → length (next e).flights ≡ length store.flights + begins e
  flights_after (event.Opened session seat) calm = omega arith
  flights_after (event.Pinned session request attempt version) calm = omega arith
  flights_after (event.Found session iri) calm = omega arith
  flights_after (event.Led session iri flight) calm = length-begun store.flights _
  flights_after (event.Joined session iri flight) calm = omega arith
  flights_after (event.Published flight version) calm = absurd calm
  flights_after (event.Failed flight before after) calm = length-ending store flight (end.Failed before after) (read_fly store flight calm)
  flights_after (event.Lapsed flight) calm = length-ending store flight end.Lapsed (read_fly store flight calm)
  flights_after (event.Evicted session iri version) calm = absurd calm
  flights_after (event.ReviseLed session iri flight) calm = length-begun store.flights _
  flights_after (event.Same flight) calm = length-ending store flight end.Same (read_fly store flight calm)
  flights_after (event.Answered session request how) calm = omega arith
  flights_after (event.Closed session) calm = omega arith
