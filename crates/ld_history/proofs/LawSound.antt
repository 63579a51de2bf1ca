-- What holds of the state after each legal history: it holds at first, and each allowed event keeps it.
use Rattle.std.proofs.Common.{◌≡◌, ℕ, zero, suc, ◌+◌, List, [], refl, sym, subst, Option, Some, None, true, false}
use Rattle.std.specs.List.Sorted.{IsStrictlySortedBy}
use Rattle.ld_history.specs.declared.limits.Limits.{Limits}
use Rattle.ld_history.specs.declared.event.Given.{Given}
use Rattle.ld_history.specs.declared.event.Event.{Event}
use Rattle.ld_history.specs.declared.event.Event.TheVariants as event
use Rattle.ld_history.specs.declared.event.Entry.{Entry}
use Rattle.ld_history.specs.declared.session.Flight.{Flight}
use Rattle.ld_history.specs.declared.session.End.{End}
use Rattle.ld_history.specs.declared.session.End.TheVariants as end
use Rattle.ld_history.specs.declared.session.Eviction.{Eviction}
use Rattle.ld_history.specs.Store.{Store, empty_store}
use Rattle.ld_history.specs.Words.{flight_at, is_published}
use Rattle.ld_history.specs.Rules.{allows_with}
use Rattle.ld_history.specs.After.{after, after_event, eviction, with_flight, landed, answered_by}
use Rattle.ld_history.specs.Legal.{state, Entries}
use Rattle.ld_history.specs.ByTurns.{allows_alone, allows_given, allows, Legal}
use Rattle.ld_history.proofs.LawAlong.{kept_along}
use Rattle.ld_history.proofs.LawReads.{read_open, read_pin, read_find, read_lead, read_join, read_fly, read_fail, read_publish, read_evict, read_revise, read_same, read_answer, read_close, Flies, Publishes}
use Rattle.ld_history.proofs.LawAir.{Air, air-empty, air-led, air-revise, air-landed, air-published, air-evicted}
use Rattle.ld_history.proofs.LawCrew.{Crew}
use Rattle.ld_history.proofs.LawOwn.{crew-opened, crew-pinned, crew-found, crew-joined, crew-answered, crew-closed, no_evictor}
use Rattle.ld_history.proofs.LawShared.{crew-led, crew-revise, crew-evicted, crew-landed, crew-published}

pub record Sound (limits : Limits) (store : Store) : Type 0 where
  pub air : Air limits store
  pub crew : Crew limits store

pub sound-empty : (limits : Limits) → Sound limits empty_store
unfolding IsStrictlySortedBy
sound-empty limits = record {
  air = air-empty limits;
  crew = record {
    sorted = tt;
    numbered = λ n s e. cc;
    seats = λ n m s t e g same. cc;
    each = λ n s e. cc;
    wait = λ n f there flying. absurd (nothing n f there);
    evictor = no_evictor [];
    tell = λ iri v le. refl;
    named = λ iri e. cc;
  };
}
  where
    nothing : (n : ℕ) (f : Flight) → flight_at [] n ≡ Some f → ⊥
    nothing zero f e = cc
    nothing (suc n) f e = cc

-- the same flights, places and bytes
told : (limits : Limits) (store : Store) (events : ℕ) (evicted : Option Eviction) → Air limits store → Air limits (record store { events = events; evicted = evicted })
told limits store events evicted a = record { flights = a.flights; counted = a.counted; places = a.places; bytes = a.bytes }

module _ (limits : Limits) (store : Store) (h : Sound limits store) where
  -- a flight under way ends
  ends : (flight : ℕ) (how : End) → (how ≡ end.UnderWay → ⊥) → is_published how ≡ false → (p : Flies store flight)
      → Sound limits (record (with_flight store (landed store flight how) (flight_at store.flights flight)) { events = store.events + 1; evicted = None })
  ends flight how over not p =
      subst (λ o. Sound limits (record (with_flight store (landed store flight how) o) { events = store.events + 1; evicted = None })) (sym p.is) (record {
        air = told limits (landed store flight how p.f) (store.events + 1) None (air-landed limits store h.air flight p.f p.is p.flying how over);
        crew = crew-landed limits store h.crew h.air flight p.f p.is p.flying how over not (store.events + 1);
      })

  publishes : (flight version : ℕ) (given : Given) (p : Publishes store flight version given)
      → Sound limits (record (with_flight store (answered_by store flight version given) (flight_at store.flights flight)) { events = store.events + 1; evicted = None })
  publishes flight version given p =
      subst (λ o. Sound limits (record (with_flight store (answered_by store flight version given) o) { events = store.events + 1; evicted = None })) (sym p.flies.is) (record {
        air = told limits (answered_by store flight version given p.flies.f) (store.events + 1) None (air-published limits store h.air flight p.flies.f p.flies.is p.flies.flying version given p.short);
        crew = crew-published limits store h.crew h.air flight p.flies.f p.flies.is p.flies.flying version given p.next (store.events + 1);
      })

  sound-alone : (event : Event (List ℕ)) → allows_alone limits store event ≡ true
      → Sound limits (record (after_event store None event) { events = store.events + 1; evicted = eviction store event })
  sound-alone (event.Opened session seat) ok = record {
    air = record { flights = h.air.flights; counted = h.air.counted; places = h.air.places; bytes = h.air.bytes };
    crew = crew-opened limits store h.crew session seat (read_open limits store session seat ok) (store.events + 1);
  }
  sound-alone (event.Pinned session request attempt version) ok = record {
    air = record { flights = h.air.flights; counted = h.air.counted; places = h.air.places; bytes = h.air.bytes };
    crew = crew-pinned limits store h.crew session request attempt version (read_pin limits store session request attempt version ok) (store.events + 1);
  }
  sound-alone (event.Found session iri) ok = record {
    air = record { flights = h.air.flights; counted = h.air.counted; places = h.air.places; bytes = h.air.bytes };
    crew = crew-found limits store h.crew session iri (read_find limits store session iri ok) (store.events + 1);
  }
  sound-alone (event.Led session iri flight) ok =
      let p = read_lead limits store session iri flight ok in
      record {
        air = told limits _ (store.events + 1) None (air-led limits store h.air session iri flight p);
        crew = crew-led limits store h.crew session iri flight p (store.events + 1);
      }
  sound-alone (event.Joined session iri flight) ok = record {
    air = record { flights = h.air.flights; counted = h.air.counted; places = h.air.places; bytes = h.air.bytes };
    crew = crew-joined limits store h.crew h.air session iri flight (read_join limits store session iri flight ok) (store.events + 1);
  }
  sound-alone (event.Published flight version) ok = cc
  sound-alone (event.Failed flight before after) ok = ends flight (end.Failed before after) (λ e. cc) refl (read_fly store flight (read_fail store flight before after ok))
  sound-alone (event.Lapsed flight) ok = ends flight end.Lapsed (λ e. cc) refl (read_fly store flight ok)
  sound-alone (event.Evicted session iri version) ok =
      let p = read_evict store session iri version ok in
      record {
        air = told limits _ (store.events + 1) _ (air-evicted limits store h.air session iri version p);
        crew = crew-evicted limits store h.crew h.air session iri version p (store.events + 1);
      }
  sound-alone (event.ReviseLed session iri flight) ok =
      let p = read_revise limits store session iri flight ok in
      record {
        air = told limits _ (store.events + 1) None (air-revise limits store h.air session iri flight p);
        crew = crew-revise limits store h.crew session iri flight p (store.events + 1);
      }
  sound-alone (event.Same flight) ok = cc
  sound-alone (event.Answered session request how) ok = record {
    air = record { flights = h.air.flights; counted = h.air.counted; places = h.air.places; bytes = h.air.bytes };
    crew = crew-answered limits store h.crew h.air session request (read_answer limits store session request how ok) (store.events + 1);
  }
  sound-alone (event.Closed session) ok = record {
    air = record { flights = h.air.flights; counted = h.air.counted; places = h.air.places; bytes = h.air.bytes };
    crew = crew-closed limits store h.crew session (read_close store session ok) (store.events + 1);
  }

  sound-with : (given : Given) (event : Event (List ℕ)) → allows_with store given event ≡ true
      → Sound limits (record (after_event store (Some given) event) { events = store.events + 1; evicted = eviction store event })
  sound-with given (event.Published flight version) ok = publishes flight version given (read_publish store flight version given ok)
  sound-with given (event.Same flight) ok = ends flight end.Same (λ e. cc) refl (read_same store flight given ok)
  sound-with given event ok = cc

  sound-event : (given : Option Given) (event : Event (List ℕ)) → allows_given limits store event given ≡ true
      → Sound limits (record (after_event store given event) { events = store.events + 1; evicted = eviction store event })
  sound-event None event ok = sound-alone event ok
  sound-event (Some given) event ok = sound-with given event ok

pub sound-after : (limits : Limits) (store : Store) (entry : Entry (List ℕ) Given) → allows limits store entry ≡ true → Sound limits store → Sound limits (after store entry)
sound-after limits store entry ok h = sound-event limits store h entry.given entry.event ok

pub sound : (limits : Limits) (entries : Entries) → Legal limits entries → Sound limits (state entries)
sound limits = kept_along limits (Sound limits) (sound-after limits) (sound-empty limits)
