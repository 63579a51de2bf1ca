-- Flights, places and bytes: kept by each allowed event.
use Rattle.std.proofs.Common.{◌≡◌, ℕ, zero, suc, ◌+◌, ◌*◌, ◌≤◌, List, [], length, refl, arith, Some}
use Rattle.std.specs.Prelude.{is_some}
use Rattle.std.specs.List.Sorted.{IsStrictlySortedBy}
use Rattle.std.specs.Map.{keys_of}
use Rattle.ld_tree.specs.Names.{name_cmp}
use Rattle.ld_history.specs.declared.limits.Limits.{Limits}
use Rattle.ld_history.specs.declared.event.Given.{Given}
use Rattle.ld_history.specs.declared.session.Flight.{Flight}
use Rattle.ld_history.specs.declared.session.Flying.{Flying}
use Rattle.ld_history.specs.declared.session.Kind.{Kind}
use Rattle.ld_history.specs.declared.session.Kind.TheVariants as kind
use Rattle.ld_history.specs.declared.session.End.{End}
use Rattle.ld_history.specs.declared.session.End.TheVariants as end
use Rattle.ld_history.specs.declared.session.Stored.{Stored}
use Rattle.ld_history.specs.Store.{Store, empty_store}
use Rattle.ld_history.specs.Words.{at_iri, flight_at, places, flights_under_way}
use Rattle.ld_history.specs.After.{put_iri, after_led, after_revise_led, after_evicted, landed, answered_by}
use Rattle.ld_history.proofs.LawReads.{Leads, Revises, Evicts}
use Rattle.ld_history.proofs.LawAirborne.{Airborne, Table, pick, airborne-begun, airborne-landed, airborne-published, airborne-evicted}
use Rattle.ld_history.proofs.LawCounts.{has, length-put, length-take, without_here, without_there, fewer_flights, no_more_leads, same_places, kept-le, named-le, Counted, counted-led, counted-revise, counted-ended}

pub record Air (limits : Limits) (store : Store) : Type 0 where
  pub flights : Airborne store.flights (pick store.leads store.revisions) store.stored
  pub counted : Counted store.flights store.leads store.revisions
  pub places : places store ≤ limits.contexts
  pub bytes : store.bytes + 1048576 * flights_under_way store ≤ limits.bytes

nothing_at : {X : Type 0} (k : Kind) (iri : List ℕ) (x : X) → at_iri (pick [] [] k) iri ≡ Some x → ⊥
nothing_at kind.Lead iri x e = cc
nothing_at kind.Revise iri x e = cc

nothing_sorted : (k : Kind) → IsStrictlySortedBy name_cmp (keys_of (pick {X = Table} [] [] k))
unfolding IsStrictlySortedBy
nothing_sorted kind.Lead = tt
nothing_sorted kind.Revise = tt

no_flight : (n : ℕ) (f : Flight) → flight_at [] n ≡ Some f → ⊥
no_flight zero f e = cc
no_flight (suc n) f e = cc

pub air-empty : (limits : Limits) → Air limits empty_store
unfolding IsStrictlySortedBy
air-empty limits = record {
  flights = record {
    sorted = nothing_sorted;
    stored_sorted = tt;
    listed = λ k iri l e. absurd (nothing_at k iri l e);
    known = λ n f e u. absurd (no_flight n f e);
    sides = λ k iri l e. absurd (nothing_at k iri l e);
  };
  counted = record { leading = refl; all = refl };
  places = omega arith;
  bytes = omega arith;
}

module _ (limits : Limits) (store : Store) (h : Air limits store) where
  module _ (session : ℕ) (iri : List ℕ) (flight : ℕ) (p : Leads limits store session iri flight) where
    led_there : (x : Flying) (k : Kind) → (k ≡ kind.Lead → ⊥) → pick (put_iri store.leads iri x) store.revisions k ≡ pick store.leads store.revisions k
    led_there x kind.Lead n = absurd (n refl)
    led_there x kind.Revise n = refl

    pub air-led : Air limits (after_led store session iri flight)
    air-led =
        let new : Flying = record { flight = flight; session = session } in
        let more : length (put_iri store.leads iri new) ≡ suc (length store.leads) = length-put store.leads iri new p.has.not_led in
        let bytes = named-le (is_some (at_iri store.turns iri)) store.bytes (length iri) p.lack.short in
        record {
          flights = airborne-begun store.flights (pick store.leads store.revisions) (pick (put_iri store.leads iri new) store.revisions) store.stored h.flights
              kind.Lead iri session flight p.has.next p.has.not_led p.has.not_stored refl (led_there new);
          counted = counted-led store.flights store.leads store.revisions iri session new p.has.not_led h.counted;
          places = omega (arith, more, p.has.place);
          bytes = omega (arith, more, p.has.room, bytes);
        }

  module _ (session : ℕ) (iri : List ℕ) (flight : ℕ) (p : Revises limits store session iri flight) where
    revised_there : (x : Flying) (k : Kind) → (k ≡ kind.Revise → ⊥) → pick store.leads (put_iri store.revisions iri x) k ≡ pick store.leads store.revisions k
    revised_there x kind.Lead n = refl
    revised_there x kind.Revise n = absurd (n refl)

    pub air-revise : Air limits (after_revise_led store session iri flight)
    air-revise =
        let new : Flying = record { flight = flight; session = session } in
        let more : length (put_iri store.revisions iri new) ≡ suc (length store.revisions) = length-put store.revisions iri new p.not_revised in
        record {
          flights = airborne-begun store.flights (pick store.leads store.revisions) (pick store.leads (put_iri store.revisions iri new)) store.stored h.flights
              kind.Revise iri session flight p.next p.not_revised p.stored refl (revised_there new);
          counted = counted-revise store.flights store.leads store.revisions iri session new p.not_revised h.counted;
          places = h.places;
          bytes = omega (arith, more, p.room);
        }

  module _ (flight : ℕ) (f : Flight) (is : flight_at store.flights flight ≡ Some f) (flying : f.end ≡ end.UnderWay) where
    known : at_iri (pick store.leads store.revisions f.kind) f.iri ≡ Some (record { flight = flight; session = f.session })
    known = h.flights.known flight f is flying

    pub air-landed : (how : End) → (how ≡ end.UnderWay → ⊥) → Air limits (landed store flight how f)
    air-landed how over =
        let fewer = fewer_flights store.leads store.revisions f.iri f.kind _ known in
        let leads = no_more_leads store.leads store.revisions f.iri f.kind _ known in
        record {
          flights = airborne-landed store.flights (pick store.leads store.revisions) _ store.stored h.flights flight f is flying how over
              (without_here store.leads store.revisions f.iri f.kind) (without_there store.leads store.revisions f.iri f.kind);
          counted = counted-ended store.flights store.leads store.revisions flight f how _ is flying over known h.counted;
          places = omega (arith, leads, h.places);
          bytes = omega (arith, fewer, h.bytes);
        }

    pub air-published : (version : ℕ) (given : Given) → given.length ≤ 1048577 → Air limits (answered_by store flight version given f)
    air-published version given short =
        let new : Stored = record { flight = flight; version = version; answer = given } in
        let fewer = fewer_flights store.leads store.revisions f.iri f.kind _ known in
        let same = same_places store.leads store.revisions f.iri store.flights store.stored new h.flights f.kind _ known in
        let kept = kept-le given.length short in
        record {
          flights = airborne-published store.flights (pick store.leads store.revisions) _ store.stored h.flights flight f is flying (end.Published version) (λ e. cc)
              (without_here store.leads store.revisions f.iri f.kind) (without_there store.leads store.revisions f.iri f.kind) new;
          counted = counted-ended store.flights store.leads store.revisions flight f (end.Published version) _ is flying (λ e. cc) known h.counted;
          places = omega (arith, same, h.places);
          bytes = omega (arith, fewer, h.bytes, kept);
        }

  module _ (session : ℕ) (iri : List ℕ) (version : ℕ) (p : Evicts store session iri version) where
    pub air-evicted : Air limits (after_evicted store session iri version)
    air-evicted =
        let old = has (at_iri store.stored iri) p.stored in
        let fewer = length-take store.stored iri old.0 old.1 in
        record {
          flights = airborne-evicted store.flights (pick store.leads store.revisions) store.stored h.flights iri p.stored p.not_revised;
          counted = h.counted;
          places = omega (arith, fewer, h.places);
          bytes = h.bytes;
        }
