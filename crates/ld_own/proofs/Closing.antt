-- A session that was closed has no more entries, and pins no version above the current one.
use Rattle.std.proofs.Common.{◌≡◌, ◌∙◌, ◌⊎◌, inl, inr, ℕ, ◌+◌, ◌≤◌, Bool, true, false, List, [], ◌∷◌, ◌++◌, refl, sym, ap, subst, arith, eqb-true, nat_cmp}
use Rattle.std.specs.Prelude.{Option, Some, None, if◌then◌else◌, ◌==◌}
use Rattle.std.specs.Ordering.{is_eq}
use Rattle.std.specs.Map.{set_value}
use Rattle.std.specs.BTreeMap.{is_at}
use Rattle.ld_history.specs.After.{after, after_event, with_flight}
use Rattle.ld_history.specs.ByTurns.{allows, LegalFrom}
use Rattle.ld_history.specs.Counts.{owner}
use Rattle.ld_history.specs.Legal.{Entries, Legal, state}
use Rattle.ld_history.specs.Store.{Store, empty_store}
use Rattle.ld_history.specs.Words.{at_number, flight_at}
use Rattle.ld_history.specs.declared.event.Event.{Event}
use Rattle.ld_history.specs.declared.event.Event.TheVariants as event
use Rattle.ld_history.specs.declared.event.Entry.{Entry}
use Rattle.ld_history.specs.declared.event.Given.{Given}
use Rattle.ld_history.specs.declared.limits.Limits.{Limits}
use Rattle.ld_history.specs.declared.session.Flight.{Flight}
use Rattle.ld_history.specs.declared.session.Session.{Session}
use Rattle.ld_history.proofs.LawAlong.{legal-append}
use Rattle.ld_history.proofs.LawCrew.{set_number_other}
use Rattle.ld_history.proofs.LawFlights.{number_cases, put_number_other, take_number_other}
use Rattle.ld_history.proofs.LawMoved.{Moved}
use Rattle.ld_history.proofs.LawReads.{read_close, read_open}
use Rattle.ld_history.proofs.LawSound.{Sound, sound, sound-after}
use Rattle.ld_history.proofs.LawTold.{by_turns}
use Rattle.ld_history.proofs.LawTracked.{is_inside, moved}
use Rattle.ld_own.specs.Own.{Placed, placed, own_placed_from}

-- the session is over
pub record IsGone (store : Store) (session : ℕ) : Type 0 where
  pub was : session ≤ store.opened
  pub is : at_number store.sessions session ≡ None

with_opened : (store : Store) (change : Flight → Store) (o : Option Flight) → ((f : Flight) → (change f).opened ≡ store.opened) → (with_flight store change o).opened ≡ store.opened
with_opened store change None same = refl
with_opened store change (Some f) same = same f

pub same_opened : (store : Store) (given : Option Given) (e : Event (List ℕ)) → is_inside e ≡ true → (after_event store given e).opened ≡ store.opened
same_opened store given (event.Opened s k) inside = cc
same_opened store given (event.Pinned s r t v) inside = refl
same_opened store given (event.Found s iri) inside = refl
same_opened store given (event.Led s iri f) inside = refl
same_opened store given (event.Joined s iri f) inside = refl
same_opened store None (event.Published f v) inside = refl
same_opened store (Some g) (event.Published f v) inside = with_opened store _ (flight_at store.flights f) (λ _. refl)
same_opened store given (event.Failed f x y) inside = with_opened store _ (flight_at store.flights f) (λ _. refl)
same_opened store given (event.Lapsed f) inside = with_opened store _ (flight_at store.flights f) (λ _. refl)
same_opened store given (event.Evicted s iri v) inside = refl
same_opened store given (event.ReviseLed s iri f) inside = refl
same_opened store given (event.Same f) inside = with_opened store _ (flight_at store.flights f) (λ _. refl)
same_opened store given (event.Answered s r how) inside = refl
same_opened store given (event.Closed s) inside = cc

module _ (limits : Limits) (small : limits.held ≤ 64) (session : ℕ) where
  -- an entry that may come isn't of a session that is gone, which stays so
  abbrev Passes : Store → Entry (List ℕ) Given → Type 0
  Passes store entry = (owner store entry.event ≡ session → ⊥) × IsGone (after store entry) session

  open_is_other : (store : Store) (n : ℕ) (s : Session) → IsGone store session → at_number store.sessions n ≡ Some s → n ≡ session → ⊥
  open_is_other store n s gone is same = let none : at_number store.sessions n ≡ None = ap (at_number store.sessions) same ∙ gone.is in cc

  passes_inside : (store : Store) (entry : Entry (List ℕ) Given) → Sound limits store → IsGone store session → is_inside entry.event ≡ true → allows limits store entry ≡ true → Passes store entry
  passes_inside store entry h gone inside ok =
      let m = moved limits small store h entry.given entry.event inside ok in
      let other = open_is_other store (owner store entry.event) m.s gone m.is in (
        other,
        record {
          was = subst (λ n. session ≤ n) (sym (same_opened store entry.given entry.event inside)) gone.was;
          is = ap (λ l. at_number l session) m.set ∙ stays m other (number_cases session (owner store entry.event));
        },
      )
    where
      stays : (m : Moved limits store (after_event store entry.given entry.event) entry.event) → (owner store entry.event ≡ session → ⊥)
          → (session ≡ owner store entry.event) ⊎ (is_eq (nat_cmp session (owner store entry.event)) ≡ false) → at_number (set_value (is_at (nat_cmp (owner store entry.event))) store.sessions m.t) session ≡ None
      stays m other (inl same) = absurd (other (sym same))
      stays m other (inr apart) = set_number_other store.sessions (owner store entry.event) m.t m.s m.is session apart ∙ gone.is

  passes_opened : (store : Store) (n k : ℕ) → IsGone store session → n ≡ store.opened + 1 → (session ≡ n) ⊎ (is_eq (nat_cmp session n) ≡ false) → Passes store (record { event = event.Opened n k; given = None })
  passes_opened store n k gone next (inl same) = let was = gone.was in absurd (omega (arith, same, next, was))
  passes_opened store n k gone next (inr apart) = (
    (λ same. let was = gone.was in omega (arith, same, next, was)),
    record { was = let was = gone.was in omega (arith, next, was); is = put_number_other store.sessions n _ session apart ∙ gone.is },
  )

  passes_closed : (store : Store) (n : ℕ) (s : Session) → IsGone store session → at_number store.sessions n ≡ Some s → (session ≡ n) ⊎ (is_eq (nat_cmp session n) ≡ false) → Passes store (record { event = event.Closed n; given = None })
  passes_closed store n s gone is (inl same) = absurd (open_is_other store n s gone is (sym same))
  passes_closed store n s gone is (inr apart) = (open_is_other store n s gone is, record { was = gone.was; is = take_number_other store.sessions n session apart ∙ gone.is })

  passes : (store : Store) (given : Option Given) (e : Event (List ℕ)) → Sound limits store → IsGone store session → allows limits store (record { event = e; given = given }) ≡ true → Passes store (record { event = e; given = given })
  passes store None (event.Opened n k) h gone ok = passes_opened store n k gone (read_open limits store n k ok).next (number_cases session n)
  passes store (Some g) (event.Opened n k) h gone ok = cc
  passes store None (event.Closed n) h gone ok = let p = read_close store n ok in passes_closed store n p.s gone p.is (number_cases session n)
  passes store (Some g) (event.Closed n) h gone ok = cc
  passes store given (event.Pinned s r t v) h gone ok = passes_inside store (record { event = event.Pinned s r t v; given = given }) h gone refl ok
  passes store given (event.Found s iri) h gone ok = passes_inside store (record { event = event.Found s iri; given = given }) h gone refl ok
  passes store given (event.Led s iri f) h gone ok = passes_inside store (record { event = event.Led s iri f; given = given }) h gone refl ok
  passes store given (event.Joined s iri f) h gone ok = passes_inside store (record { event = event.Joined s iri f; given = given }) h gone refl ok
  passes store given (event.Published f v) h gone ok = passes_inside store (record { event = event.Published f v; given = given }) h gone refl ok
  passes store given (event.Failed f x y) h gone ok = passes_inside store (record { event = event.Failed f x y; given = given }) h gone refl ok
  passes store given (event.Lapsed f) h gone ok = passes_inside store (record { event = event.Lapsed f; given = given }) h gone refl ok
  passes store given (event.Evicted s iri v) h gone ok = passes_inside store (record { event = event.Evicted s iri v; given = given }) h gone refl ok
  passes store given (event.ReviseLed s iri f) h gone ok = passes_inside store (record { event = event.ReviseLed s iri f; given = given }) h gone refl ok
  passes store given (event.Same f) h gone ok = passes_inside store (record { event = event.Same f; given = given }) h gone refl ok
  passes store given (event.Answered s r how) h gone ok = passes_inside store (record { event = event.Answered s r how; given = given }) h gone refl ok

  not_listed : (mine : Bool) (p : Placed) (rest : List Placed) → (mine ≡ true → ⊥) → rest ≡ [] → (if mine then p ∷ [] else []) ++ rest ≡ []
  not_listed false p rest other none = none
  not_listed true p rest other none = absurd (other refl)

  gone_from : (store : Store) (more : Entries) → Sound limits store → IsGone store session → LegalFrom limits store more → own_placed_from store session more ≡ []
  gone_from store [] h gone legal = refl
  gone_from store (entry ∷ more) h gone legal =
      let p = passes store entry.given entry.event h gone legal.0 in
      not_listed (owner store entry.event == session) (placed store entry) (own_placed_from (after store entry) session more) (λ same. p.0 (eqb-true (owner store entry.event) session same))
      (gone_from (after store entry) more (sound-after limits store entry legal.0 h) p.1 legal.1)

-- a session that is over has no more entries, however the history goes on
pub gone_stays : (limits : Limits) → limits.held ≤ 64 → (session : ℕ) (front more : Entries) → Legal limits (front ++ more) → IsGone (state front) session → own_placed_from (state front) session more ≡ []
gone_stays limits small session front more legal gone =
    let parts = legal-append limits empty_store front more (by_turns limits (front ++ more) legal) in
    gone_from limits small session (state front) more (sound limits front parts.0) gone parts.1
