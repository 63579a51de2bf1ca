-- The version counts the entries that make one, and no pin is below an earlier one.
use Rattle.std.proofs.Common.{◌≡◌, ℕ, zero, suc, ◌+◌, ◌≤◌, ◌<◌, List, [], ◌∷◌, ◌++◌, length, sym, ap, ◌∙◌, arith, Option, Some, None, Bool, true, false, get_or, cond}
use Rattle.std.specs.Prelude.{if◌then◌else◌, ◌==◌}
use Rattle.std.specs.List.Sorted.{IsNonDecreasing}
use Rattle.std.proofs.lemmas.List.Sums.{sum_by-cons}
use Rattle.ld_history.specs.declared.limits.Limits.{Limits}
use Rattle.ld_history.specs.declared.event.Given.{Given}
use Rattle.ld_history.specs.declared.event.Event.{Event}
use Rattle.ld_history.specs.declared.event.Event.TheVariants as event
use Rattle.ld_history.specs.declared.event.Entry.{Entry}
use Rattle.ld_history.specs.declared.session.Flight.{Flight}
use Rattle.ld_history.specs.Store.{Store, empty_store}
use Rattle.ld_history.specs.Words.{flight_at}
use Rattle.ld_history.specs.Rules.{allows_with}
use Rattle.ld_history.specs.After.{after, after_event, with_flight}
use Rattle.ld_history.specs.Legal.{replay, state, Entries}
use Rattle.ld_history.specs.Counts.{makes_version, versions_made, pin, pins}
use Rattle.ld_history.specs.ByTurns.{allows_alone, allows_given, allows, Legal, LegalFrom}
use Rattle.ld_history.proofs.LawReads.{read_fail, read_fly, read_publish, read_evict, read_same, read_pin, Flies}

-- how many versions an event makes
abbrev made : Event (List ℕ) → ℕ
made event = cond (makes_version event) 1 0

none_made : (n : ℕ) → n ≡ n + 0
none_made n = omega arith

flown : (store : Store) (change : Flight → Store) (flight v : ℕ) → Flies store flight → ((f : Flight) → (change f).version ≡ v) → (with_flight store change (flight_at store.flights flight)).version ≡ v
flown store change flight v flies each = ap (λ o. (with_flight store change o).version) flies.is ∙ each flies.f

version-alone : (limits : Limits) (store : Store) (event : Event (List ℕ)) → allows_alone limits store event ≡ true → (after_event store None event).version ≡ store.version + made event
version-alone limits store (event.Opened session seat) h = omega arith
version-alone limits store (event.Pinned session request attempt version) h = omega arith
version-alone limits store (event.Found session iri) h = omega arith
version-alone limits store (event.Led session iri flight) h = omega arith
version-alone limits store (event.Joined session iri flight) h = omega arith
version-alone limits store (event.Published flight version) h = cc
version-alone limits store (event.Failed flight before after) h = flown store _ flight _ (read_fly store flight (read_fail store flight before after h)) (λ f. none_made store.version)
version-alone limits store (event.Lapsed flight) h = flown store _ flight _ (read_fly store flight h) (λ f. none_made store.version)
version-alone limits store (event.Evicted session iri version) h = (read_evict store session iri version h).next
version-alone limits store (event.ReviseLed session iri flight) h = omega arith
version-alone limits store (event.Same flight) h = cc
version-alone limits store (event.Answered session request how) h = omega arith
version-alone limits store (event.Closed session) h = omega arith

version-with : (store : Store) (given : Given) (event : Event (List ℕ)) → allows_with store given event ≡ true → (after_event store (Some given) event).version ≡ store.version + made event
version-with store given (event.Published flight version) h =
    let p = read_publish store flight version given h in
    flown store _ flight _ p.flies (λ f. p.next)
version-with store given (event.Same flight) h = flown store _ flight _ (read_same store flight given h) (λ f. none_made store.version)
version-with store given event h = cc

version-event : (limits : Limits) (store : Store) (given : Option Given) (event : Event (List ℕ)) → allows_given limits store event given ≡ true → (after_event store given event).version ≡ store.version + made event
version-event limits store None event h = version-alone limits store event h
version-event limits store (Some given) event h = version-with store given event h

pub version-after : (limits : Limits) (store : Store) (entry : Entry (List ℕ) Given) → allows limits store entry ≡ true → (after store entry).version ≡ store.version + made entry.event
version-after limits store entry h = version-event limits store entry.given entry.event h

counted_from : (limits : Limits) (store : Store) (entries : Entries) → LegalFrom limits store entries → (replay store entries).version ≡ store.version + versions_made entries
counted_from limits store [] h = omega arith
counted_from limits store (entry ∷ entries) h =
    let first : (after store entry).version ≡ store.version + made entry.event = version-after limits store entry h.0 in
    let rest : (replay (after store entry) entries).version ≡ (after store entry).version + versions_made entries = counted_from limits (after store entry) entries h.1 in
    let sum : versions_made (entry ∷ entries) ≡ made entry.event + versions_made entries = sum_by-cons (λ (e : Entry (List ℕ) Given). made e.event) entry entries in
    omega (arith, first, rest, sum)

pub versions_counted : (limits : Limits) (entries : Entries) → Legal limits entries → (state entries).version ≡ versions_made entries
versions_counted limits entries h = let e : (state entries).version ≡ 0 + versions_made entries = counted_from limits empty_store entries h in omega (arith, e)

-- ---- pins
abbrev Rising : ℕ → List ℕ → Type 0
Rising low [] = Unit {0}
Rising low (x ∷ xs) = (low ≤ x) × Rising x xs

rising_from : (low high : ℕ) (xs : List ℕ) → low ≤ high → Rising high xs → Rising low xs
rising_from low high [] le h = tt
rising_from low high (x ∷ xs) le h = (omega (arith, h.0), h.1)

rising_least : (low : ℕ) (xs : List ℕ) → Rising low xs → (j d : ℕ) → j < length xs → low ≤ get_or xs j d
rising_least low [] h j d lt = absurd (omega arith)
rising_least low (x ∷ xs) h zero d lt = h.0
rising_least low (x ∷ xs) h (suc j) d lt = let rest : x ≤ get_or xs j d = rising_least x xs h.1 j d (omega arith) in omega (arith, rest, h.0)

no_fall : (low : ℕ) (xs : List ℕ) → Rising low xs → IsNonDecreasing xs
no_fall low [] h i j d le lt = absurd (omega arith)
no_fall low (x ∷ xs) h zero zero d le lt = omega arith
no_fall low (x ∷ xs) h zero (suc j) d le lt = rising_least x xs h.1 j d (omega arith)
no_fall low (x ∷ xs) h (suc i) zero d le lt = absurd (omega arith)
no_fall low (x ∷ xs) h (suc i) (suc j) d le lt = no_fall x xs h.1 i j d (omega arith) (omega arith)

at_least : (now version more : ℕ) → now ≡ version + more → version ≤ now
at_least now version more is = omega arith

pinned_rise : (own session low version after : ℕ) (xs : List ℕ) (b : Bool) → version ≡ low → after ≡ low → Rising after xs → Rising low ((if b then version ∷ [] else []) ++ xs)
pinned_rise own session low version after xs true p q h = (omega arith, rising_from version after xs (omega arith) h)
pinned_rise own session low version after xs false p q h = rising_from low after xs (omega arith) h

pin_rises : (limits : Limits) (store : Store) (given : Option Given) (event : Event (List ℕ)) (session : ℕ) (xs : List ℕ) → allows_given limits store event given ≡ true
    → (now : ℕ) → now ≡ store.version + made event → Rising now xs → Rising store.version (pin session event ++ xs)
pin_rises limits store None (event.Pinned own request attempt version) session xs h now is rise =
    let p = read_pin limits store own request attempt version h in
    pinned_rise own session store.version version now xs (own == session) p.now (is ∙ sym (none_made store.version)) rise
pin_rises limits store (Some given) (event.Pinned own request attempt version) session xs h now is rise = cc
pin_rises limits store given (event.Opened own seat) session xs h now is rise = rising_from store.version now xs (at_least now store.version 0 is) rise
pin_rises limits store given (event.Found own iri) session xs h now is rise = rising_from store.version now xs (at_least now store.version 0 is) rise
pin_rises limits store given (event.Led own iri flight) session xs h now is rise = rising_from store.version now xs (at_least now store.version 0 is) rise
pin_rises limits store given (event.Joined own iri flight) session xs h now is rise = rising_from store.version now xs (at_least now store.version 0 is) rise
pin_rises limits store given (event.Published flight version) session xs h now is rise = rising_from store.version now xs (at_least now store.version 1 is) rise
pin_rises limits store given (event.Failed flight before after) session xs h now is rise = rising_from store.version now xs (at_least now store.version 0 is) rise
pin_rises limits store given (event.Lapsed flight) session xs h now is rise = rising_from store.version now xs (at_least now store.version 0 is) rise
pin_rises limits store given (event.Evicted own iri version) session xs h now is rise = rising_from store.version now xs (at_least now store.version 1 is) rise
pin_rises limits store given (event.ReviseLed own iri flight) session xs h now is rise = rising_from store.version now xs (at_least now store.version 0 is) rise
pin_rises limits store given (event.Same flight) session xs h now is rise = rising_from store.version now xs (at_least now store.version 0 is) rise
pin_rises limits store given (event.Answered own request how) session xs h now is rise = rising_from store.version now xs (at_least now store.version 0 is) rise
pin_rises limits store given (event.Closed own) session xs h now is rise = rising_from store.version now xs (at_least now store.version 0 is) rise

rise_from : (limits : Limits) (store : Store) (entries : Entries) (session : ℕ) → LegalFrom limits store entries → Rising store.version (pins session entries)
rise_from limits store [] session h = tt
rise_from limits store (entry ∷ entries) session h =
    pin_rises limits store entry.given entry.event session (pins session entries) h.0 _ (version-after limits store entry h.0) (rise_from limits (after store entry) entries session h.1)

pub pins_rise : (limits : Limits) (entries : Entries) (session : ℕ) → Legal limits entries → IsNonDecreasing (pins session entries)
pins_rise limits entries session h = no_fall 0 (pins session entries) (rise_from limits empty_store entries session h)
