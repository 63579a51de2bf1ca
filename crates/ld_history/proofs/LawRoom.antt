-- The room that open sessions and requests under way may still take is there.
use Rattle.std.proofs.Common.{◌≡◌, ℕ, ◌+◌, ◌*◌, ◌-◌, ◌≤◌, List, [], ◌∷◌, ◌++◌, length, refl, sym, ap, ◌∙◌, subst, arith, Option, Some, None, Bool, true, false, cond, ◌⊎◌, inl, inr, nat_cmp, length-append}
use Rattle.std.specs.Prelude.{◌==◌, if◌then◌else◌}
use Rattle.std.specs.List.{sum_by, count_by}
use Rattle.std.specs.Ordering.{is_eq}
use Rattle.std.specs.Cmp.{nat_cmp_total, tied_itself}
use Rattle.std.specs.Map.{values_of, set_value}
use Rattle.std.specs.BTreeMap.{is_at}
use Rattle.std.proofs.lemmas.Map.{length-set_value}
use Rattle.std.proofs.lemmas.Bool.{ne_eqb}
use Rattle.ld_history.specs.declared.limits.Limits.{Limits}
use Rattle.ld_history.specs.declared.event.Given.{Given}
use Rattle.ld_history.specs.declared.event.Event.{Event}
use Rattle.ld_history.specs.declared.event.Event.TheVariants as event
use Rattle.ld_history.specs.declared.event.Entry.{Entry}
use Rattle.ld_history.specs.declared.session.Session.{Session}
use Rattle.ld_history.specs.declared.session.Last.TheVariants as last
use Rattle.ld_history.specs.Store.{Store, empty_store}
use Rattle.ld_history.specs.Words.{at_number, has_request, requests_under_way}
use Rattle.ld_history.specs.Rules.{may_open, may_close}
use Rattle.ld_history.specs.After.{after}
use Rattle.ld_history.specs.Legal.{state, Entries}
use Rattle.ld_history.specs.Counts.{owner, spent_with, spent, reserve}
use Rattle.ld_history.specs.Ahead.{promised_to, promised, rise}
use Rattle.ld_history.specs.ByTurns.{allows, allows_given, Legal}
use Rattle.ld_history.proofs.LawTables.{length-put_new, length-take_found}
use Rattle.ld_history.proofs.LawAlong.{along, replay-append}
use Rattle.ld_history.proofs.LawReads.{read_open, read_close}
use Rattle.ld_history.proofs.LawFlights.{apart_numbers, number_cases}
use Rattle.ld_history.proofs.LawCrew.{Sessions, Crew}
use Rattle.ld_history.proofs.LawSound.{sound}
use Rattle.ld_history.proofs.LawMoved.{Takes, left}
use Rattle.ld_history.proofs.LawTracked.{tracked, folded_mine, folded_other, moved, is_inside}
use Rattle.ld_history.proofs.LawSums.{sum_set, sum_put, sum_take, sum-most, few_entries}

-- at most 256 sessions are open
pub few_sessions : (limits : Limits) (store : Store) → Crew limits store → length store.sessions ≤ 256
few_sessions limits store h = few_entries (λ (s : Session). s.seat) 256 store.sessions h.sorted (λ k s is. (h.each k s is).seat) h.seats

left-most : (b : Bool) (n : ℕ) → (if b then 320 - n else 0) ≤ 320 * cond b 1 0
left-most true n = omega arith
left-most false n = omega arith

pub reserved-most : (entries : Entries) (sessions : Sessions) → sum_by (reserve entries) sessions ≤ 320 * count_by has_request (values_of sessions)
reserved-most entries sessions = sum-most (reserve entries) has_request (λ e. left-most (has_request e.1) (spent e.0 entries)) sessions

pub record Roomy (limits : Limits) (entries : Entries) (store : Store) : Type 0 where
  pub counted : store.events ≡ length entries
  pub room : promised_to store.sessions entries ≤ limits.events

unequal : (o k : ℕ) → is_eq (nat_cmp o k) ≡ false → (o == k) ≡ false
unequal o k n = ne_eqb o k (apart_numbers o k n)

same_number : (o k : ℕ) → is_eq (nat_cmp o k) ≡ true → o ≡ k
same_number o k h = elim (number_cases o k) [ inl e ↦ e | inr n ↦ absurd (let bad : true ≡ false = sym h ∙ n in cc) ]

opens_alone : (limits : Limits) (store : Store) (given : Option Given) (session seat : ℕ) → allows_given limits store (event.Opened session seat) given ≡ true → may_open limits store session seat ≡ true
opens_alone limits store None session seat ok = ok
opens_alone limits store (Some given) session seat ok = cc

closes_alone : (limits : Limits) (store : Store) (given : Option Given) (session : ℕ) → allows_given limits store (event.Closed session) given ≡ true → may_close store session ≡ true
closes_alone limits store None session ok = ok
closes_alone limits store (Some given) session ok = cc

module _ (limits : Limits) (small : limits.held ≤ 64) (front : Entries) (legal : Legal limits front) where
  module _ (entry : Entry (List ℕ) Given) where
    one_more : length (front ++ entry ∷ []) ≡ length front + 1
    one_more = length-append front (entry ∷ [])

    -- what another session may still append stays
    reserve_other : (e : ℕ × Session) → is_eq (nat_cmp (owner (state front) entry.event) e.0) ≡ false → reserve (front ++ entry ∷ []) e ≡ reserve front e
    reserve_other e n = ap (λ k. if has_request e.1 then 320 - k else 0)
        (folded_other (λ count (x : Entry (List ℕ) Given). spent_with count x.event) 0 front entry e.0 (unequal (owner (state front) entry.event) e.0 n))

    reserve_mine : (k : ℕ) → is_eq (nat_cmp (owner (state front) entry.event) k) ≡ true → (s : Session) → reserve (front ++ entry ∷ []) (k, s) ≡ left s (spent_with (spent k front) entry.event)
    reserve_mine k is s = ap (λ n. left s n) (folded_mine (λ count (x : Entry (List ℕ) Given). spent_with count x.event) 0 front entry k (same_number (owner (state front) entry.event) k is))

    -- by number, whichever spelling it has
    at_owner : (x y : Session) (k : ℕ) → is_eq (nat_cmp (owner (state front) entry.event) k) ≡ true
        → (reserve front (k, x) ≡ reserve front (owner (state front) entry.event, x)) × (reserve (front ++ entry ∷ []) (k, y) ≡ reserve (front ++ entry ∷ []) (owner (state front) entry.event, y))
    at_owner x y k is =
        let e : k ≡ owner (state front) entry.event = sym (same_number (owner (state front) entry.event) k is) in
        (ap (λ n. reserve front (n, x)) e, ap (λ n. reserve (front ++ entry ∷ []) (n, y)) e)

    owner_itself : is_eq (nat_cmp (owner (state front) entry.event) (owner (state front) entry.event)) ≡ true
    owner_itself = ap is_eq (tied_itself nat_cmp_total (owner (state front) entry.event))

  -- no more is promised than before, or 320 more, for which there is room
  promised-moved : (entry : Entry (List ℕ) Given) → allows limits (state front) entry ≡ true → is_inside entry.event ≡ true
      → (promised_to (after (state front) entry).sessions (front ++ entry ∷ []) ≤ promised front)
      ⊎ ((s : Session) × (promised_to (after (state front) entry).sessions (front ++ entry ∷ []) ≤ promised front + 320) × Takes limits (state front) s entry.event)
  promised-moved entry ok inside =
      let was = sound limits front legal in
      let m = moved limits small (state front) was entry.given entry.event inside ok in
      let track = tracked limits small front legal (owner (state front) entry.event) in
      let sums = sum_set (owner (state front) entry.event) (reserve front) (reserve (front ++ entry ∷ [])) (reserve_other entry) m.s m.t (at_owner entry m.s m.t) (state front).sessions was.crew.sorted m.is in
      let now : reserve (front ++ entry ∷ []) (owner (state front) entry.event, m.t) ≡ left m.t (spent_with (spent (owner (state front) entry.event) front) entry.event)
      = reserve_mine entry (owner (state front) entry.event) (owner_itself entry) m.t in
      let sum : sum_by (reserve (front ++ entry ∷ [])) (after (state front) entry).sessions ≡ sum_by (reserve (front ++ entry ∷ [])) (set_value (is_at (nat_cmp (owner (state front) entry.event))) (state front).sessions m.t)
      = ap (sum_by (reserve (front ++ entry ∷ []))) m.set in
      let many : length (after (state front) entry).sessions ≡ length (state front).sessions
      = ap length m.set ∙ length-set_value (is_at (nat_cmp (owner (state front) entry.event))) (state front).sessions m.t in
      elim (m.pays (spent (owner (state front) entry.event) front) (track.spends m.s m.is)) [
        | inl paid ↦ inl (omega (arith, one_more entry, sums, now, sum, many, paid))
        | inr first ↦
            let none : reserve front (owner (state front) entry.event, m.s) ≡ 0 = ap (λ b. if b then 320 - spent (owner (state front) entry.event) front else 0) first.1.nothing in
            inr (m.s, omega (arith, one_more entry, sums, now, sum, many, first.0, none), first.1)
      ]

  promised-opened : (given : Option Given) (session seat : ℕ) → allows limits (state front) (record { event = event.Opened session seat; given = given }) ≡ true
      → promised_to (after (state front) (record { event = event.Opened session seat; given = given })).sessions (front ++ record { event = event.Opened session seat; given = given } ∷ []) ≤ promised front + 2
  promised-opened given session seat ok =
      let was = sound limits front legal in
      let p = read_open limits (state front) session seat (opens_alone limits (state front) given session seat ok) in
      let new : Session = record { seat = seat; request = 0; attempt = 0; version = 0; held = []; last = last.Idle } in
      let none : at_number (state front).sessions session ≡ None = unopened session p.next was.crew (at_number (state front).sessions session) refl in
      let sums = sum_put session (reserve front) (reserve (front ++ record { event = event.Opened session seat; given = given } ∷ [])) (reserve_other (record { event = event.Opened session seat; given = given })) new (state front).sessions none in
      let zero_left : reserve (front ++ record { event = event.Opened session seat; given = given } ∷ []) (session, new) ≡ 0 = refl in
      omega (arith, one_more (record { event = event.Opened session seat; given = given }), sums, zero_left, length-put_new nat_cmp_total session new (state front).sessions none)
    where
      unopened : (session : ℕ) → session ≡ (state front).opened + 1 → Crew limits (state front) → (o : Option Session) → at_number (state front).sessions session ≡ o → o ≡ None
      unopened session next crew None is = refl
      unopened session next crew (Some s) is = absurd (omega (arith, next, crew.numbered session s is))

  promised-closed : (given : Option Given) (session : ℕ) → allows limits (state front) (record { event = event.Closed session; given = given }) ≡ true
      → promised_to (after (state front) (record { event = event.Closed session; given = given })).sessions (front ++ record { event = event.Closed session; given = given } ∷ []) ≤ promised front
  promised-closed given session ok =
      let was = sound limits front legal in
      let p = read_close (state front) session (closes_alone limits (state front) given session ok) in
      let sums = sum_take session (reserve front) (reserve (front ++ record { event = event.Closed session; given = given } ∷ [])) (reserve_other (record { event = event.Closed session; given = given })) (state front).sessions was.crew.sorted p.s p.is in
      let fewer = length-take_found nat_cmp_total session (state front).sessions p.s p.is in
      omega (arith, one_more (record { event = event.Closed session; given = given }), sums, fewer)

  rises-inside : (entry : Entry (List ℕ) Given) → allows limits (state front) entry ≡ true → is_inside entry.event ≡ true → promised_to (after (state front) entry).sessions (front ++ entry ∷ []) ≤ promised front + rise entry.event
  rises-inside entry ok inside = elim (promised-moved entry ok inside) [
    | inl less ↦ omega (arith, less)
    | inr more ↦ omega (arith, more.1, more.2.rises)
  ]

  rises-event : (given : Option Given) (event : Event (List ℕ)) → allows limits (state front) (record { event = event; given = given }) ≡ true
      → promised_to (after (state front) (record { event = event; given = given })).sessions (front ++ record { event = event; given = given } ∷ []) ≤ promised front + rise event
  rises-event given (event.Opened session seat) ok = promised-opened given session seat ok
  rises-event given (event.Closed session) ok = omega (arith, promised-closed given session ok)
  rises-event given (event.Pinned session request attempt version) ok = rises-inside _ ok refl
  rises-event given (event.Found session iri) ok = rises-inside _ ok refl
  rises-event given (event.Led session iri flight) ok = rises-inside _ ok refl
  rises-event given (event.Joined session iri flight) ok = rises-inside _ ok refl
  rises-event given (event.Published flight version) ok = rises-inside _ ok refl
  rises-event given (event.Failed flight before after) ok = rises-inside _ ok refl
  rises-event given (event.Lapsed flight) ok = rises-inside _ ok refl
  rises-event given (event.Evicted session iri version) ok = rises-inside _ ok refl
  rises-event given (event.ReviseLed session iri flight) ok = rises-inside _ ok refl
  rises-event given (event.Same flight) ok = rises-inside _ ok refl
  rises-event given (event.Answered session request how) ok = rises-inside _ ok refl

  -- with one more entry, no more is promised than the rise of its event
  pub rises : (entry : Entry (List ℕ) Given) → allows limits (state front) entry ≡ true → promised (front ++ entry ∷ []) ≤ promised front + rise entry.event
  rises entry ok = subst (λ (s : Store). promised_to s.sessions (front ++ entry ∷ []) ≤ promised front + rise entry.event) (sym (replay-append empty_store front (entry ∷ []))) (rises-event entry.given entry.event ok)

  pub promised-most : promised front ≤ length front + 320 * requests_under_way (state front) + length (state front).sessions
  promised-most = omega (arith, reserved-most front (state front).sessions)

  module _ (h : Roomy limits front (state front)) where
    -- 320 more, where the history has room
    first_fits : (more : ℕ) → more ≤ promised front + 320 → (state front).events + 320 * (requests_under_way (state front) + 1) + 256 ≤ limits.events → more ≤ limits.events
    first_fits more le room = omega (arith, h.counted, le, room, reserved-most front (state front).sessions, few_sessions limits (state front) (sound limits front legal).crew)

    room-moved : (entry : Entry (List ℕ) Given) → allows limits (state front) entry ≡ true → is_inside entry.event ≡ true → Roomy limits (front ++ entry ∷ []) (after (state front) entry)
    room-moved entry ok inside = record {
      counted = omega (arith, h.counted, one_more entry);
      room = elim (promised-moved entry ok inside) [
        | inl less ↦ omega (arith, h.room, less)
        | inr more ↦ first_fits _ more.1 more.2.room
      ];
    }

    room-opened : (given : Option Given) (session seat : ℕ) → allows limits (state front) (record { event = event.Opened session seat; given = given }) ≡ true
        → Roomy limits (front ++ record { event = event.Opened session seat; given = given } ∷ []) (after (state front) (record { event = event.Opened session seat; given = given }))
    room-opened given session seat ok =
        let p = read_open limits (state front) session seat (opens_alone limits (state front) given session seat ok) in
        record {
          counted = omega (arith, h.counted, one_more (record { event = event.Opened session seat; given = given }));
          room = first_fits _ (omega (arith, promised-opened given session seat ok)) p.room;
        }

    room-closed : (given : Option Given) (session : ℕ) → allows limits (state front) (record { event = event.Closed session; given = given }) ≡ true
        → Roomy limits (front ++ record { event = event.Closed session; given = given } ∷ []) (after (state front) (record { event = event.Closed session; given = given }))
    room-closed given session ok = record {
      counted = omega (arith, h.counted, one_more (record { event = event.Closed session; given = given }));
      room = omega (arith, h.room, promised-closed given session ok);
    }

    room-event : (given : Option Given) (event : Event (List ℕ)) → allows limits (state front) (record { event = event; given = given }) ≡ true
        → Roomy limits (front ++ record { event = event; given = given } ∷ []) (after (state front) (record { event = event; given = given }))
    room-event given (event.Opened session seat) ok = room-opened given session seat ok
    room-event given (event.Closed session) ok = room-closed given session ok
    room-event given (event.Pinned session request attempt version) ok = room-moved _ ok refl
    room-event given (event.Found session iri) ok = room-moved _ ok refl
    room-event given (event.Led session iri flight) ok = room-moved _ ok refl
    room-event given (event.Joined session iri flight) ok = room-moved _ ok refl
    room-event given (event.Published flight version) ok = room-moved _ ok refl
    room-event given (event.Failed flight before after) ok = room-moved _ ok refl
    room-event given (event.Lapsed flight) ok = room-moved _ ok refl
    room-event given (event.Evicted session iri version) ok = room-moved _ ok refl
    room-event given (event.ReviseLed session iri flight) ok = room-moved _ ok refl
    room-event given (event.Same flight) ok = room-moved _ ok refl
    room-event given (event.Answered session request how) ok = room-moved _ ok refl

pub roomy : (limits : Limits) → limits.held ≤ 64 → (entries : Entries) → Legal limits entries → Roomy limits entries (state entries)
roomy limits small = along limits (λ entries. Roomy limits entries (state entries))
    (λ front entry legal ok h. subst (λ (s : Store). Roomy limits (front ++ entry ∷ []) s) (sym (replay-append empty_store front (entry ∷ []))) (room-event limits small front legal h entry.given entry.event ok))
    (record { counted = refl; room = omega arith })
