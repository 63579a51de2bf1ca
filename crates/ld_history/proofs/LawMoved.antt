-- What an event of an open session does to that session, and to the counts of its request.
use Rattle.std.proofs.Common.{◌≡◌, ℕ, suc, ◌+◌, ◌*◌, ◌-◌, ◌≤◌, List, ◌++◌, length, refl, sym, ap, ◌∙◌, arith, Some, Bool, true, false, cond, ◌⊎◌, inl, inr, eqb-true, nat_cmp}
use Rattle.std.specs.Prelude.{if◌then◌else◌}
use Rattle.std.specs.Map.{set_value}
use Rattle.std.specs.BTreeMap.{is_at}
use Rattle.ld_history.specs.declared.limits.Limits.{Limits}
use Rattle.ld_history.specs.declared.event.Event.{Event}
use Rattle.ld_history.specs.declared.session.Session.{Session}
use Rattle.ld_history.specs.declared.session.Last.{Last}
use Rattle.ld_history.specs.declared.session.Last.TheVariants as last
use Rattle.ld_history.specs.declared.session.Flight.{Flight}
use Rattle.ld_history.specs.declared.session.End.{End}
use Rattle.ld_history.specs.declared.session.End.TheVariants as end
use Rattle.ld_history.specs.Store.{Store}
use Rattle.ld_history.specs.Words.{at_number, flight_at, has_request, is_under_way, requests_under_way}
use Rattle.ld_history.specs.After.{ended_as}
use Rattle.ld_history.specs.Counts.{owner, spent_with, lacked_with, tried}
use Rattle.ld_history.specs.Ahead.{rise}
use Rattle.ld_history.proofs.LawFlights.{number_cases, apart_numbers, flight_more, flight_ended, flight_kept}
use Rattle.ld_history.proofs.LawCrew.{leads_it}

abbrev pub one_if : Bool → ℕ
one_if b = cond b 1 0

-- how much a request has spent, by its session's last own event: each of the IRIs that it holds cost it
-- four entries at most
abbrev pub Spends : List Flight → Last → ℕ → ℕ → Type 0
Spends flights last.Idle held count = count ≤ 260
Spends flights last.Pinned held count = count ≤ 4 * held + 1
Spends flights last.Found held count = count ≤ 4 * held
Spends flights (last.Led flight) held count = (f : Flight) × (flight_at flights flight ≡ Some f) × (count + one_if (is_under_way f.end) ≤ 4 * held)
Spends flights (last.Joined flight) held count = count ≤ 4 * held
Spends flights (last.Evicted version) held count = count ≤ 4 * held + 2
Spends flights (last.ReviseLed flight) held count = (f : Flight) × (flight_at flights flight ≡ Some f) × (count + one_if (is_under_way f.end) ≤ 4 * held + 3)

pub spends-most : (flights : List Flight) (l : Last) (held count : ℕ) → held ≤ 64 → Spends flights l held count → (count ≤ 260)
spends-most flights last.Idle held count le h = h
spends-most flights last.Pinned held count le h = omega arith
spends-most flights last.Found held count le h = omega arith
spends-most flights (last.Led flight) held count le h = omega (arith, h.2)
spends-most flights (last.Joined flight) held count le h = omega arith
spends-most flights (last.Evicted version) held count le h = omega arith
spends-most flights (last.ReviseLed flight) held count le h = omega (arith, h.2)

pub spends-busy : (flights : List Flight) (l : Last) (held count : ℕ) → held ≤ 64 → (l ≡ last.Idle → ⊥) → Spends flights l held count → (count ≤ 259)
spends-busy flights last.Idle held count le n h = absurd (n refl)
spends-busy flights last.Pinned held count le n h = omega arith
spends-busy flights last.Found held count le n h = omega arith
spends-busy flights (last.Led flight) held count le n h = omega (arith, h.2)
spends-busy flights (last.Joined flight) held count le n h = omega arith
spends-busy flights (last.Evicted version) held count le n h = omega arith
spends-busy flights (last.ReviseLed flight) held count le n h = omega (arith, h.2)

-- flights that begin or end elsewhere change nothing
found_more : (flights more : List Flight) (flight n m : ℕ) → (f : Flight) × (flight_at flights flight ≡ Some f) × (n + one_if (is_under_way f.end) ≤ m)
    → (f : Flight) × (flight_at (flights ++ more) flight ≡ Some f) × (n + one_if (is_under_way f.end) ≤ m)
found_more flights more flight n m h = (h.0, flight_more flights more flight h.0 h.1, h.2)

pub spends-more : (flights more : List Flight) (l : Last) (held count : ℕ) → Spends flights l held count → Spends (flights ++ more) l held count
spends-more flights more last.Idle held count h = h
spends-more flights more last.Pinned held count h = h
spends-more flights more last.Found held count h = h
spends-more flights more (last.Led flight) held count h = found_more flights more flight count _ h
spends-more flights more (last.Joined flight) held count h = h
spends-more flights more (last.Evicted version) held count h = h
spends-more flights more (last.ReviseLed flight) held count h = found_more flights more flight count _ h

not_flying : (how : End) → (how ≡ end.UnderWay → ⊥) → is_under_way how ≡ false
not_flying end.UnderWay n = absurd (n refl)
not_flying (end.Published version) n = refl
not_flying end.Same n = refl
not_flying (end.Failed before after) n = refl
not_flying end.Lapsed n = refl

found_ended : (flights : List Flight) (number : ℕ) (g : Flight) (how : End) → flight_at flights number ≡ Some g → (how ≡ end.UnderWay → ⊥) → (flight n m : ℕ)
    → (f : Flight) × (flight_at flights flight ≡ Some f) × (n + one_if (is_under_way f.end) ≤ m)
    → (f : Flight) × (flight_at (ended_as flights number how) flight ≡ Some f) × (n + one_if (is_under_way f.end) ≤ m)
found_ended flights number g how is over flight n m h = elim (number_cases flight number) [
  | inl e ↦ (record g { end = how }, ap (flight_at (ended_as flights number how)) e ∙ flight_ended flights number how g is, omega (arith, h.2, ap one_if (not_flying how over)))
  | inr a ↦ (h.0, flight_kept flights number how flight (apart_numbers flight number a) ∙ h.1, h.2)
]

pub spends-ended : (flights : List Flight) (number : ℕ) (g : Flight) (how : End) → flight_at flights number ≡ Some g → (how ≡ end.UnderWay → ⊥) → (l : Last) (held count : ℕ)
    → Spends flights l held count → Spends (ended_as flights number how) l held count
spends-ended flights number g how is over last.Idle held count h = h
spends-ended flights number g how is over last.Pinned held count h = h
spends-ended flights number g how is over last.Found held count h = h
spends-ended flights number g how is over (last.Led flight) held count h = found_ended flights number g how is over flight count _ h
spends-ended flights number g how is over (last.Joined flight) held count h = h
spends-ended flights number g how is over (last.Evicted version) held count h = h
spends-ended flights number g how is over (last.ReviseLed flight) held count h = found_ended flights number g how is over flight count _ h

-- the session's own flight ends, which costs one entry
own_ended : (flights : List Flight) (number : ℕ) (g : Flight) (how : End) → flight_at flights number ≡ Some g → g.end ≡ end.UnderWay → (how ≡ end.UnderWay → ⊥) → (flight n m : ℕ) → flight ≡ number
    → (f : Flight) × (flight_at flights flight ≡ Some f) × (n + one_if (is_under_way f.end) ≤ m)
    → (f : Flight) × (flight_at (ended_as flights number how) flight ≡ Some f) × (n + 1 + one_if (is_under_way f.end) ≤ m)
own_ended flights number g how is flying over flight n m e h =
    let same : g ≡ h.0 = (let p : Some g ≡ Some h.0 = sym is ∙ ap (flight_at flights) (sym e) ∙ h.1 in cc) in
    let was : one_if (is_under_way h.0.end) ≡ 1 = ap (λ (f : Flight). one_if (is_under_way f.end)) (sym same) ∙ ap (λ x. one_if (is_under_way x)) flying in
    (record g { end = how }, ap (flight_at (ended_as flights number how)) e ∙ flight_ended flights number how g is, omega (arith, h.2, was, ap one_if (not_flying how over)))

pub spends-own : (flights : List Flight) (number : ℕ) (g : Flight) (how : End) → flight_at flights number ≡ Some g → g.end ≡ end.UnderWay → (how ≡ end.UnderWay → ⊥) → (l : Last) (held count : ℕ)
    → leads_it number l ≡ true → Spends flights l held count → Spends (ended_as flights number how) l held (count + 1)
spends-own flights number g how is flying over last.Idle held count leads h = cc
spends-own flights number g how is flying over last.Pinned held count leads h = cc
spends-own flights number g how is flying over last.Found held count leads h = cc
spends-own flights number g how is flying over (last.Led flight) held count leads h = own_ended flights number g how is flying over flight count _ (eqb-true flight number leads) h
spends-own flights number g how is flying over (last.Joined flight) held count leads h = cc
spends-own flights number g how is flying over (last.Evicted version) held count leads h = cc
spends-own flights number g how is flying over (last.ReviseLed flight) held count leads h = own_ended flights number g how is flying over flight count _ (eqb-true flight number leads) h

-- what is known of the lists of a session's request
abbrev pub Follows : Session → List (List ℕ) → ℕ → Type 0
Follows s iris count = (s.last ≡ last.Idle → ⊥) → (iris ≡ s.held) × (count ≡ s.attempt)

-- what may still be appended by a request under way
abbrev pub left : Session → ℕ → ℕ
left s count = if has_request s then 320 - count else 0

-- a first Pinned takes 320 from the room that there is
pub record Takes (limits : Limits) (store : Store) (s : Session) (event : Event (List ℕ)) : Type 0 where
  pub nothing : has_request s ≡ false
  pub rises : rise event ≡ 320
  pub room : store.events + 320 * (requests_under_way store + 1) + 256 ≤ limits.events

-- The event belongs to an open session, s before it and t after it. It may open none and close none.
pub record Moved (limits : Limits) (store now : Store) (event : Event (List ℕ)) : Type 0 where
  pub s : Session
  pub t : Session
  pub is : at_number store.sessions (owner store event) ≡ Some s
  pub set : now.sessions ≡ set_value (is_at (nat_cmp (owner store event))) store.sessions t
  pub others : (l : Last) (held count : ℕ) → Spends store.flights l held count → Spends now.flights l held count
  pub spends : (count : ℕ) → Spends store.flights s.last (length s.held) count → Spends now.flights t.last (length t.held) (spent_with count event)
  pub follows : (iris : List (List ℕ)) (count : ℕ) → Follows s iris count → Follows t (lacked_with iris event) (tried count event)
  pub rests : t.last ≡ last.Idle → (iris : List (List ℕ)) (count : ℕ) → (lacked_with iris event ≡ iris) × (tried count event ≡ count)
  pub pays : (count : ℕ) → Spends store.flights s.last (length s.held) count → (suc (left t (spent_with count event)) ≤ left s count) ⊎ ((left t (spent_with count event) ≤ 319) × Takes limits store s event)

-- one entry of a request under way, which stays so
pub pays_one : (s t : Session) (count : ℕ) → has_request s ≡ true → count ≤ 260 → suc (left t (count + 1)) ≤ left s count
pays_one s t count asked few = rest (has_request t)
  where
    rest : (b : Bool) → suc (if b then 320 - (count + 1) else 0) ≤ left s count
    rest true = let is : left s count ≡ 320 - count = ap (λ b. if b then 320 - count else 0) asked in omega arith
    rest false = let is : left s count ≡ 320 - count = ap (λ b. if b then 320 - count else 0) asked in omega arith
