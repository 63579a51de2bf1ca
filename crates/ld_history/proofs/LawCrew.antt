-- What holds of the open sessions, and of the flights that they wait for.
use Rattle.std.proofs.Common.{◌≡◌, ℕ, ◌+◌, ◌≤◌, ◌<◌, List, [], length, refl, sym, ap, ◌∙◌, subst, Option, Some, Bool, true, false, cond, ◌⊎◌, inl, inr, nat_cmp}
use Rattle.std.specs.Prelude.{is_some, nat_eq, ◌==◌}
use Rattle.std.specs.Ordering.{is_eq}
use Rattle.std.specs.Cmp.{nat_cmp_total, tied_itself, eq_by_cmp_equiv}
use Rattle.std.specs.Cmp.Lexicographic.{pointwise}
use Rattle.std.specs.List.{IsDistinct}
use Rattle.std.specs.List.Sorted.{IsStrictlySortedBy}
use Rattle.std.specs.Map.{keys_of, set_value}
use Rattle.std.specs.BTreeMap.{is_at}
use Rattle.std.proofs.lemmas.Map.{lookup-set_value}
use Rattle.ld_history.specs.declared.limits.Limits.{Limits}
use Rattle.ld_history.specs.declared.session.Session.{Session}
use Rattle.ld_history.specs.declared.session.Last.{Last}
use Rattle.ld_history.specs.declared.session.Last.TheVariants as last
use Rattle.ld_history.specs.declared.session.Flight.{Flight}
use Rattle.ld_history.specs.declared.session.Kind.TheVariants as kind
use Rattle.ld_history.specs.declared.session.End.TheVariants as end
use Rattle.ld_history.specs.declared.session.Stored.{Stored}
use Rattle.ld_history.specs.declared.session.Eviction.{Eviction}
use Rattle.ld_history.specs.Store.{Store}
use Rattle.ld_history.specs.Words.{at_number, at_iri, flight_at, is_published, holds}
use Rattle.ld_history.specs.Laws.{awaited}
use Rattle.ld_history.specs.After.{changed, change_found, begun}
use Rattle.ld_history.proofs.LawTables.{equal_from, in_order-set}
use Rattle.ld_history.proofs.LawFlights.{number_cases, flight_cases}
use Rattle.ld_history.proofs.LawAirborne.{Table}
use Rattle.ld_history.proofs.LawTurns.{Turns, was_in}

abbrev pub Sessions : Type 0
Sessions = List (ℕ × Session)

abbrev pub Stock : Type 0
Stock = List (List ℕ × Stored)

-- the last own event is Led or ReviseLed of this flight
abbrev pub leads_it : ℕ → Last → Bool
leads_it flight (last.Led own) = own == flight
leads_it flight (last.ReviseLed own) = own == flight
leads_it flight _ = false

abbrev pub is_evicting : Last → Bool
is_evicting (last.Evicted version) = true
is_evicting _ = false

-- the attempt has found, led or joined nothing as yet
abbrev pub is_trying : Last → Bool
is_trying last.Pinned = true
is_trying (last.Evicted version) = true
is_trying (last.ReviseLed flight) = true
is_trying _ = false

-- each attempt but the last of a request has made it hold one more
abbrev pub Tries : Last → ℕ → ℕ → Type 0
Tries last.Idle attempt held = Unit {0}
Tries last.Pinned attempt held = attempt ≡ held + 1
Tries last.Found attempt held = attempt ≡ held
Tries (last.Led flight) attempt held = attempt ≡ held
Tries (last.Joined flight) attempt held = attempt ≡ held
Tries (last.Evicted version) attempt held = attempt ≡ held + 1
Tries (last.ReviseLed flight) attempt held = attempt ≡ held + 1

-- the last own event is Led or Joined of a Lead flight for the IRI, which isn't published
pub record Awaits (flights : List Flight) (l : Last) (iri : List ℕ) : Type 0 where
  pub flight : ℕ
  pub f : Flight
  pub own : awaited l ≡ Some flight
  pub is : flight_at flights flight ≡ Some f
  pub for_iri : f.iri ≡ iri
  pub lead : f.kind ≡ kind.Lead
  pub unpublished : is_published f.end ≡ false

pub record Sits (limits : Limits) (version : ℕ) (flights : List Flight) (stored : Stock) (turns : Turns) (s : Session) : Type 0 where
  pub seat : s.seat < 256
  pub pinned : s.version ≤ version
  pub idle : s.last ≡ last.Idle → s.held ≡ []
  pub few : length s.held ≤ limits.held
  pub tries : Tries s.last s.attempt (length s.held)
  pub counted : (s.last ≡ last.Idle → ⊥) → 1 ≤ s.attempt
  pub kept : (iri : List ℕ) → holds s iri ≡ true → (is_some (at_iri stored iri) ≡ true) ⊎ Awaits flights s.last iri
  pub had : is_trying s.last ≡ true → (iri : List ℕ) → holds s iri ≡ true → was_in turns iri s.version ≡ true
  pub differ : IsDistinct (pointwise nat_eq) s.held

abbrev pub AllSit : Limits → ℕ → List Flight → Stock → Turns → Sessions → Type 0
AllSit limits version flights stored turns sessions = (n : ℕ) (s : Session) → at_number sessions n ≡ Some s → Sits limits version flights stored turns s

abbrev pub AreNumbered : ℕ → Sessions → Type 0
AreNumbered opened sessions = (n : ℕ) (s : Session) → at_number sessions n ≡ Some s → n ≤ opened

abbrev pub SeatsDiffer : Sessions → Type 0
SeatsDiffer sessions = (n m : ℕ) (s t : Session) → at_number sessions n ≡ Some s → at_number sessions m ≡ Some t → s.seat ≡ t.seat → n ≡ m

-- the session that led a flight under way waits for it
abbrev pub LeadersWait : List Flight → Sessions → Type 0
LeadersWait flights sessions = (n : ℕ) (f : Flight) → flight_at flights n ≡ Some f → f.end ≡ end.UnderWay → (s : Session) × (at_number sessions f.session ≡ Some s) × (leads_it n s.last ≡ true)

abbrev pub EvictorsKnown : Option Eviction → Sessions → Type 0
EvictorsKnown evicted sessions = (e : Eviction) → evicted ≡ Some e → (s : Session) × (at_number sessions e.session ≡ Some s) × (is_evicting s.last ≡ true)

abbrev pub TurnsTell : ℕ → Turns → Stock → Type 0
TurnsTell version turns stored = (iri : List ℕ) (v : ℕ) → version ≤ v → was_in turns iri v ≡ is_some (at_iri stored iri)

abbrev pub LedAreNamed : Table → Turns → Type 0
LedAreNamed leads turns = (iri : List ℕ) → is_some (at_iri leads iri) ≡ true → is_some (at_iri turns iri) ≡ true

pub record Crew (limits : Limits) (store : Store) : Type 0 where
  pub sorted : IsStrictlySortedBy nat_cmp (keys_of store.sessions)
  pub numbered : AreNumbered store.opened store.sessions
  pub seats : SeatsDiffer store.sessions
  pub each : AllSit limits store.version store.flights store.stored store.turns store.sessions
  pub wait : LeadersWait store.flights store.sessions
  pub evictor : EvictorsKnown store.evicted store.sessions
  pub tell : TurnsTell store.version store.turns store.stored
  pub named : LedAreNamed store.leads store.turns

-- ---- one session is changed
pub set_number_same : {X : Type 0} (es : List (ℕ × X)) (k : ℕ) (v x : X) → at_number es k ≡ Some x → at_number (set_value (is_at (nat_cmp k)) es v) k ≡ Some v
set_number_same es k v x is =
    lookup-set_value (eq_by_cmp_equiv nat_cmp_total) (is_at (nat_cmp k)) (λ a b t. ap is_eq (nat_cmp_total.congr k a b (equal_from (nat_cmp k a) t))) k v es (ap is_some is)
    ∙ ap (λ r. cond (is_eq r) (Some v) (at_number es k)) (tied_itself nat_cmp_total k)

pub set_number_other : {X : Type 0} (es : List (ℕ × X)) (k : ℕ) (v x : X) → at_number es k ≡ Some x → (q : ℕ) → is_eq (nat_cmp q k) ≡ false → at_number (set_value (is_at (nat_cmp k)) es v) q ≡ at_number es q
set_number_other es k v x is q n =
    lookup-set_value (eq_by_cmp_equiv nat_cmp_total) (is_at (nat_cmp k)) (λ a b t. ap is_eq (nat_cmp_total.congr k a b (equal_from (nat_cmp k a) t))) q v es (ap is_some is)
    ∙ ap (λ b. cond b (Some v) (at_number es q)) ((eq_by_cmp_equiv nat_cmp_total).symm k q ∙ n)

pub changed_is : (sessions : Sessions) (n : ℕ) (g : Session → Session) (s : Session) → at_number sessions n ≡ Some s → changed sessions n g ≡ set_value (is_at (nat_cmp n)) sessions (g s)
changed_is sessions n g s is = ap (change_found sessions n g) is

pub same_session : (s t : Session) → Some s ≡ Some t → s ≡ t
same_session s t e = cc

module _ (sessions : Sessions) (n : ℕ) (g : Session → Session) (s : Session) (is : at_number sessions n ≡ Some s) where
  pub changed_same : at_number (changed sessions n g) n ≡ Some (g s)
  changed_same = ap (λ l. at_number l n) (changed_is sessions n g s is) ∙ set_number_same sessions n (g s) s is

  pub changed_other : (q : ℕ) → is_eq (nat_cmp q n) ≡ false → at_number (changed sessions n g) q ≡ at_number sessions q
  changed_other q a = ap (λ l. at_number l q) (changed_is sessions n g s is) ∙ set_number_other sessions n (g s) s is q a

  pub changed_cases : (q : ℕ) (t : Session) → at_number (changed sessions n g) q ≡ Some t → ((q ≡ n) × (g s ≡ t)) ⊎ (at_number sessions q ≡ Some t)
  changed_cases q t now = elim (number_cases q n) [
    | inl e ↦ inl (e, same_session (g s) t (sym changed_same ∙ ap (at_number (changed sessions n g)) (sym e) ∙ now))
    | inr a ↦ inr (sym (changed_other q a) ∙ now)
  ]

  pub sorted-changed : IsStrictlySortedBy nat_cmp (keys_of sessions) → IsStrictlySortedBy nat_cmp (keys_of (changed sessions n g))
  sorted-changed h = subst (λ l. IsStrictlySortedBy nat_cmp (keys_of l)) (sym (changed_is sessions n g s is)) (in_order-set nat_cmp_total (is_at (nat_cmp n)) sessions (g s) h)

  pub numbered-changed : (opened : ℕ) → AreNumbered opened sessions → AreNumbered opened (changed sessions n g)
  numbered-changed opened h q t now = elim (changed_cases q t now) [
    | inl e ↦ subst (λ m. m ≤ opened) (sym e.0) (h n s is)
    | inr old ↦ h q t old
  ]

  -- who sits where, before the change
  seat_before : (g s).seat ≡ s.seat → (q : ℕ) (t : Session) → at_number (changed sessions n g) q ≡ Some t → (u : Session) × (at_number sessions q ≡ Some u) × (u.seat ≡ t.seat)
  seat_before same q t now = elim (changed_cases q t now) [
    | inl e ↦ (s, ap (at_number sessions) e.0 ∙ is, sym same ∙ ap (λ (x : Session). x.seat) e.1)
    | inr old ↦ (t, old, refl)
  ]

  pub seats-changed : (g s).seat ≡ s.seat → SeatsDiffer sessions → SeatsDiffer (changed sessions n g)
  seats-changed same h a b t u first second e =
      let x = seat_before same a t first in
      let y = seat_before same b u second in
      h a b x.0 y.0 x.1 y.1 (x.2 ∙ e ∙ sym y.2)

  pub each-changed : (limits : Limits) (version : ℕ) (flights : List Flight) (stored : Stock) (turns : Turns) → Sits limits version flights stored turns (g s)
      → AllSit limits version flights stored turns sessions → AllSit limits version flights stored turns (changed sessions n g)
  each-changed limits version flights stored turns own h q t now = elim (changed_cases q t now) [
    | inl e ↦ subst (Sits limits version flights stored turns) e.1 own
    | inr old ↦ h q t old
  ]

  module _ (flights : List Flight) (quiet : (m : ℕ) (f : Flight) → flight_at flights m ≡ Some f → f.end ≡ end.UnderWay → f.session ≡ n → ⊥) where
    other_waits : LeadersWait flights sessions → (m : ℕ) (f : Flight) → flight_at flights m ≡ Some f → f.end ≡ end.UnderWay
        → (t : Session) × (at_number (changed sessions n g) f.session ≡ Some t) × (leads_it m t.last ≡ true)
    other_waits h m f there flying =
        let w = h m f there flying in
        elim (number_cases f.session n) [
          | inl e ↦ absurd (quiet m f there flying e)
          | inr a ↦ (w.0, changed_other f.session a ∙ w.1, w.2)
        ]

    pub wait-changed : LeadersWait flights sessions → LeadersWait flights (changed sessions n g)
    wait-changed h m f there flying = other_waits h m f there flying

    pub wait-begun : (iri : List ℕ) (κ : _) (number : ℕ) → number ≡ length flights + 1 → leads_it number (g s).last ≡ true → LeadersWait flights sessions
        → LeadersWait (begun flights iri κ n) (changed sessions n g)
    wait-begun iri κ number next leads h m f there flying = elim (flight_cases flights _ m f there) [
      | inl old ↦ other_waits h m f old flying
      | inr e ↦ (
        g s,
        (ap (at_number (changed sessions n g)) (sym (ap (λ (x : Flight). x.session) e.1)) ∙ changed_same),
        (ap (λ k. leads_it k (g s).last) (e.0 ∙ sym next) ∙ leads),
      )
    ]

-- a session that leads no flight
pub quiet_leader : (flights : List Flight) (sessions : Sessions) (n : ℕ) (s : Session) → at_number sessions n ≡ Some s → LeadersWait flights sessions
    → ((m : ℕ) (f : Flight) → flight_at flights m ≡ Some f → f.end ≡ end.UnderWay → leads_it m s.last ≡ false)
    → (m : ℕ) (f : Flight) → flight_at flights m ≡ Some f → f.end ≡ end.UnderWay → f.session ≡ n → ⊥
quiet_leader flights sessions n s is h none m f there flying e =
    let w = h m f there flying in
    let same : s ≡ w.0 = same_session s w.0 (sym is ∙ ap (at_number sessions) (sym e) ∙ w.1) in
    let no : leads_it m s.last ≡ false = none m f there flying in
    let yes : leads_it m s.last ≡ true = ap (λ (x : Session). leads_it m x.last) same ∙ w.2 in
    cc
