-- The sessions after their own events, but for those that begin a flight or evict.
use Rattle.std.proofs.Common.{◌≡◌, ℕ, ◌+◌, ◌≤◌, List, [], ◌∷◌, ◌++◌, length, refl, sym, ap, ◌∙◌, subst, arith, Some, None, true, false, ◌⊎◌, inl, inr, eqb-true, nat_cmp}
use Rattle.std.specs.Prelude.{◌==◌}
use Rattle.std.specs.Option.{option_map}
use Rattle.std.specs.Cmp.{nat_cmp_total}
use Rattle.std.specs.BTreeMap.{is_at}
use Rattle.std.proofs.lemmas.Bool.{or_parts, false_from_ne_true, eqb-false}
use Rattle.ld_history.specs.declared.limits.Limits.{Limits}
use Rattle.ld_history.specs.declared.session.Session.{Session}
use Rattle.ld_history.specs.declared.session.Last.{Last}
use Rattle.ld_history.specs.declared.session.Last.TheVariants as last
use Rattle.ld_history.specs.declared.session.Flight.{Flight}
use Rattle.ld_history.specs.declared.session.Flying.{Flying}
use Rattle.ld_history.specs.declared.session.Kind.{Kind}
use Rattle.ld_history.specs.declared.session.Kind.TheVariants as kind
use Rattle.ld_history.specs.declared.session.End.TheVariants as end
use Rattle.ld_history.specs.Store.{Store}
use Rattle.ld_history.specs.Words.{at_number, flight_at, is_some_and, is_published, is_led_by, has_flight}
use Rattle.ld_history.specs.Rules.{may_pin_again, ended}
use Rattle.ld_history.specs.After.{changed, put_number, take_number, after_opened, after_pinned, after_found, after_joined, after_answered, after_closed}
use Rattle.ld_history.proofs.LawTables.{in_order-put, in_order-take}
use Rattle.ld_history.proofs.LawReads.{some_and, Opens, Pins, Begins, GoesOn, Finds, Joins, Answers, Closes}
use Rattle.ld_history.proofs.LawFlights.{number_cases, put_number_same, put_number_other, take_number_same, take_number_other}
use Rattle.ld_history.proofs.LawAirborne.{pick}
use Rattle.ld_history.proofs.LawAir.{Air}
use Rattle.ld_history.specs.Laws.{awaited}
use Rattle.ld_history.proofs.LawCrew.{Sessions, Crew, Sits, Awaits, Tries, AreNumbered, SeatsDiffer, AllSit, LeadersWait, EvictorsKnown, leads_it, is_trying, sorted-changed, numbered-changed, seats-changed, each-changed, wait-changed, quiet_leader}
use Rattle.ld_history.proofs.LawSits.{any_value, settled, sits-pinned, sits-holding, sits-answered, sits-opened}

pub no_evictor : (sessions : Sessions) → EvictorsKnown None sessions
no_evictor sessions e is = cc

same_value : {X : Type 0} (x y : X) → Some x ≡ Some y → x ≡ y
same_value x y e = cc

-- a session whose last own event leads no flight
pub quiet_last : (limits : Limits) (store : Store) (h : Crew limits store) (n : ℕ) (s : Session) → at_number store.sessions n ≡ Some s → ((m : ℕ) → leads_it m s.last ≡ false)
    → (m : ℕ) (f : Flight) → flight_at store.flights m ≡ Some f → f.end ≡ end.UnderWay → f.session ≡ n → ⊥
quiet_last limits store h n s is none = quiet_leader store.flights store.sessions n s is h.wait (λ m f there flying. none m)

-- ---- 1 Opened
module _ (limits : Limits) (store : Store) (h : Crew limits store) (session seat : ℕ) (p : Opens limits store session seat) where
  new : Session
  new = record { seat = seat; request = 0; attempt = 0; version = 0; held = []; last = last.Idle }

  opened_cases : (q : ℕ) (t : Session) → at_number (put_number store.sessions session (record { seat = seat; request = 0; attempt = 0; version = 0; held = []; last = last.Idle })) q ≡ Some t
      → ((q ≡ session) × (record { seat = seat; request = 0; attempt = 0; version = 0; held = []; last = last.Idle } ≡ t)) ⊎ (at_number store.sessions q ≡ Some t)
  opened_cases q t now = elim (number_cases q session) [
    | inl e ↦ inl (e, same_value _ t (sym (put_number_same store.sessions session _) ∙ ap (at_number (put_number store.sessions session _)) (sym e) ∙ now))
    | inr a ↦ inr (sym (put_number_other store.sessions session _ q a) ∙ now)
  ]

  not_taken : (t : Session) (q : ℕ) → at_number store.sessions q ≡ Some t → t.seat ≡ seat → ⊥
  not_taken t q is e = eqb-false t.seat seat (any_value (λ (s : Session). s.seat == seat) (is_at (nat_cmp q)) store.sessions t p.free is) e

  opened_numbered : AreNumbered session (put_number store.sessions session (record { seat = seat; request = 0; attempt = 0; version = 0; held = []; last = last.Idle }))
  opened_numbered q t now = elim (opened_cases q t now) [
    | inl e ↦ omega (arith, e.0)
    | inr old ↦ omega (arith, h.numbered q t old, p.next)
  ]

  opened_seats : SeatsDiffer (put_number store.sessions session (record { seat = seat; request = 0; attempt = 0; version = 0; held = []; last = last.Idle }))
  opened_seats a b s t first second same = elim (opened_cases a s first) [
    | inl e ↦ elim (opened_cases b t second) [
      | inl g ↦ e.0 ∙ sym g.0
      | inr old ↦ absurd (not_taken t b old (sym same ∙ sym (ap (λ (x : Session). x.seat) e.1)))
    ]
    | inr was ↦ elim (opened_cases b t second) [
      | inl g ↦ absurd (not_taken s a was (same ∙ sym (ap (λ (x : Session). x.seat) g.1)))
      | inr old ↦ h.seats a b s t was old same
    ]
  ]

  opened_each : AllSit limits store.version store.flights store.stored store.turns (put_number store.sessions session (record { seat = seat; request = 0; attempt = 0; version = 0; held = []; last = last.Idle }))
  opened_each q t now = elim (opened_cases q t now) [
    | inl e ↦ subst (Sits limits store.version store.flights store.stored store.turns) e.1 (sits-opened limits store.version store.flights store.stored store.turns seat p.small)
    | inr old ↦ h.each q t old
  ]

  opened_wait : LeadersWait store.flights (put_number store.sessions session (record { seat = seat; request = 0; attempt = 0; version = 0; held = []; last = last.Idle }))
  opened_wait m f there flying =
      let w = h.wait m f there flying in
      let low : f.session ≤ store.opened = h.numbered f.session w.0 w.1 in
      elim (number_cases f.session session) [
        | inl e ↦ absurd (omega (arith, e, low, p.next))
        | inr a ↦ (w.0, put_number_other store.sessions session _ f.session a ∙ w.1, w.2)
      ]

  pub crew-opened : (events : ℕ) → Crew limits (record (after_opened store session seat) { events = events; evicted = None })
  crew-opened events = record {
    sorted = in_order-put nat_cmp_total session _ store.sessions h.sorted;
    numbered = opened_numbered;
    seats = opened_seats;
    each = opened_each;
    wait = opened_wait;
    evictor = no_evictor _;
    tell = h.tell;
    named = h.named;
  }

-- ---- 2 Pinned
ended_here : (store : Store) (k : ℕ) (f : Flight) → flight_at store.flights k ≡ Some f → ended store k is_published ≡ true → is_published f.end ≡ true
ended_here store k f is h = sym (ap (λ o. is_some_and is_published (option_map (λ (x : Flight). x.end) o)) is) ∙ h

again_leads : (store : Store) (l : Last) → may_pin_again store l ≡ true → (m : ℕ) (f : Flight) → flight_at store.flights m ≡ Some f → f.end ≡ end.UnderWay → leads_it m l ≡ false
again_leads store last.Idle h m f is flying = refl
again_leads store last.Pinned h m f is flying = refl
again_leads store last.Found h m f is flying = refl
again_leads store (last.Led k) h m f is flying =
    false_from_ne_true (k == m) (λ e. let done : is_published f.end ≡ true = ended_here store k f (ap (flight_at store.flights) (eqb-true k m e) ∙ is) h in let no : is_published end.UnderWay ≡ true = ap is_published (sym flying) ∙ done in cc)
again_leads store (last.Joined k) h m f is flying = refl
again_leads store (last.Evicted v) h m f is flying = refl
again_leads store (last.ReviseLed k) h m f is flying = cc

again_awaits : (store : Store) (l : Last) → may_pin_again store l ≡ true → (iri : List ℕ) → Awaits store.flights l iri → ⊥
again_awaits store last.Idle h iri w = cc
again_awaits store last.Pinned h iri w = cc
again_awaits store last.Found h iri w = let no : None ≡ Some w.flight = w.own in cc
again_awaits store (last.Led k) h iri w =
    let done : is_published w.f.end ≡ true = ended_here store k w.f (ap (flight_at store.flights) (same_value k w.flight w.own) ∙ w.is) h in
    let no : is_published w.f.end ≡ false = w.unpublished in cc
again_awaits store (last.Joined k) h iri w =
    let done : is_published w.f.end ≡ true = ended_here store k w.f (ap (flight_at store.flights) (same_value k w.flight w.own) ∙ w.is) h in
    let no : is_published w.f.end ≡ false = w.unpublished in cc
again_awaits store (last.Evicted v) h iri w = cc
again_awaits store (last.ReviseLed k) h iri w = cc

pub again_tries : (store : Store) (l : Last) (a n : ℕ) → may_pin_again store l ≡ true → Tries l a n → a ≡ n
again_tries store last.Idle a n h t = cc
again_tries store last.Pinned a n h t = cc
again_tries store last.Found a n h t = t
again_tries store (last.Led k) a n h t = t
again_tries store (last.Joined k) a n h t = t
again_tries store (last.Evicted v) a n h t = cc
again_tries store (last.ReviseLed k) a n h t = cc

module _ (limits : Limits) (store : Store) (h : Crew limits store) where
  -- a session changes, and nothing else
  crew-changed : (n : ℕ) (s : Session) (is : at_number store.sessions n ≡ Some s) (g : Session → Session) → (g s).seat ≡ s.seat
      → ((m : ℕ) (f : Flight) → flight_at store.flights m ≡ Some f → f.end ≡ end.UnderWay → f.session ≡ n → ⊥)
      → Sits limits store.version store.flights store.stored store.turns (g s) → (events : ℕ)
      → Crew limits (record store { sessions = changed store.sessions n g; events = events; evicted = None })
  crew-changed n s is g seat quiet own events = record {
    sorted = sorted-changed store.sessions n g s is h.sorted;
    numbered = numbered-changed store.sessions n g s is store.opened h.numbered;
    seats = seats-changed store.sessions n g s is seat h.seats;
    each = each-changed store.sessions n g s is limits store.version store.flights store.stored store.turns own h.each;
    wait = wait-changed store.sessions n g s is store.flights quiet h.wait;
    evictor = no_evictor _;
    tell = h.tell;
    named = h.named;
  }

  module _ (session request attempt version : ℕ) (p : Pins limits store session request attempt version) where
    sits : Sits limits store.version store.flights store.stored store.turns p.s
    sits = h.each session p.s p.is

    pinned_sits : Begins limits store request attempt p.s ⊎ GoesOn store request attempt p.s
        → Sits limits store.version store.flights store.stored store.turns (record p.s { request = request; attempt = attempt; version = version; last = last.Pinned })
    pinned_sits (inl b) =
        let none : p.s.held ≡ [] = (h.each session p.s p.is).idle b.idle in
        sits-pinned limits store.version store.flights store.stored store.turns p.s (h.each session p.s p.is) request attempt version p.now h.tell (b.first ∙ sym (ap (λ l. length l + 1) none))
        (settled limits store.version store.flights store.stored store.turns p.s (h.each session p.s p.is) (λ iri w. let no : None ≡ Some w.flight = ap awaited (sym b.idle) ∙ w.own in cc))
    pinned_sits (inr g) =
        sits-pinned limits store.version store.flights store.stored store.turns p.s (h.each session p.s p.is) request attempt version p.now h.tell
        (g.next ∙ ap (λ k. k + 1) (again_tries store p.s.last p.s.attempt (length p.s.held) g.again (h.each session p.s p.is).tries))
        (settled limits store.version store.flights store.stored store.turns p.s (h.each session p.s p.is) (again_awaits store p.s.last g.again))

    pinned_quiet : Begins limits store request attempt p.s ⊎ GoesOn store request attempt p.s
        → (m : ℕ) (f : Flight) → flight_at store.flights m ≡ Some f → f.end ≡ end.UnderWay → f.session ≡ session → ⊥
    pinned_quiet (inl b) = quiet_last limits store h session p.s p.is (λ m. ap (leads_it m) b.idle)
    pinned_quiet (inr g) = quiet_leader store.flights store.sessions session p.s p.is h.wait (again_leads store p.s.last g.again)

    pub crew-pinned : (events : ℕ) → Crew limits (record (after_pinned store session request attempt version) { events = events; evicted = None })
    crew-pinned = crew-changed session p.s p.is (λ s. record s { request = request; attempt = attempt; version = version; last = last.Pinned }) refl (pinned_quiet p.how) (pinned_sits p.how)

  -- ---- 3 Found
  module _ (session : ℕ) (iri : List ℕ) (p : Finds limits store session iri) where
    pub crew-found : (events : ℕ) → Crew limits (record (after_found store session iri) { events = events; evicted = None })
    crew-found = crew-changed session p.s p.is (λ s. record s { held = s.held ++ iri ∷ []; last = last.Found }) refl
        (quiet_last limits store h session p.s p.is (λ m. ap (leads_it m) p.pinned))
        (sits-holding limits store.version store.flights store.stored store.turns p.s (h.each session p.s p.is) iri last.Found (ap is_trying p.pinned) p.lack.absent
        refl (λ e. cc) (λ k e. e) p.lack.fewer (inl p.stored))

  -- ---- 5 Joined
  module _ (air : Air limits store) (session : ℕ) (iri : List ℕ) (flight : ℕ) (p : Joins limits store session iri flight) where
    joins : Awaits store.flights (last.Joined flight) iri
    joins =
        let lead = some_and _ _ p.led in
        let number : lead.0.flight ≡ flight = eqb-true lead.0.flight flight lead.2 in
        record {
          flight = flight;
          f = record { iri = iri; kind = kind.Lead; session = lead.0.session; end = end.UnderWay };
          own = refl;
          is = ap (flight_at store.flights) (sym number) ∙ air.flights.listed kind.Lead iri lead.0 lead.1;
          for_iri = refl;
          lead = refl;
          unpublished = refl;
        }

    pub crew-joined : (events : ℕ) → Crew limits (record (after_joined store session iri flight) { events = events; evicted = None })
    crew-joined = crew-changed session p.s p.is (λ s. record s { held = s.held ++ iri ∷ []; last = last.Joined flight }) refl
        (quiet_last limits store h session p.s p.is (λ m. ap (leads_it m) p.pinned))
        (sits-holding limits store.version store.flights store.stored store.turns p.s (h.each session p.s p.is) iri (last.Joined flight) (ap is_trying p.pinned) p.lack.absent
        refl (λ e. cc) (λ k e. e) p.lack.fewer (inr joins))

  -- ---- 12 Answered
  module _ (air : Air limits store) (session : ℕ) (landed : has_flight store session ≡ false) where
    led_by : (k : Kind) → is_led_by (pick store.leads store.revisions k) session ≡ false
    led_by kind.Lead = (or_parts _ _ landed).0
    led_by kind.Revise = (or_parts _ _ landed).1

    pub quiet_landed : (m : ℕ) (f : Flight) → flight_at store.flights m ≡ Some f → f.end ≡ end.UnderWay → f.session ≡ session → ⊥
    quiet_landed m f there flying e =
        let known = air.flights.known m f there flying in
        eqb-false f.session session (any_value (λ (l : Flying). l.session == session) _ (pick store.leads store.revisions f.kind) _ (led_by f.kind) known) e

  module _ (air : Air limits store) (session request : ℕ) (p : Answers store session request) where
    pub crew-answered : (events : ℕ) → Crew limits (record (after_answered store session) { events = events; evicted = None })
    crew-answered = crew-changed session p.s p.is (λ s. record s { held = []; last = last.Idle }) refl (quiet_landed air session p.landed)
        (sits-answered limits store.version store.flights store.stored store.turns p.s (h.each session p.s p.is))

  -- ---- 13 Closed
  module _ (session : ℕ) (p : Closes store session) where
    left : (q : ℕ) (t : Session) → at_number (take_number store.sessions session) q ≡ Some t → at_number store.sessions q ≡ Some t
    left q t now = elim (number_cases q session) [
      | inl e ↦ (let none : None ≡ Some t = sym (take_number_same store.sessions session h.sorted) ∙ ap (at_number (take_number store.sessions session)) (sym e) ∙ now in cc)
      | inr a ↦ sym (take_number_other store.sessions session q a) ∙ now
    ]

    closed_wait : LeadersWait store.flights (take_number store.sessions session)
    closed_wait m f there flying =
        let w = h.wait m f there flying in
        elim (number_cases f.session session) [
          | inl e ↦ absurd (quiet_last limits store h session p.s p.is (λ k. ap (leads_it k) p.idle) m f there flying e)
          | inr a ↦ (w.0, take_number_other store.sessions session f.session a ∙ w.1, w.2)
        ]

    pub crew-closed : (events : ℕ) → Crew limits (record (after_closed store session) { events = events; evicted = None })
    crew-closed events = record {
      sorted = in_order-take nat_cmp_total session store.sessions h.sorted;
      numbered = λ q t now. h.numbered q t (left q t now);
      seats = λ a b s t first second. h.seats a b s t (left a s first) (left b t second);
      each = λ q t now. h.each q t (left q t now);
      wait = closed_wait;
      evictor = no_evictor _;
      tell = h.tell;
      named = h.named;
    }
