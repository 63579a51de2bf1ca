-- The sessions after what changes flights or the store.
use Rattle.std.proofs.Common.{◌≡◌, ℕ, ◌+◌, ◌<◌, List, [], ◌∷◌, ◌++◌, refl, sym, ap, ◌∙◌, arith, Option, Some, None, Bool, true, false, not, ◌⊎◌, inl, inr, eqb-true, eq-eqb}
use Rattle.std.specs.Prelude.{is_some, if◌then◌else◌}
use Rattle.ld_history.specs.declared.limits.Limits.{Limits}
use Rattle.ld_history.specs.declared.event.Given.{Given}
use Rattle.ld_history.specs.declared.session.Session.{Session}
use Rattle.ld_history.specs.declared.session.Last.{Last}
use Rattle.ld_history.specs.declared.session.Last.TheVariants as last
use Rattle.ld_history.specs.declared.session.Flight.{Flight}
use Rattle.ld_history.specs.declared.session.Kind.{Kind}
use Rattle.ld_history.specs.declared.session.Kind.TheVariants as kind
use Rattle.ld_history.specs.declared.session.End.{End}
use Rattle.ld_history.specs.declared.session.End.TheVariants as end
use Rattle.ld_history.specs.declared.session.Eviction.{Eviction}
use Rattle.ld_history.specs.Store.{Store}
use Rattle.ld_history.specs.Words.{at_number, at_iri, flight_at, is_some_and, is_published, is_pinned, is_stored, is_lead, holds, places, is_next_out}
use Rattle.ld_history.specs.Rules.{place_was_made}
use Rattle.ld_history.specs.After.{named, changed, put_iri, take_iri, turned, begun, ended_as, after_led, after_revise_led, after_evicted, landed, answered_by}
use Rattle.ld_history.proofs.LawReads.{some_and, both, pinned_is, Leads, Revises, Evicts}
use Rattle.ld_history.proofs.LawFlights.{number_cases, apart_numbers, iri_cases, put_iri_same, put_iri_other, take_iri_same, take_iri_other, flight_more, flight_last, flight_ended, flight_kept}
use Rattle.ld_history.proofs.LawAirborne.{pick}
use Rattle.ld_history.proofs.LawAir.{Air}
use Rattle.ld_history.proofs.LawCounts.{without_lead}
use Rattle.ld_history.proofs.LawTurns.{was_in, is_in, was_in-named, named_here, named_stays, was_in-before, was_in-after, turned_other, turned_stays}
use Rattle.ld_history.proofs.LawCrew.{Stock, Crew, Sits, Awaits, AllSit, LeadersWait, EvictorsKnown, TurnsTell, LedAreNamed, leads_it, is_evicting, is_trying, changed_same, sorted-changed, numbered-changed, seats-changed, each-changed, wait-changed, wait-begun}
use Rattle.ld_history.proofs.LawSits.{any_value, sits-more, sits-holding, sits-trying}
use Rattle.ld_history.proofs.LawOwn.{no_evictor, quiet_last}

same_value : {X : Type 0} (x y : X) → Some x ≡ Some y → x ≡ y
same_value x y e = cc

-- ---- who may lead
evicting_trying : (l : Last) → is_evicting l ≡ true → is_trying l ≡ true
evicting_trying last.Idle h = cc
evicting_trying last.Pinned h = cc
evicting_trying last.Found h = cc
evicting_trying (last.Led f) h = cc
evicting_trying (last.Joined f) h = cc
evicting_trying (last.Evicted v) h = refl
evicting_trying (last.ReviseLed f) h = cc

evicting_leads : (l : Last) (m : ℕ) → is_evicting l ≡ true → leads_it m l ≡ false
evicting_leads last.Idle m h = refl
evicting_leads last.Pinned m h = refl
evicting_leads last.Found m h = refl
evicting_leads (last.Led f) m h = cc
evicting_leads (last.Joined f) m h = refl
evicting_leads (last.Evicted v) m h = refl
evicting_leads (last.ReviseLed f) m h = cc

awaits-more : (flights more : List Flight) (l : Last) (iri : List ℕ) → Awaits flights l iri → Awaits (flights ++ more) l iri
awaits-more flights more l iri w = record { flight = w.flight; f = w.f; own = w.own; is = flight_more flights more w.flight w.f w.is; for_iri = w.for_iri; lead = w.lead; unpublished = w.unpublished }

module _ (limits : Limits) (store : Store) (h : Crew limits store) where
  pub made_by : (session : ℕ) (iri : List ℕ) (s : Session) → at_number store.sessions session ≡ Some s → place_was_made limits store session iri ≡ true → is_evicting s.last ≡ true
  made_by session iri s is made =
      let e = some_and _ _ made in
      let a = both e.2 in
      let b = both a.0 in
      let c = both b.0 in
      let own : e.0.session ≡ session = eqb-true e.0.session session c.0 in
      let w = h.evictor e.0 e.1 in
      let same : w.0 ≡ s = same_value w.0 s (sym w.1 ∙ ap (at_number store.sessions) own ∙ is) in
      ap (λ (x : Session). is_evicting x.last) (sym same) ∙ w.2

  -- ---- 4 Led
  module _ (session : ℕ) (iri : List ℕ) (flight : ℕ) (p : Leads limits store session iri flight) where
    ready_trying : (is_pinned p.s.last ≡ true) ⊎ (place_was_made limits store session iri ≡ true) → is_trying p.s.last ≡ true
    ready_trying (inl pinned) = ap is_trying (pinned_is p.s.last pinned)
    ready_trying (inr made) = evicting_trying p.s.last (made_by session iri p.s p.is made)

    ready_leads : (is_pinned p.s.last ≡ true) ⊎ (place_was_made limits store session iri ≡ true) → (m : ℕ) → leads_it m p.s.last ≡ false
    ready_leads (inl pinned) m = ap (leads_it m) (pinned_is p.s.last pinned)
    ready_leads (inr made) m = evicting_leads p.s.last m (made_by session iri p.s p.is made)

    led_each : AllSit limits store.version (begun store.flights iri kind.Lead session) store.stored (named store.turns iri) store.sessions
    led_each n s is = sits-more limits store.version store.version store.flights _ store.stored store.stored store.turns _ s (omega arith)
        (λ q held here. here) (λ q w. inr (awaits-more store.flights _ s.last q w)) (λ q v le. was_in-named store.turns iri q v) (h.each n s is)

    led_awaits : Awaits (begun store.flights iri kind.Lead session) (last.Led flight) iri
    led_awaits = record {
      flight = flight;
      f = record { iri = iri; kind = kind.Lead; session = session; end = end.UnderWay };
      own = refl;
      is = flight_last store.flights _ flight p.has.next;
      for_iri = refl;
      lead = refl;
      unpublished = refl;
    }

    led_sits : Sits limits store.version (begun store.flights iri kind.Lead session) store.stored (named store.turns iri) (record p.s { held = p.s.held ++ iri ∷ []; last = last.Led flight })
    led_sits = sits-holding limits store.version (begun store.flights iri kind.Lead session) store.stored (named store.turns iri) p.s (led_each session p.s p.is) iri (last.Led flight)
        (ready_trying p.ready) (was_in-named store.turns iri iri p.s.version ∙ p.lack.absent) refl (λ e. cc) (λ k e. e) p.lack.fewer (inr led_awaits)

    led_named : LedAreNamed (put_iri store.leads iri (record { flight = flight; session = session })) (named store.turns iri)
    led_named q led = elim (iri_cases q iri) [
      | inl e ↦ ap (λ r. is_some (at_iri (named store.turns iri) r)) e ∙ named_here store.turns iri
      | inr a ↦ named_stays store.turns iri q (h.named q (sym (ap is_some (put_iri_other store.leads iri _ q a)) ∙ led))
    ]

    pub crew-led : (events : ℕ) → Crew limits (record (after_led store session iri flight) { events = events; evicted = None })
    crew-led events =
        let g = λ (s : Session). record s { held = s.held ++ iri ∷ []; last = last.Led flight } in
        record {
          sorted = sorted-changed store.sessions session g p.s p.is h.sorted;
          numbered = numbered-changed store.sessions session g p.s p.is store.opened h.numbered;
          seats = seats-changed store.sessions session g p.s p.is refl h.seats;
          each = each-changed store.sessions session g p.s p.is limits store.version _ store.stored _ led_sits led_each;
          wait = wait-begun store.sessions session g p.s p.is store.flights (quiet_last limits store h session p.s p.is (ready_leads p.ready)) iri kind.Lead flight p.has.next (eq-eqb flight flight refl) h.wait;
          evictor = no_evictor _;
          tell = λ q v le. was_in-named store.turns iri q v ∙ h.tell q v le;
          named = led_named;
        }

  -- ---- 10 ReviseLed
  module _ (session : ℕ) (iri : List ℕ) (flight : ℕ) (p : Revises limits store session iri flight) where
    revised_each : AllSit limits store.version (begun store.flights iri kind.Revise session) store.stored store.turns store.sessions
    revised_each n s is = sits-more limits store.version store.version store.flights _ store.stored store.stored store.turns _ s (omega arith)
        (λ q held here. here) (λ q w. inr (awaits-more store.flights _ s.last q w)) (λ q v le. refl) (h.each n s is)

    pub crew-revise : (events : ℕ) → Crew limits (record (after_revise_led store session iri flight) { events = events; evicted = None })
    crew-revise events =
        let g = λ (s : Session). record s { last = last.ReviseLed flight } in
        record {
          sorted = sorted-changed store.sessions session g p.s p.is h.sorted;
          numbered = numbered-changed store.sessions session g p.s p.is store.opened h.numbered;
          seats = seats-changed store.sessions session g p.s p.is refl h.seats;
          each = each-changed store.sessions session g p.s p.is limits store.version _ store.stored store.turns
              (sits-trying limits store.version _ store.stored store.turns p.s (revised_each session p.s p.is) (last.ReviseLed flight) (ap is_trying p.pinned) refl) revised_each;
          wait = wait-begun store.sessions session g p.s p.is store.flights (quiet_last limits store h session p.s p.is (λ m. ap (leads_it m) p.pinned)) iri kind.Revise flight p.next (eq-eqb flight flight refl) h.wait;
          evictor = no_evictor _;
          tell = h.tell;
          named = h.named;
        }

  -- ---- 9 Evicted
  module _ (air : Air limits store) (session : ℕ) (iri : List ℕ) (version : ℕ) (p : Evicts store session iri version) where
    not_held : (n : ℕ) (s : Session) → at_number store.sessions n ≡ Some s → holds s iri ≡ false
    not_held n s is = any_value (λ (t : Session). holds t iri) _ store.sessions s p.not_held is

    evicted_each : AllSit limits version store.flights (take_iri store.stored iri) (turned store.turns iri version) store.sessions
    evicted_each n s is = sits-more limits store.version version store.flights store.flights store.stored _ store.turns _ s (omega (arith, p.next))
        (λ q held here. elim (iri_cases q iri) [
          | inl e ↦ (let yes : holds s iri ≡ true = ap (holds s) (sym e) ∙ held in let no : holds s iri ≡ false = not_held n s is in cc)
          | inr a ↦ ap is_some (take_iri_other store.stored iri q a) ∙ here
        ])
        (λ q w. inr w) (λ q v le. was_in-before store.turns iri version q v (omega (arith, p.next))) (h.each n s is)

    has_turns : (o : Option (List ℕ)) (v : ℕ) → is_some_and (is_in v) o ≡ true → is_some o ≡ true
    has_turns None v e = cc
    has_turns (Some t) v e = refl

    evicted_tell : TurnsTell version (turned store.turns iri version) (take_iri store.stored iri)
    evicted_tell q v le =
        let before : was_in store.turns q v ≡ is_some (at_iri store.stored q) = h.tell q v (omega (arith, p.next)) in
        elim (iri_cases q iri) [
          | inl e ↦
              let here : was_in store.turns iri v ≡ true = h.tell iri v (omega (arith, p.next)) ∙ p.stored in
              ap (λ r. was_in (turned store.turns iri version) r v) e ∙ was_in-after store.turns iri version (has_turns (at_iri store.turns iri) v here) v le ∙ ap not here
              ∙ sym (ap (λ r. is_some (at_iri (take_iri store.stored iri) r)) e ∙ ap is_some (take_iri_same store.stored iri air.flights.stored_sorted))
          | inr a ↦ ap (is_some_and (is_in v)) (turned_other store.turns iri version q a) ∙ before ∙ sym (ap is_some (take_iri_other store.stored iri q a))
        ]

    evictor_known : EvictorsKnown (Some (record { session = session; iri = iri; places = places store; next = is_next_out store iri }))
        (changed store.sessions session (λ s. record s { last = last.Evicted version }))
    evictor_known e is =
        let same : session ≡ e.session = ap (λ (x : Eviction). x.session) (same_value _ e is) in (
          record p.s { last = last.Evicted version },
          (ap (at_number (changed store.sessions session (λ s. record s { last = last.Evicted version }))) (sym same)
              ∙ changed_same store.sessions session (λ s. record s { last = last.Evicted version }) p.s p.is),
          refl,
        )

    pub crew-evicted : (events : ℕ) → Crew limits (record (after_evicted store session iri version) {
      events = events;
      evicted = Some (record { session = session; iri = iri; places = places store; next = is_next_out store iri });
    })
    crew-evicted events =
        let g = λ (s : Session). record s { last = last.Evicted version } in
        record {
          sorted = sorted-changed store.sessions session g p.s p.is h.sorted;
          numbered = numbered-changed store.sessions session g p.s p.is store.opened h.numbered;
          seats = seats-changed store.sessions session g p.s p.is refl h.seats;
          each = each-changed store.sessions session g p.s p.is limits version store.flights _ _
              (sits-trying limits version store.flights _ _ p.s (evicted_each session p.s p.is) (last.Evicted version) (ap is_trying p.pinned) refl) evicted_each;
          wait = wait-changed store.sessions session g p.s p.is store.flights (quiet_last limits store h session p.s p.is (λ m. ap (leads_it m) p.pinned)) h.wait;
          evictor = evictor_known;
          tell = evicted_tell;
          named = λ q led. turned_stays store.turns iri version q (h.named q led);
        }

  -- ---- a flight ends
  module _ (air : Air limits store) (flight : ℕ) (f : Flight) (is : flight_at store.flights flight ≡ Some f) (flying : f.end ≡ end.UnderWay) where
    landed_wait : (how : End) → (how ≡ end.UnderWay → ⊥) → LeadersWait (ended_as store.flights flight how) store.sessions
    landed_wait how over m g there still = elim (number_cases m flight) [
      | inl e ↦ absurd (over (ap (λ (x : Flight). x.end) (same_value (record f { end = how }) g (sym (flight_ended store.flights flight how f is) ∙ ap (flight_at (ended_as store.flights flight how)) (sym e) ∙ there)) ∙ still))
      | inr a ↦ h.wait m g (sym (flight_kept store.flights flight how m (apart_numbers m flight a)) ∙ there) still
    ]

    landed_named : LedAreNamed (without_lead store.leads f.iri f.kind) store.turns
    landed_named q led = h.named q (still f.kind led)
      where
        still : (k : Kind) → is_some (at_iri (without_lead store.leads f.iri k) q) ≡ true → is_some (at_iri store.leads q) ≡ true
        still kind.Revise l = l
        still kind.Lead l = elim (iri_cases q f.iri) [
          | inl e ↦ (let no : is_some (at_iri (take_iri store.leads f.iri) q) ≡ false = ap (λ r. is_some (at_iri (take_iri store.leads f.iri) r)) e ∙ ap is_some (take_iri_same store.leads f.iri (air.flights.sorted kind.Lead)) in cc)
          | inr a ↦ sym (ap is_some (take_iri_other store.leads f.iri q a)) ∙ l
        ]

    -- a flight that ended unpublished is still awaited
    awaits-landed : (how : End) → is_published how ≡ false → (l : Last) (q : List ℕ) → Awaits store.flights l q → Awaits (ended_as store.flights flight how) l q
    awaits-landed how not l q w = elim (number_cases w.flight flight) [
      | inl e ↦
          let same : f ≡ w.f = same_value f w.f (sym is ∙ ap (flight_at store.flights) (sym e) ∙ w.is) in
          record {
            flight = w.flight;
            f = record f { end = how };
            own = w.own;
            is = ap (flight_at (ended_as store.flights flight how)) e ∙ flight_ended store.flights flight how f is;
            for_iri = ap (λ (x : Flight). x.iri) same ∙ w.for_iri;
            lead = ap (λ (x : Flight). x.kind) same ∙ w.lead;
            unpublished = not;
          }
      | inr a ↦ record {
        flight = w.flight;
        f = w.f;
        own = w.own;
        is = flight_kept store.flights flight how w.flight (apart_numbers w.flight flight a) ∙ w.is;
        for_iri = w.for_iri;
        lead = w.lead;
        unpublished = w.unpublished;
      }
    ]

    pub crew-landed : (how : End) → (how ≡ end.UnderWay → ⊥) → is_published how ≡ false → (events : ℕ) → Crew limits (record (landed store flight how f) { events = events; evicted = None })
    crew-landed how over not events = record {
      sorted = h.sorted;
      numbered = h.numbered;
      seats = h.seats;
      each = λ n s there. sits-more limits store.version store.version store.flights _ store.stored store.stored store.turns store.turns s (omega arith)
          (λ q held here. here) (λ q w. inr (awaits-landed how not s.last q w)) (λ q v le. refl) (h.each n s there);
      wait = landed_wait how over;
      evictor = no_evictor _;
      tell = h.tell;
      named = landed_named;
    }

    -- ---- 6 Published
    module _ (version : ℕ) (given : Given) (next : version ≡ store.version + 1) where
      abbrev new_stock : Stock
      new_stock = put_iri store.stored f.iri (record { flight = flight; version = version; answer = given })

      awaits-published : (l : Last) (q : List ℕ) → Awaits store.flights l q
          → (is_some (at_iri new_stock q) ≡ true) ⊎ Awaits (ended_as store.flights flight (end.Published version)) l q
      awaits-published l q w = elim (number_cases w.flight flight) [
        | inl e ↦
            let same : f ≡ w.f = same_value f w.f (sym is ∙ ap (flight_at store.flights) (sym e) ∙ w.is) in
            let here : f.iri ≡ q = ap (λ (x : Flight). x.iri) same ∙ w.for_iri in
            inl (ap (λ r. is_some (at_iri new_stock r)) (sym here) ∙ ap is_some (put_iri_same store.stored f.iri _))
        | inr a ↦ inr (record {
          flight = w.flight;
          f = w.f;
          own = w.own;
          is = flight_kept store.flights flight (end.Published version) w.flight (apart_numbers w.flight flight a) ∙ w.is;
          for_iri = w.for_iri;
          lead = w.lead;
          unpublished = w.unpublished;
        })
      ]

      stored_stays : (q : List ℕ) → is_some (at_iri store.stored q) ≡ true → is_some (at_iri new_stock q) ≡ true
      stored_stays q here = elim (iri_cases q f.iri) [
        | inl e ↦ ap (λ r. is_some (at_iri new_stock r)) e ∙ ap is_some (put_iri_same store.stored f.iri _)
        | inr a ↦ ap is_some (put_iri_other store.stored f.iri _ q a) ∙ here
      ]

      past_by : (b : Bool) (q : List ℕ) (v : ℕ) → v < version → was_in (if b then store.turns else turned store.turns f.iri version) q v ≡ was_in store.turns q v
      past_by true q v lt = refl
      past_by false q v lt = was_in-before store.turns f.iri version q v lt

      -- what it tells of the IRI: it was stored before, or it was led and so has turns
      tell_by : (b : Bool) → is_some (at_iri store.stored f.iri) ≡ b → (b ≡ false → is_some (at_iri store.turns f.iri) ≡ true)
          → TurnsTell version (if b then store.turns else turned store.turns f.iri version) new_stock
      tell_by true was turns q v le = elim (iri_cases q f.iri) [
        | inl e ↦ h.tell q v (omega (arith, next)) ∙ ap (λ r. is_some (at_iri store.stored r)) e ∙ was ∙ sym (ap (λ r. is_some (at_iri new_stock r)) e ∙ ap is_some (put_iri_same store.stored f.iri _))
        | inr a ↦ h.tell q v (omega (arith, next)) ∙ sym (ap is_some (put_iri_other store.stored f.iri _ q a))
      ]
      tell_by false was turns q v le = elim (iri_cases q f.iri) [
        | inl e ↦
            ap (λ r. was_in (turned store.turns f.iri version) r v) e ∙ was_in-after store.turns f.iri version (turns refl) v le
            ∙ ap not (h.tell f.iri v (omega (arith, next)) ∙ was)
            ∙ sym (ap (λ r. is_some (at_iri new_stock r)) e ∙ ap is_some (put_iri_same store.stored f.iri _))
        | inr a ↦ ap (is_some_and (is_in v)) (turned_other store.turns f.iri version q a) ∙ h.tell q v (omega (arith, next)) ∙ sym (ap is_some (put_iri_other store.stored f.iri _ q a))
      ]

      -- a flight for an IRI that isn't stored is a Lead flight, and was led
      has_name : (k : Kind) → f.kind ≡ k → is_some (at_iri store.stored f.iri) ≡ false → is_some (at_iri store.turns f.iri) ≡ true
      has_name kind.Lead e was = h.named f.iri (ap is_some (ap (λ k. at_iri (pick store.leads store.revisions k) f.iri) (sym e) ∙ air.flights.known flight f is flying))
      has_name kind.Revise e was =
          let side : is_some (at_iri store.stored f.iri) ≡ true = air.flights.sides f.kind f.iri _ (air.flights.known flight f is flying) ∙ ap (λ k. not (is_lead k)) e in cc

      named_by : (b : Bool) → LedAreNamed (without_lead store.leads f.iri f.kind) (if b then store.turns else turned store.turns f.iri version)
      named_by true q led = landed_named q led
      named_by false q led = turned_stays store.turns f.iri version q (landed_named q led)

      pub crew-published : (events : ℕ) → Crew limits (record (answered_by store flight version given f) { events = events; evicted = None })
      crew-published events = record {
        sorted = h.sorted;
        numbered = h.numbered;
        seats = h.seats;
        each = λ n s there. sits-more limits store.version version store.flights _ store.stored _ store.turns _ s (omega (arith, next))
            (λ q held here. stored_stays q here) (λ q w. awaits-published s.last q w) (λ q v le. past_by (is_stored store f.iri) q v (omega (arith, next))) (h.each n s there);
        wait = landed_wait (end.Published version) (λ e. cc);
        evictor = no_evictor _;
        tell = tell_by (is_stored store f.iri) refl (has_name f.kind refl);
        named = named_by (is_stored store f.iri);
      }
