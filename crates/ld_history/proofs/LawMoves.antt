-- Each event but Opened and Closed belongs to an open session, which it moves on.
use Rattle.std.proofs.Common.{◌≡◌, ℕ, suc, ◌+◌, ◌*◌, ◌≤◌, List, [], ◌∷◌, ◌++◌, length, refl, sym, ap, ◌∙◌, subst, arith, Some, true, false, not, ◌⊎◌, inl, inr, eq-eqb, ne_eqb, nat_cmp, length-append}
use Rattle.std.specs.Prelude.{◌==◌, if◌then◌else◌, unwrap_or}
use Rattle.std.specs.Option.{option_map}
use Rattle.std.specs.BTreeMap.{is_at}
use Rattle.std.proofs.lemmas.Map.Steps.{set_value_same}
use Rattle.ld_history.specs.declared.limits.Limits.{Limits}
use Rattle.ld_history.specs.declared.event.Event.{Event}
use Rattle.ld_history.specs.declared.event.Event.TheVariants as event
use Rattle.ld_history.specs.declared.event.How.{How}
use Rattle.ld_history.specs.declared.session.Session.{Session}
use Rattle.ld_history.specs.declared.session.Last.{Last}
use Rattle.ld_history.specs.declared.session.Last.TheVariants as last
use Rattle.ld_history.specs.declared.session.Flight.{Flight}
use Rattle.ld_history.specs.declared.session.Kind.TheVariants as kind
use Rattle.ld_history.specs.declared.session.End.{End}
use Rattle.ld_history.specs.declared.session.End.TheVariants as end
use Rattle.ld_history.specs.Store.{Store}
use Rattle.ld_history.specs.Words.{at_number, is_idle, has_request, is_pinned}
use Rattle.ld_history.specs.Rules.{may_pin_again, place_was_made}
use Rattle.ld_history.specs.After.{ended_as, after_pinned, after_found, after_led, after_joined, after_evicted, after_revise_led, after_answered}
use Rattle.ld_history.specs.Counts.{owner, leader, spent_with, lacked_with, tried}
use Rattle.ld_history.proofs.LawReads.{Pins, Begins, GoesOn, Finds, Leads, Joins, Revises, Evicts, Answers, Flies, pinned_is}
use Rattle.ld_history.proofs.LawFlights.{flight_last}
use Rattle.ld_history.proofs.LawCrew.{Crew, leads_it, is_evicting, changed_is}
use Rattle.ld_history.proofs.LawShared.{made_by}
use Rattle.ld_history.proofs.LawMoved.{Spends, Takes, Moved, left, pays_one, spends-most, spends-busy, spends-more, spends-ended, spends-own}

no_value : (xs : List (List ℕ)) → length xs ≡ 0 → xs ≡ []
no_value [] h = refl
no_value (x ∷ xs) h = absurd (omega (arith, h))

again_spends : (store : Store) (l : Last) (held count : ℕ) → may_pin_again store l ≡ true → Spends store.flights l held count → (count ≤ 4 * held)
again_spends store last.Idle held count a h = cc
again_spends store last.Pinned held count a h = cc
again_spends store last.Found held count a h = h
again_spends store (last.Led k) held count a h = omega (arith, h.2)
again_spends store (last.Joined k) held count a h = h
again_spends store (last.Evicted v) held count a h = cc
again_spends store (last.ReviseLed k) held count a h = cc

again_busy : (store : Store) (l : Last) → may_pin_again store l ≡ true → l ≡ last.Idle → ⊥
again_busy store l a e = let no : may_pin_again store last.Idle ≡ true = ap (may_pin_again store) (sym e) ∙ a in cc

evicting_spends : (flights : List Flight) (l : Last) (held count : ℕ) → is_evicting l ≡ true → Spends flights l held count → (count ≤ 4 * held + 2)
evicting_spends flights last.Idle held count a h = cc
evicting_spends flights last.Pinned held count a h = cc
evicting_spends flights last.Found held count a h = cc
evicting_spends flights (last.Led k) held count a h = cc
evicting_spends flights (last.Joined k) held count a h = cc
evicting_spends flights (last.Evicted v) held count a h = h
evicting_spends flights (last.ReviseLed k) held count a h = cc

evicting_busy : (l : Last) → is_evicting l ≡ true → l ≡ last.Idle → ⊥
evicting_busy l a e = let no : is_evicting last.Idle ≡ true = ap is_evicting (sym e) ∙ a in cc

pub asked_busy : (s : Session) → has_request s ≡ true → s.last ≡ last.Idle → ⊥
asked_busy s a e = let no : not true ≡ true = ap (λ l. not (is_idle l)) (sym e) ∙ a in cc

pub busy_asked : (l : Last) → (l ≡ last.Idle → ⊥) → not (is_idle l) ≡ true
busy_asked last.Idle n = absurd (n refl)
busy_asked last.Pinned n = refl
busy_asked last.Found n = refl
busy_asked (last.Led k) n = refl
busy_asked (last.Joined k) n = refl
busy_asked (last.Evicted v) n = refl
busy_asked (last.ReviseLed k) n = refl

leading_busy : (l : Last) (n : ℕ) → leads_it n l ≡ true → l ≡ last.Idle → ⊥
leading_busy l n a e = let no : leads_it n last.Idle ≡ true = ap (leads_it n) (sym e) ∙ a in cc

module _ (limits : Limits) (small : limits.held ≤ 64) (store : Store) (h : Crew limits store) where
  few : (n : ℕ) (s : Session) → at_number store.sessions n ≡ Some s → length s.held ≤ 64
  few n s is = omega (arith, (h.each n s is).few, small)

  pinned_spends : (n : ℕ) (s : Session) (is : at_number store.sessions n ≡ Some s) → s.last ≡ last.Pinned → (count : ℕ) → Spends store.flights s.last (length s.held) count → (count ≤ 4 * length s.held + 1)
  pinned_spends n s is pinned count sp = subst (λ l. Spends store.flights l (length s.held) count) pinned sp

  pinned_busy : (s : Session) → s.last ≡ last.Pinned → s.last ≡ last.Idle → ⊥
  pinned_busy s pinned e = cc

  -- an entry of a request under way is paid from what it may still append
  paid : (event : Event (List ℕ)) (n : ℕ) (s t : Session) (is : at_number store.sessions n ≡ Some s) → (s.last ≡ last.Idle → ⊥) → (count : ℕ) → Spends store.flights s.last (length s.held) count
      → (suc (left t (count + 1)) ≤ left s count) ⊎ ((left t (count + 1) ≤ 319) × Takes limits store s event)
  paid event n s t is busy count sp = inl (pays_one s t count (busy_asked s.last busy) (spends-most store.flights s.last (length s.held) count (few n s is) sp))

  more_held : (xs : List (List ℕ)) (iri : List ℕ) → length (xs ++ iri ∷ []) ≡ length xs + 1
  more_held xs iri = length-append xs (iri ∷ [])

  -- ---- 2 Pinned
  pin_begins : (session request attempt version : ℕ) (p : Pins limits store session request attempt version) → Begins limits store request attempt p.s
      → Moved limits store (after_pinned store session request attempt version) (event.Pinned session request attempt version)
  pin_begins session request attempt version p b =
      let one : (attempt == 1) ≡ true = eq-eqb attempt 1 b.first in
      let none : p.s.held ≡ [] = (h.each session p.s p.is).idle b.idle in
      record {
        s = p.s;
        t = record p.s { request = request; attempt = attempt; version = version; last = last.Pinned };
        is = p.is;
        set = changed_is store.sessions session _ p.s p.is;
        others = λ l held count sp. sp;
        spends = λ count sp. let e : (if attempt == 1 then 1 else count + 1) ≡ 1 = ap (λ b. if b then 1 else count + 1) one in omega (arith, e);
        follows = λ iris count f busy. (ap (λ b. if b then [] else iris) one ∙ sym none, (ap (λ b. if b then 1 else count + 1) one ∙ sym b.first));
        rests = λ e. cc;
        pays = λ count sp. let e : (if attempt == 1 then 1 else count + 1) ≡ 1 = ap (λ b. if b then 1 else count + 1) one in
            inr (
              omega (arith, e),
              record {
                nothing = ap (λ l. not (is_idle l)) b.idle;
                rises = ap (λ b. if b then 320 else 0) one;
                room = b.room;
              },
            );
      }

  pin_goes_on : (session request attempt version : ℕ) (p : Pins limits store session request attempt version) → GoesOn store request attempt p.s
      → Moved limits store (after_pinned store session request attempt version) (event.Pinned session request attempt version)
  pin_goes_on session request attempt version p g =
      let busy : p.s.last ≡ last.Idle → ⊥ = again_busy store p.s.last g.again in
      let some : 1 ≤ p.s.attempt = (h.each session p.s p.is).counted busy in
      let later : (attempt == 1) ≡ false = ne_eqb attempt 1 (λ e. omega (arith, some, g.next, e)) in
      record {
        s = p.s;
        t = record p.s { request = request; attempt = attempt; version = version; last = last.Pinned };
        is = p.is;
        set = changed_is store.sessions session _ p.s p.is;
        others = λ l held count sp. sp;
        spends = λ count sp. let e : (if attempt == 1 then 1 else count + 1) ≡ count + 1 = ap (λ b. if b then 1 else count + 1) later in
            omega (arith, e, again_spends store p.s.last (length p.s.held) count g.again sp);
        follows = λ iris count f still. let known = f busy in
            (ap (λ b. if b then [] else iris) later ∙ known.0, (ap (λ b. if b then 1 else count + 1) later ∙ ap (λ k. k + 1) known.1 ∙ sym g.next));
        rests = λ e. cc;
        pays = λ count sp. let e : (if attempt == 1 then 1 else count + 1) ≡ count + 1 = ap (λ b. if b then 1 else count + 1) later in
            subst (λ k. (suc (left (record p.s { request = request; attempt = attempt; version = version; last = last.Pinned }) k) ≤ left p.s count)
            ⊎ ((left (record p.s { request = request; attempt = attempt; version = version; last = last.Pinned }) k ≤ 319) × Takes limits store p.s (event.Pinned session request attempt version))) (sym e)
            (paid (event.Pinned session request attempt version) session p.s (record p.s { request = request; attempt = attempt; version = version; last = last.Pinned }) p.is busy count sp);
      }

  pin_either : (session request attempt version : ℕ) (p : Pins limits store session request attempt version) → Begins limits store request attempt p.s ⊎ GoesOn store request attempt p.s
      → Moved limits store (after_pinned store session request attempt version) (event.Pinned session request attempt version)
  pin_either session request attempt version p (inl b) = pin_begins session request attempt version p b
  pin_either session request attempt version p (inr g) = pin_goes_on session request attempt version p g

  pub moved-pinned : (session request attempt version : ℕ) (p : Pins limits store session request attempt version)
      → Moved limits store (after_pinned store session request attempt version) (event.Pinned session request attempt version)
  moved-pinned session request attempt version p = pin_either session request attempt version p p.how

  -- ---- 3 Found
  pub moved-found : (session : ℕ) (iri : List ℕ) (p : Finds limits store session iri) → Moved limits store (after_found store session iri) (event.Found session iri)
  moved-found session iri p = record {
    s = p.s;
    t = record p.s { held = p.s.held ++ iri ∷ []; last = last.Found };
    is = p.is;
    set = changed_is store.sessions session _ p.s p.is;
    others = λ l held count sp. sp;
    spends = λ count sp. omega (arith, pinned_spends session p.s p.is p.pinned count sp, more_held p.s.held iri);
    follows = λ iris count f still. let known = f (pinned_busy p.s p.pinned) in (ap (λ l. l ++ iri ∷ []) known.0, known.1);
    rests = λ e. cc;
    pays = paid (event.Found session iri) session p.s (record p.s { held = p.s.held ++ iri ∷ []; last = last.Found }) p.is (pinned_busy p.s p.pinned);
  }

  -- ---- 5 Joined
  pub moved-joined : (session : ℕ) (iri : List ℕ) (flight : ℕ) (p : Joins limits store session iri flight) → Moved limits store (after_joined store session iri flight) (event.Joined session iri flight)
  moved-joined session iri flight p = record {
    s = p.s;
    t = record p.s { held = p.s.held ++ iri ∷ []; last = last.Joined flight };
    is = p.is;
    set = changed_is store.sessions session _ p.s p.is;
    others = λ l held count sp. sp;
    spends = λ count sp. omega (arith, pinned_spends session p.s p.is p.pinned count sp, more_held p.s.held iri);
    follows = λ iris count f still. let known = f (pinned_busy p.s p.pinned) in (ap (λ l. l ++ iri ∷ []) known.0, known.1);
    rests = λ e. cc;
    pays = paid (event.Joined session iri flight) session p.s (record p.s { held = p.s.held ++ iri ∷ []; last = last.Joined flight }) p.is (pinned_busy p.s p.pinned);
  }

  -- ---- 4 Led
  module _ (session : ℕ) (iri : List ℕ) (flight : ℕ) (p : Leads limits store session iri flight) where
    ready_busy : (is_pinned p.s.last ≡ true) ⊎ (place_was_made limits store session iri ≡ true) → p.s.last ≡ last.Idle → ⊥
    ready_busy (inl pinned) = pinned_busy p.s (pinned_is p.s.last pinned)
    ready_busy (inr made) = evicting_busy p.s.last (made_by limits store h session iri p.s p.is made)

    ready_spends : (is_pinned p.s.last ≡ true) ⊎ (place_was_made limits store session iri ≡ true) → (count : ℕ) → Spends store.flights p.s.last (length p.s.held) count → (count ≤ 4 * length p.s.held + 2)
    ready_spends (inl pinned) count sp = omega (arith, pinned_spends session p.s p.is (pinned_is p.s.last pinned) count sp)
    ready_spends (inr made) count sp = evicting_spends store.flights p.s.last (length p.s.held) count (made_by limits store h session iri p.s p.is made) sp

    pub moved-led : Moved limits store (after_led store session iri flight) (event.Led session iri flight)
    moved-led = record {
      s = p.s;
      t = record p.s { held = p.s.held ++ iri ∷ []; last = last.Led flight };
      is = p.is;
      set = changed_is store.sessions session _ p.s p.is;
      others = λ l held count sp. spends-more store.flights _ l held count sp;
      spends = λ count sp. (
        record { iri = iri; kind = kind.Lead; session = session; end = end.UnderWay },
        flight_last store.flights _ flight p.has.next,
        omega (arith, ready_spends p.ready count sp, more_held p.s.held iri),
      );
      follows = λ iris count f still. let known = f (ready_busy p.ready) in (ap (λ l. l ++ iri ∷ []) known.0, known.1);
      rests = λ e. cc;
      pays = paid (event.Led session iri flight) session p.s (record p.s { held = p.s.held ++ iri ∷ []; last = last.Led flight }) p.is (ready_busy p.ready);
    }

  -- ---- 9 Evicted
  pub moved-evicted : (session : ℕ) (iri : List ℕ) (version : ℕ) (p : Evicts store session iri version) → Moved limits store (after_evicted store session iri version) (event.Evicted session iri version)
  moved-evicted session iri version p = record {
    s = p.s;
    t = record p.s { last = last.Evicted version };
    is = p.is;
    set = changed_is store.sessions session _ p.s p.is;
    others = λ l held count sp. sp;
    spends = λ count sp. omega (arith, pinned_spends session p.s p.is p.pinned count sp);
    follows = λ iris count f still. f (pinned_busy p.s p.pinned);
    rests = λ e. cc;
    pays = paid (event.Evicted session iri version) session p.s (record p.s { last = last.Evicted version }) p.is (pinned_busy p.s p.pinned);
  }

  -- ---- 10 ReviseLed
  pub moved-revise : (session : ℕ) (iri : List ℕ) (flight : ℕ) (p : Revises limits store session iri flight) → Moved limits store (after_revise_led store session iri flight) (event.ReviseLed session iri flight)
  moved-revise session iri flight p = record {
    s = p.s;
    t = record p.s { last = last.ReviseLed flight };
    is = p.is;
    set = changed_is store.sessions session _ p.s p.is;
    others = λ l held count sp. spends-more store.flights _ l held count sp;
    spends = λ count sp. (
      record { iri = iri; kind = kind.Revise; session = session; end = end.UnderWay },
      flight_last store.flights _ flight p.next,
      omega (arith, pinned_spends session p.s p.is p.pinned count sp),
    );
    follows = λ iris count f still. f (pinned_busy p.s p.pinned);
    rests = λ e. cc;
    pays = paid (event.ReviseLed session iri flight) session p.s (record p.s { last = last.ReviseLed flight }) p.is (pinned_busy p.s p.pinned);
  }

  -- ---- 12 Answered
  pub moved-answered : (session request : ℕ) (how : How (List ℕ)) (p : Answers store session request) → Moved limits store (after_answered store session) (event.Answered session request how)
  moved-answered session request how p = record {
    s = p.s;
    t = record p.s { held = []; last = last.Idle };
    is = p.is;
    set = changed_is store.sessions session _ p.s p.is;
    others = λ l held count sp. sp;
    spends = λ count sp. omega (arith, spends-busy store.flights p.s.last (length p.s.held) count (few session p.s p.is) (asked_busy p.s p.asked) sp);
    follows = λ iris count f busy. absurd (busy refl);
    rests = λ e iris count. (refl, refl);
    pays = paid (event.Answered session request how) session p.s (record p.s { held = []; last = last.Idle }) p.is (asked_busy p.s p.asked);
  }

  -- ---- a flight ends
  module _ (now : Store) (event : Event (List ℕ)) (flight : ℕ) (how : End) (over : how ≡ end.UnderWay → ⊥) (p : Flies store flight)
      (own : owner store event ≡ leader store flight) (grows : (count : ℕ) → spent_with count event ≡ count + 1)
      (lacks : (iris : List (List ℕ)) → lacked_with iris event ≡ iris) (tries : (count : ℕ) → tried count event ≡ count)
      (sessions : now.sessions ≡ store.sessions) (flights : now.flights ≡ ended_as store.flights flight how) where
    owner_is : owner store event ≡ p.f.session
    owner_is = own ∙ ap (λ o. unwrap_or (option_map (λ (f : Flight). f.session) o) 0) p.is

    pub moved-landed : Moved limits store now event
    moved-landed =
        let w = h.wait flight p.f p.is p.flying in
        let is : at_number store.sessions (owner store event) ≡ Some w.0 = ap (at_number store.sessions) owner_is ∙ w.1 in
        record {
          s = w.0;
          t = w.0;
          is = is;
          set = sessions ∙ sym (set_value_same (is_at (nat_cmp (owner store event))) store.sessions w.0 is);
          others = λ l held count sp. subst (λ fs. Spends fs l held count) (sym flights) (spends-ended store.flights flight p.f how p.is over l held count sp);
          spends = λ count sp. subst (λ k. Spends now.flights w.0.last (length w.0.held) k) (sym (grows count))
              (subst (λ fs. Spends fs w.0.last (length w.0.held) (count + 1)) (sym flights) (spends-own store.flights flight p.f how p.is p.flying over w.0.last (length w.0.held) count w.2 sp));
          follows = λ iris count f busy. (lacks iris ∙ (f busy).0, tries count ∙ (f busy).1);
          rests = λ e iris count. (lacks iris, tries count);
          pays = λ count sp. subst (λ k. (suc (left w.0 k) ≤ left w.0 count) ⊎ ((left w.0 k ≤ 319) × Takes limits store w.0 event)) (sym (grows count))
              (paid event p.f.session w.0 w.0 w.1 (leading_busy w.0.last flight w.2) count sp);
        }
