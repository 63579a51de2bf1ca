-- The counts and lists of each session's request, along a legal history.
use Rattle.std.proofs.Common.{◌≡◌, ℕ, ◌+◌, ◌≤◌, List, [], ◌∷◌, ◌++◌, length, refl, sym, ap, ◌∙◌, subst, arith, Option, Some, None, Bool, true, false, ◌⊎◌, inl, inr, eqb-true, eq-eqb, nat_cmp, append_assoc, append-nil}
use Rattle.std.specs.Prelude.{◌==◌, if◌then◌else◌, nat_eq}
use Rattle.std.specs.List.{fold, IsDistinct}
use Rattle.std.specs.Ordering.{is_eq}
use Rattle.std.specs.Map.{set_value}
use Rattle.std.specs.BTreeMap.{is_at}
use Rattle.std.specs.Cmp.Lexicographic.{pointwise}
use Rattle.std.proofs.lemmas.Grind.{fold-append}
use Rattle.std.proofs.lemmas.Bool.{cases_Bool, eqb-false}
use Rattle.ld_history.specs.declared.limits.Limits.{Limits}
use Rattle.ld_history.specs.declared.event.Given.{Given}
use Rattle.ld_history.specs.declared.event.Event.{Event}
use Rattle.ld_history.specs.declared.event.Event.TheVariants as event
use Rattle.ld_history.specs.declared.event.Entry.{Entry}
use Rattle.ld_history.specs.declared.session.Session.{Session}
use Rattle.ld_history.specs.declared.session.Last.{Last}
use Rattle.ld_history.specs.declared.session.Last.TheVariants as last
use Rattle.ld_history.specs.declared.session.Flight.{Flight}
use Rattle.ld_history.specs.declared.session.End.TheVariants as end
use Rattle.ld_history.specs.Store.{Store, empty_store}
use Rattle.ld_history.specs.Words.{at_number}
use Rattle.ld_history.specs.Rules.{allows_with}
use Rattle.ld_history.specs.After.{after, after_event, put_number, take_number, with_flight, landed, answered_by}
use Rattle.ld_history.specs.Legal.{replay, state, Entries}
use Rattle.ld_history.specs.Counts.{owner, own, own_from, spent_with, lacked_with, tried, spent, lacked, attempts}
use Rattle.ld_history.specs.ByTurns.{allows, allows_alone, allows_given, Legal}
use Rattle.ld_history.proofs.LawAlong.{along, replay-append}
use Rattle.ld_history.proofs.LawReads.{read_pin, read_find, read_lead, read_join, read_fly, read_fail, read_publish, read_evict, read_revise, read_same, read_answer}
use Rattle.ld_history.proofs.LawFlights.{number_cases, put_number_same, put_number_other, take_number_same, take_number_other}
use Rattle.ld_history.proofs.LawCrew.{Sessions, Sits, Tries, AllSit, set_number_same, set_number_other}
use Rattle.ld_history.proofs.LawSound.{Sound, sound, sound-after}
use Rattle.ld_history.proofs.LawMoved.{Spends, Follows, Moved, spends-most}
use Rattle.ld_history.proofs.LawMoves.{moved-pinned, moved-found, moved-led, moved-joined, moved-evicted, moved-revise, moved-answered, moved-landed}

-- ---- the session's own entries, with one more
own_more : (store : Store) (n : ℕ) (front : Entries) (entry : Entry (List ℕ) Given)
    → own_from store n (front ++ entry ∷ []) ≡ own_from store n front ++ (if owner (replay store front) entry.event == n then entry ∷ [] else [])
own_more store n [] entry = append-nil _
own_more store n (first ∷ front) entry =
    ap (λ l. (if owner store first.event == n then first ∷ [] else []) ++ l) (own_more (after store first) n front entry)
    ∙ sym (append_assoc (if owner store first.event == n then first ∷ [] else []) (own_from (after store first) n front) (if owner (replay (after store first) front) entry.event == n then entry ∷ [] else []))

module _ {X : Type 0} (h : X → Entry (List ℕ) Given → X) (z : X) (front : Entries) (entry : Entry (List ℕ) Given) (n : ℕ) where
  pub folded_mine : owner (state front) entry.event ≡ n → fold h z (own n (front ++ entry ∷ [])) ≡ h (fold h z (own n front)) entry
  folded_mine e =
      ap (fold h z) (own_more empty_store n front entry ∙ ap (λ b. own n front ++ (if b then entry ∷ [] else [])) (eq-eqb (owner (state front) entry.event) n e))
      ∙ fold-append h z (own n front) (entry ∷ [])

  pub folded_other : (owner (state front) entry.event == n) ≡ false → fold h z (own n (front ++ entry ∷ [])) ≡ fold h z (own n front)
  folded_other e =
      ap (fold h z) (own_more empty_store n front entry ∙ ap (λ b. own n front ++ (if b then entry ∷ [] else [])) e ∙ append-nil (own n front))

pub record Track (limits : Limits) (flights : List Flight) (sessions : Sessions) (n : ℕ) (iris : List (List ℕ)) (made : ℕ) (count : ℕ) : Type 0 where
  pub spends : (s : Session) → at_number sessions n ≡ Some s → Spends flights s.last (length s.held) count
  pub small : count ≤ 260
  pub follows : (s : Session) → at_number sessions n ≡ Some s → Follows s iris made
  pub differ : IsDistinct (pointwise nat_eq) iris
  pub few : length iris ≤ limits.held
  pub tries : made ≤ limits.held + 1

same_value : {X : Type 0} (x y : X) → Some x ≡ Some y → x ≡ y
same_value x y e = cc

idle_cases : (l : Last) → (l ≡ last.Idle) ⊎ (l ≡ last.Idle → ⊥)
idle_cases last.Idle = inl refl
idle_cases last.Pinned = inr (λ e. cc)
idle_cases last.Found = inr (λ e. cc)
idle_cases (last.Led k) = inr (λ e. cc)
idle_cases (last.Joined k) = inr (λ e. cc)
idle_cases (last.Evicted v) = inr (λ e. cc)
idle_cases (last.ReviseLed k) = inr (λ e. cc)

tries-most : (l : Last) (a h : ℕ) → (l ≡ last.Idle → ⊥) → Tries l a h → a ≤ h + 1
tries-most last.Idle a h n t = absurd (n refl)
tries-most last.Pinned a h n t = omega arith
tries-most last.Found a h n t = omega arith
tries-most (last.Led k) a h n t = omega arith
tries-most (last.Joined k) a h n t = omega arith
tries-most (last.Evicted v) a h n t = omega arith
tries-most (last.ReviseLed k) a h n t = omega arith

apart_test : (a b : ℕ) → (a == b) ≡ false → is_eq (nat_cmp b a) ≡ false
apart_test a b e = elim (number_cases b a) [ inl same ↦ absurd (eqb-false a b e (sym same)) | inr n ↦ n ]

-- ---- the event of an open session
module _ (limits : Limits) (small : limits.held ≤ 64) (store now : Store) (event : Event (List ℕ)) (m : Moved limits store now event)
    (each : AllSit limits now.version now.flights now.stored now.turns now.sessions) (n : ℕ) (iris : List (List ℕ)) (tries count : ℕ) (h : Track limits store.flights store.sessions n iris tries count) where
  moved_at : owner store event ≡ n → at_number now.sessions n ≡ Some m.t
  moved_at e = ap (λ l. at_number l n) m.set ∙ subst (λ k. at_number (set_value (is_at (nat_cmp (owner store event))) store.sessions m.t) k ≡ Some m.t) e (set_number_same store.sessions (owner store event) m.t m.s m.is)

  pub track-mine : owner store event ≡ n → Track limits now.flights now.sessions n (lacked_with iris event) (tried tries event) (spent_with count event)
  track-mine e =
      let was : at_number store.sessions n ≡ Some m.s = subst (λ k. at_number store.sessions k ≡ Some m.s) e m.is in
      let sits : Sits limits now.version now.flights now.stored now.turns m.t = each n m.t (moved_at e) in
      let sp : Spends now.flights m.t.last (length m.t.held) (spent_with count event) = m.spends count (h.spends m.s was) in
      let fo : Follows m.t (lacked_with iris event) (tried tries event) = m.follows iris tries (h.follows m.s was) in
      let few : length m.t.held ≤ 64 = omega (arith, sits.few, small) in
      record {
        spends = λ s is. subst (λ (x : Session). Spends now.flights x.last (length x.held) (spent_with count event)) (same_value m.t s (sym (moved_at e) ∙ is)) sp;
        small = spends-most now.flights m.t.last (length m.t.held) (spent_with count event) few sp;
        follows = λ s is. subst (λ x. Follows x (lacked_with iris event) (tried tries event)) (same_value m.t s (sym (moved_at e) ∙ is)) fo;
        differ = elim (idle_cases m.t.last) [
          | inl idle ↦ subst (IsDistinct (pointwise nat_eq)) (sym (m.rests idle iris tries).0) h.differ
          | inr busy ↦ subst (IsDistinct (pointwise nat_eq)) (sym (fo busy).0) sits.differ
        ];
        few = elim (idle_cases m.t.last) [
          | inl idle ↦ subst (λ l. length l ≤ limits.held) (sym (m.rests idle iris tries).0) h.few
          | inr busy ↦ subst (λ l. length l ≤ limits.held) (sym (fo busy).0) sits.few
        ];
        tries = elim (idle_cases m.t.last) [
          | inl idle ↦ subst (λ k. k ≤ limits.held + 1) (sym (m.rests idle iris tries).1) h.tries
          | inr busy ↦ subst (λ k. k ≤ limits.held + 1) (sym (fo busy).1) (omega (arith, tries-most m.t.last m.t.attempt (length m.t.held) busy sits.tries, sits.few))
        ];
      }

  pub track-other : (owner store event == n) ≡ false → Track limits now.flights now.sessions n iris tries count
  track-other e =
      let same : at_number now.sessions n ≡ at_number store.sessions n = ap (λ l. at_number l n) m.set ∙ set_number_other store.sessions (owner store event) m.t m.s m.is n (apart_test (owner store event) n e) in
      record {
        spends = λ s is. m.others s.last (length s.held) count (h.spends s (sym same ∙ is));
        small = h.small;
        follows = λ s is. h.follows s (sym same ∙ is);
        differ = h.differ;
        few = h.few;
        tries = h.tries;
      }

-- ---- a flight that ended is under way no more
published_over : (version : ℕ) → end.Published version ≡ end.UnderWay → ⊥
published_over version e = cc

failed_over : (before after : ℕ) → end.Failed before after ≡ end.UnderWay → ⊥
failed_over before after e = cc

lapsed_over : end.Lapsed ≡ end.UnderWay → ⊥
lapsed_over e = cc

same_over : end.Same ≡ end.UnderWay → ⊥
same_over e = cc

-- ---- which event it is
abbrev pub is_inside : Event (List ℕ) → Bool
is_inside (event.Opened session seat) = false
is_inside (event.Closed session) = false
is_inside _ = true

module _ (limits : Limits) (small : limits.held ≤ 64) (store : Store) (h : Sound limits store) where
  moved-alone : (event : Event (List ℕ)) → is_inside event ≡ true → allows_alone limits store event ≡ true → Moved limits store (after_event store None event) event
  moved-alone (event.Opened session seat) inside ok = cc
  moved-alone (event.Pinned session request attempt version) inside ok = moved-pinned limits small store h.crew session request attempt version (read_pin limits store session request attempt version ok)
  moved-alone (event.Found session iri) inside ok = moved-found limits small store h.crew session iri (read_find limits store session iri ok)
  moved-alone (event.Led session iri flight) inside ok = moved-led limits small store h.crew session iri flight (read_lead limits store session iri flight ok)
  moved-alone (event.Joined session iri flight) inside ok = moved-joined limits small store h.crew session iri flight (read_join limits store session iri flight ok)
  moved-alone (event.Published flight version) inside ok = cc
  moved-alone (event.Failed flight before after) inside ok =
      let p = read_fly store flight (read_fail store flight before after ok) in
      moved-landed limits small store h.crew _ (event.Failed flight before after) flight (end.Failed before after) (failed_over before after) p refl (λ c. refl) (λ l. refl) (λ c. refl)
      (ap (λ o. (with_flight store (landed store flight (end.Failed before after)) o).sessions) p.is)
      (ap (λ o. (with_flight store (landed store flight (end.Failed before after)) o).flights) p.is)
  moved-alone (event.Lapsed flight) inside ok =
      let p = read_fly store flight ok in
      moved-landed limits small store h.crew _ (event.Lapsed flight) flight end.Lapsed lapsed_over p refl (λ c. refl) (λ l. refl) (λ c. refl)
      (ap (λ o. (with_flight store (landed store flight end.Lapsed) o).sessions) p.is)
      (ap (λ o. (with_flight store (landed store flight end.Lapsed) o).flights) p.is)
  moved-alone (event.Evicted session iri version) inside ok = moved-evicted limits small store h.crew session iri version (read_evict store session iri version ok)
  moved-alone (event.ReviseLed session iri flight) inside ok = moved-revise limits small store h.crew session iri flight (read_revise limits store session iri flight ok)
  moved-alone (event.Same flight) inside ok = cc
  moved-alone (event.Answered session request how) inside ok = moved-answered limits small store h.crew session request how (read_answer limits store session request how ok)
  moved-alone (event.Closed session) inside ok = cc

  moved-with : (given : Given) (event : Event (List ℕ)) → is_inside event ≡ true → allows_with store given event ≡ true → Moved limits store (after_event store (Some given) event) event
  moved-with given (event.Published flight version) inside ok =
      let p = read_publish store flight version given ok in
      moved-landed limits small store h.crew _ (event.Published flight version) flight (end.Published version) (published_over version) p.flies refl (λ c. refl) (λ l. refl) (λ c. refl)
      (ap (λ o. (with_flight store (answered_by store flight version given) o).sessions) p.flies.is)
      (ap (λ o. (with_flight store (answered_by store flight version given) o).flights) p.flies.is)
  moved-with given (event.Same flight) inside ok =
      let p = read_same store flight given ok in
      moved-landed limits small store h.crew _ (event.Same flight) flight end.Same same_over p refl (λ c. refl) (λ l. refl) (λ c. refl)
      (ap (λ o. (with_flight store (landed store flight end.Same) o).sessions) p.is)
      (ap (λ o. (with_flight store (landed store flight end.Same) o).flights) p.is)
  moved-with given event inside ok = cc

  pub moved : (given : Option Given) (event : Event (List ℕ)) → is_inside event ≡ true → allows_given limits store event given ≡ true → Moved limits store (after_event store given event) event
  moved None event inside ok = moved-alone event inside ok
  moved (Some given) event inside ok = moved-with given event inside ok

-- ---- 1 Opened, 13 Closed
module _ (limits : Limits) (flights : List Flight) (sessions : Sessions) (session n : ℕ) (iris : List (List ℕ)) (made count : ℕ) (h : Track limits flights sessions n iris made count) where
  track-unseen : (now : Sessions) → ((s : Session) → at_number now n ≡ Some s → s.last ≡ last.Idle) → Track limits flights now n iris made 0
  track-unseen now idle = record {
    spends = λ s is. subst (λ l. Spends flights l (length s.held) 0) (sym (idle s is)) (omega arith);
    small = omega arith;
    follows = λ s is busy. absurd (busy (idle s is));
    differ = h.differ;
    few = h.few;
    tries = h.tries;
  }

  track-same : (now : Sessions) → at_number now n ≡ at_number sessions n → Track limits flights now n iris made count
  track-same now same = record {
    spends = λ s is. h.spends s (sym same ∙ is);
    small = h.small;
    follows = λ s is. h.follows s (sym same ∙ is);
    differ = h.differ;
    few = h.few;
    tries = h.tries;
  }

-- ---- along a history
abbrev pub Tracked : Limits → Entries → Type 0
Tracked limits entries = (n : ℕ) → Track limits (state entries).flights (state entries).sessions n (lacked n entries) (attempts n entries) (spent n entries)

module _ (limits : Limits) (small : limits.held ≤ 64) (front : Entries) (legal : Legal limits front) (h : Tracked limits front) (n : ℕ) where
  abbrev Next : Entry (List ℕ) Given → Type 0
  Next entry = Track limits (after (state front) entry).flights (after (state front) entry).sessions n (lacked n (front ++ entry ∷ [])) (attempts n (front ++ entry ∷ [])) (spent n (front ++ entry ∷ []))

  -- the counts of another session stay
  as_other : (entry : Entry (List ℕ) Given) → (owner (state front) entry.event == n) ≡ false
      → Track limits (after (state front) entry).flights (after (state front) entry).sessions n (lacked n front) (attempts n front) (spent n front) → Next entry
  as_other entry e t =
      rw (
        folded_other (λ iris (x : Entry (List ℕ) Given). lacked_with iris x.event) [] front entry n e,
        folded_other (λ count (x : Entry (List ℕ) Given). tried count x.event) 0 front entry n e,
        folded_other (λ count (x : Entry (List ℕ) Given). spent_with count x.event) 0 front entry n e,
      ) t

  as_mine : (entry : Entry (List ℕ) Given) → owner (state front) entry.event ≡ n
      → Track limits (after (state front) entry).flights (after (state front) entry).sessions n (lacked_with (lacked n front) entry.event) (tried (attempts n front) entry.event) (spent_with (spent n front) entry.event) → Next entry
  as_mine entry e t =
      rw (
        folded_mine (λ iris (x : Entry (List ℕ) Given). lacked_with iris x.event) [] front entry n e,
        folded_mine (λ count (x : Entry (List ℕ) Given). tried count x.event) 0 front entry n e,
        folded_mine (λ count (x : Entry (List ℕ) Given). spent_with count x.event) 0 front entry n e,
      ) t

  by_moved : (entry : Entry (List ℕ) Given) → allows limits (state front) entry ≡ true → is_inside entry.event ≡ true → Next entry
  by_moved entry ok inside =
      let was = sound limits front legal in
      let now = sound-after limits (state front) entry ok was in
      let m = moved limits small (state front) was entry.given entry.event inside ok in
      elim (cases_Bool (owner (state front) entry.event == n)) [
        | inl mine ↦ as_mine entry (eqb-true _ _ mine) (track-mine limits small (state front) _ entry.event m now.crew.each n _ _ _ (h n) (eqb-true _ _ mine))
        | inr other ↦ as_other entry other (track-other limits small (state front) _ entry.event m now.crew.each n _ _ _ (h n) other)
      ]

  by_opened : (given : Option Given) (session seat : ℕ) → Next (record { event = event.Opened session seat; given = given })
  by_opened given session seat = elim (cases_Bool (session == n)) [
    | inl mine ↦ as_mine _ (eqb-true session n mine) (track-unseen limits (state front).flights (state front).sessions session n _ _ _ (h n) _ (λ s is.
        ap (λ (x : Session). x.last) (same_value s _ (sym is ∙ ap (at_number (put_number (state front).sessions session _)) (sym (eqb-true session n mine)) ∙ put_number_same (state front).sessions session _))))
    | inr other ↦ as_other _ other (track-same limits (state front).flights (state front).sessions session n _ _ _ (h n) _ (put_number_other (state front).sessions session _ n (apart_test session n other)))
  ]

  by_closed : (given : Option Given) (session : ℕ) → Next (record { event = event.Closed session; given = given })
  by_closed given session = elim (cases_Bool (session == n)) [
    | inl mine ↦ as_mine _ (eqb-true session n mine) (track-unseen limits (state front).flights (state front).sessions session n _ _ _ (h n) _ (λ s is.
        absurd (let none : None ≡ Some s = sym (take_number_same (state front).sessions session (sound limits front legal).crew.sorted) ∙ ap (at_number (take_number (state front).sessions session)) (eqb-true session n mine) ∙ is in cc)))
    | inr other ↦ as_other _ other (track-same limits (state front).flights (state front).sessions session n _ _ _ (h n) _ (take_number_other (state front).sessions session n (apart_test session n other)))
  ]

  track-event : (given : Option Given) (event : Event (List ℕ)) → allows limits (state front) (record { event = event; given = given }) ≡ true → Next (record { event = event; given = given })
  track-event given (event.Opened session seat) ok = by_opened given session seat
  track-event given (event.Closed session) ok = by_closed given session
  track-event given (event.Pinned session request attempt version) ok = by_moved _ ok refl
  track-event given (event.Found session iri) ok = by_moved _ ok refl
  track-event given (event.Led session iri flight) ok = by_moved _ ok refl
  track-event given (event.Joined session iri flight) ok = by_moved _ ok refl
  track-event given (event.Published flight version) ok = by_moved _ ok refl
  track-event given (event.Failed flight before after) ok = by_moved _ ok refl
  track-event given (event.Lapsed flight) ok = by_moved _ ok refl
  track-event given (event.Evicted session iri version) ok = by_moved _ ok refl
  track-event given (event.ReviseLed session iri flight) ok = by_moved _ ok refl
  track-event given (event.Same flight) ok = by_moved _ ok refl
  track-event given (event.Answered session request how) ok = by_moved _ ok refl

track-empty : (limits : Limits) → Tracked limits []
unfolding IsDistinct
track-empty limits n = record {
  spends = λ s is. cc;
  small = omega arith;
  follows = λ s is. cc;
  differ = tt;
  few = omega arith;
  tries = omega arith;
}

pub tracked : (limits : Limits) → limits.held ≤ 64 → (entries : Entries) → Legal limits entries → Tracked limits entries
tracked limits small = along limits (Tracked limits)
    (λ front entry legal ok h n. subst (λ (s : Store). Track limits s.flights s.sessions n (lacked n (front ++ entry ∷ [])) (attempts n (front ++ entry ∷ [])) (spent n (front ++ entry ∷ [])))
    (sym (replay-append empty_store front (entry ∷ []))) (track-event limits small front legal h n entry.given entry.event ok))
    (track-empty limits)
