-- What a session may do by what it has seen, it may do in the book that it finds at its turn.
use Rattle.std.proofs.Common.{◌≡◌, ◌∙◌, inl, inr, ℕ, Bool, true, false, not, ◌&&◌, ◌||◌, List, refl, ap, eq-eqb, ◌==◌, Option, Some, None}
use Rattle.std.specs.Prelude.{is_some}
use Rattle.std.specs.Option.{option_map}
use Rattle.ld_history.specs.Leading.{leads_now}
use Rattle.ld_history.specs.Legal.{is_in_stock, state}
use Rattle.ld_history.specs.Rules.{may_answer, may_close, may_pin_again, may_say, on_session, revised_as, revised_same, waits_for}
use Rattle.ld_history.specs.Steps as steps
use Rattle.ld_history.specs.Store.{Store}
use Rattle.ld_history.specs.Words.{at_number, flight_at, has_flight, has_request, is_failed, is_idle, is_pinned, is_published, is_published_as, is_same, is_some_and, is_under_way}
use Rattle.ld_history.specs.declared.event.How.{How}
use Rattle.ld_history.specs.declared.event.How.TheVariants as how
use Rattle.ld_history.specs.declared.limits.Limits.{Limits}
use Rattle.ld_history.specs.declared.session.End.{End}
use Rattle.ld_history.specs.declared.session.End.TheVariants as end
use Rattle.ld_history.specs.declared.session.Flight.{Flight}
use Rattle.ld_history.specs.declared.session.Last.{Last}
use Rattle.ld_history.specs.declared.session.Last.TheVariants as last
use Rattle.ld_history.specs.declared.session.Session.{Session}
use Rattle.ld_history.proofs.Leading.{leaders_wait}
use Rattle.ld_book.specs.Pages.{Booked, Pages, entries_of, history_of}
use Rattle.ld_moves.specs.Moving.{Finds}
use Rattle.ld_moves.specs.Standing.{Stands}
use Rattle.ld_moves.proofs.Keeping.{ended_found, session_found}
use Rattle.ld_moves.proofs.Taking.{kept}
use Rattle.ld_visit.specs.Ending.{Ended, MayEnd, MayPin}

not_leading : (o : Option Flight) (h : End) (rule : Flight → Bool) → option_map (λ (f : Flight). f.end) o ≡ Some h → is_under_way h ≡ false → is_some_and (λ f. is_under_way f.end && rule f) o ≡ false
not_leading None h rule e over = cc
not_leading (Some g) h rule e over = let same : g.end ≡ h = cc in ap (λ b. b && rule g) (ap is_under_way same ∙ over)

all_four : (a b c d : Bool) → a ≡ true → b ≡ true → c ≡ false → d ≡ true → (a && b && not c && d) ≡ true
all_four a b c d p q r s = rw (p, q, r, s) refl

pub taken_where : {A : Type 0} (b : Bool) (t : steps.Taken A) → b ≡ true → is_some (steps.where_ b t) ≡ true
taken_where true t h = refl
taken_where false t h = cc

module _ (session : ℕ) (limits : Limits) (front : Pages) (found : Booked) (f : Finds session limits front found) where
  now : Store
  now = state (entries_of found.pages)

  pub stands_found : (h : Last) (test : Last → Bool) → Stands front session h → test h ≡ true → on_session (state (entries_of found.pages)) session (λ s. test s.last) ≡ true
  stands_found h test st ok = ap (is_some_and (λ (s : Session). test s.last)) (session_found session limits front found f st.s st.is) ∙ ap test st.last_is ∙ ok

  over_found : (flight : ℕ) (h : End) → is_under_way h ≡ false → Ended front flight h → Ended found.pages flight h
  over_found flight h over e = ended_found session limits front found f flight h over e

  pub pin_found : MayPin front session → on_session (state (entries_of found.pages)) session (λ s. is_idle s.last || may_pin_again (state (entries_of found.pages)) s.last) ≡ true
  pin_found may = elim may [
    | inl h ↦ stands_found last.Idle (λ l. is_idle l || may_pin_again (state (entries_of found.pages)) l) h refl
    | inr (inl h) ↦ stands_found last.Found (λ l. is_idle l || may_pin_again (state (entries_of found.pages)) l) h refl
    | inr (inr h) ↦
        let came : Ended found.pages h.flight (end.Published h.version) = over_found h.flight (end.Published h.version) refl h.came in
        elim h.loads [
          | inl l ↦ stands_found (last.Led h.flight) (λ l. is_idle l || may_pin_again (state (entries_of found.pages)) l) l (ap (is_some_and is_published) came)
          | inr l ↦ stands_found (last.Joined h.flight) (λ l. is_idle l || may_pin_again (state (entries_of found.pages)) l) l (ap (is_some_and is_published) came)
        ]
  ]

  pub close_found : Stands front session last.Idle → may_close (state (entries_of found.pages)) session ≡ true
  close_found h = stands_found last.Idle is_idle h refl

  -- ---- answers
  leads_none : (l : Last) → Stands front session l → leads_now (state (entries_of found.pages)) session l ≡ false → has_flight (state (entries_of found.pages)) session ≡ false
  leads_none l h quiet =
      leaders_wait limits (entries_of found.pages) (state (entries_of found.pages)) (kept session limits front found f) session
      ∙ ap (is_some_and (λ (s : Session). leads_now (state (entries_of found.pages)) session s.last)) (session_found session limits front found f h.s h.is)
      ∙ ap (leads_now (state (entries_of found.pages)) session) h.last_is ∙ quiet

  answered : (w : How (List ℕ)) (l : Last) (h : Stands front session l) → is_idle l ≡ false → leads_now (state (entries_of found.pages)) session l ≡ false
      → may_say (is_in_stock (entries_of found.pages)) found.limits (state (entries_of found.pages)) h.s w ≡ true → is_some (steps.answer_step (history_of found) session w) ≡ true
  answered w l h busy quiet says =
      let at : at_number (state (entries_of found.pages)).sessions session ≡ Some h.s = session_found session limits front found f h.s h.is in
      let request : has_request h.s ≡ true = ap (λ b. not b) (ap is_idle h.last_is ∙ busy) in
      let may : may_answer (is_in_stock (entries_of found.pages)) found.limits (state (entries_of found.pages)) session h.s.request w ≡ true =
      ap (is_some_and (λ (s : Session). has_request s && (h.s.request == s.request) && not (has_flight (state (entries_of found.pages)) session) && may_say (is_in_stock (entries_of found.pages)) found.limits (state (entries_of found.pages)) s w)) at
      ∙ all_four (has_request h.s) (h.s.request == h.s.request) (has_flight (state (entries_of found.pages)) session) (may_say (is_in_stock (entries_of found.pages)) found.limits (state (entries_of found.pages)) h.s w)
      request (eq-eqb h.s.request h.s.request refl) (leads_none l h quiet) says in
      ap (λ (o : Option Session). is_some (steps.of_found (λ s. steps.where_ (may_answer (is_in_stock (entries_of found.pages)) found.limits (state (entries_of found.pages)) session s.request w) (steps.ending session s s.request w)) o)) at
      ∙ taken_where (may_answer (is_in_stock (entries_of found.pages)) found.limits (state (entries_of found.pages)) session h.s.request w) (steps.ending session h.s h.s.request w) may

  quiet_led : (flight : ℕ) (h : End) → is_under_way h ≡ false → Ended front flight h → leads_now (state (entries_of found.pages)) session (last.Led flight) ≡ false
  quiet_led flight h over e = not_leading (flight_at (state (entries_of found.pages)).flights flight) h (λ g. g.session == session) (over_found flight h over e) over

  waits : (flight : ℕ) (l : Last) (s : Session) → s.last ≡ l → (flight == flight) ≡ true → (h : End) → Ended found.pages flight h → is_failed h ≡ true → waits_for flight l ≡ (flight == flight)
      → may_say (is_in_stock (entries_of found.pages)) found.limits (state (entries_of found.pages)) s (how.LoadFault flight) ≡ true
  waits flight l s is self h e bad w = let a : waits_for flight s.last ≡ true = ap (waits_for flight) is ∙ w ∙ self in let b = ap (is_some_and is_failed) e ∙ bad in rw (a, b) refl

  pub answer_found : (w : How (List ℕ)) → MayEnd front session w → is_some (steps.answer_step (history_of found) session w) ≡ true
  answer_found how.Done h = answered how.Done last.Pinned h refl refl (ap is_pinned h.last_is)
  answer_found how.NoMemory may = elim may [
    | inl h ↦ answered how.NoMemory last.Pinned h refl refl refl
    | inr (inl h) ↦ answered how.NoMemory last.Found h refl refl refl
    | inr (inr w) ↦ elim w.awaits [
      | inl (inl h) ↦ answered how.NoMemory (last.Led w.flight) h refl (quiet_led w.flight w.how w.over w.ended) refl
      | inl (inr h) ↦ answered how.NoMemory (last.Joined w.flight) h refl refl refl
      | inr h ↦ answered how.NoMemory (last.ReviseLed w.flight) h refl (quiet_led w.flight w.how w.over w.ended) refl
    ]
  ]
  answer_found (how.LoadFault flight) w =
      let self : (flight == flight) ≡ true = eq-eqb flight flight refl in
      let failed = over_found flight (end.Failed w.before w.after) refl w.ended in
      elim w.awaits [
        | inl (inl h) ↦ answered (how.LoadFault flight) (last.Led flight) h refl (quiet_led flight (end.Failed w.before w.after) refl w.ended)
            (waits flight (last.Led flight) h.s h.last_is self (end.Failed w.before w.after) failed refl refl)
        | inl (inr h) ↦ answered (how.LoadFault flight) (last.Joined flight) h refl refl (waits flight (last.Joined flight) h.s h.last_is self (end.Failed w.before w.after) failed refl refl)
        | inr h ↦ answered (how.LoadFault flight) (last.ReviseLed flight) h refl (quiet_led flight (end.Failed w.before w.after) refl w.ended)
            (waits flight (last.ReviseLed flight) h.s h.last_is self (end.Failed w.before w.after) failed refl refl)
      ]
  answer_found (how.Revised version) w =
      answered (how.Revised version) (last.ReviseLed w.flight) w.awaits refl (quiet_led w.flight (end.Published version) refl w.ended)
      (ap (λ l. revised_as (state (entries_of found.pages)) version l) w.awaits.last_is ∙ ap (is_some_and (is_published_as version)) (over_found w.flight (end.Published version) refl w.ended) ∙ eq-eqb version version refl)
  answer_found how.Same w =
      answered how.Same (last.ReviseLed w.flight) w.awaits refl (quiet_led w.flight end.Same refl w.ended)
      (ap (λ l. revised_same (state (entries_of found.pages)) l) w.awaits.last_is ∙ ap (is_some_and is_same) (over_found w.flight end.Same refl w.ended))
  answer_found (how.TooMany iri) w = absurd w
  answer_found how.StoreFull w = absurd w
  answer_found (how.ArchiveFull bytes) w = absurd w
  answer_found (how.NotStored version) w = absurd w
  answer_found (how.Held holder) w = absurd w
  answer_found (how.Revising flight) w = absurd w
  answer_found (how.Flying flight) w = absurd w
  answer_found (how.Evicted version) w = absurd w
