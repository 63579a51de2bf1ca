-- The steps of one entry: a pin, an answer and a close.
use Rattle.std.proofs.Common.{◌≡◌, ◌∙◌, ℕ, ◌≤◌, Bool, true, false, List, [], ◌∷◌, ◌++◌, refl, sym, ap, subst, arith, eq-eqb, ◌==◌}
use Rattle.std.specs.Prelude.{Option, Some, None}
use Rattle.std.specs.Option.{option_map}
use Rattle.ld_history.specs.After.{after}
use Rattle.ld_history.specs.ByTurns.{allows}
use Rattle.ld_history.specs.Legal.{is_in_stock, state}
use Rattle.ld_history.specs.Rules as rules
use Rattle.ld_history.specs.Steps as steps
use Rattle.ld_history.specs.Steps.{Answers, Taken, appended, plain}
use Rattle.ld_history.specs.Store.{Store}
use Rattle.ld_history.specs.Words.{at_number}
use Rattle.ld_history.specs.declared.answers.PinAnswer.TheVariants as pin_answer
use Rattle.ld_history.specs.declared.event.Event.{Event}
use Rattle.ld_history.specs.declared.event.Event.TheVariants as event
use Rattle.ld_history.specs.declared.event.How.{How}
use Rattle.ld_history.specs.declared.limits.Limits.{Limits}
use Rattle.ld_history.specs.declared.session.Last.TheVariants as last
use Rattle.ld_history.specs.declared.session.Session.{Session}
use Rattle.ld_history.proofs.LawCrew.{changed_same}
use Rattle.ld_history.proofs.LawReads.{read_pin}
use Rattle.ld_history.proofs.LawTold.{allowed_alike}
use Rattle.ld_history.proofs.Pinning.{pin_allowed}
use Rattle.ld_fits.specs.Play.{Stage, step}
use Rattle.ld_book.specs.Pages.{Booked, Pages, after_step, bare, entries_of, history_of}
use Rattle.ld_book.proofs.Saying.{ByPin, pin_says, said}
use Rattle.ld_moves.specs.Moving.{Finds, MovesOn, version_in}
use Rattle.ld_moves.specs.Standing.{HasPinned, IsOpenAt, Stands}
use Rattle.ld_moves.specs.Stocks.{stocks}
use Rattle.ld_moves.proofs.Taking.{kept, now, plain_moves, state_with, turns_legal}

-- what holds of the entries holds of the step that appends them
pub as_step : {A : Type 0} (found : Booked) (t : Option (Taken A)) (P : Pages → Type 0) (e : _) → appended t ≡ e → P (found.pages ++ bare e) → P (after_step found t).pages
as_step found t P e is h = subst (λ es. P (found.pages ++ bare es)) (sym is) h

module _ (session : ℕ) (limits : Limits) (front : Pages) (found : Booked) (f : Finds session limits front found) where
  -- the state after one entry, as far as it is asked
  pub after_one : (e : Event (List ℕ)) → state (entries_of (found.pages ++ bare (plain e ∷ []))) ≡ after (now session limits front found f) (plain e)
  after_one e = state_with session limits front found f (bare (plain e ∷ []))

  own_event : (session == session) ≡ true
  own_event = eq-eqb session session refl

  -- ---- a pin
  module _ (request attempt version : ℕ) (is : Answers (steps.pin_step (history_of found) session) (pin_answer.Pinned request attempt version)) where
    pins : Event (List ℕ)
    pins = event.Pinned session request attempt version

    said_pin : (appended (steps.pin_step (history_of found) session) ≡ plain (event.Pinned session request attempt version) ∷ []) × (version ≡ (state (entries_of found.pages)).version)
    said_pin = said (ByPin (state (entries_of found.pages)) session) (steps.pin_step (history_of found) session) (pin_says (history_of found) session) (pin_answer.Pinned request attempt version) is

    ok : allows limits (state (entries_of found.pages)) (plain (event.Pinned session request attempt version)) ≡ true
    ok = pin_allowed limits (entries_of found.pages) (state (entries_of found.pages)) (record { limits = limits; entries = entries_of found.pages }) session request attempt version (kept session limits front found f) refl
        (subst (λ (l : Limits). option_map (λ t. t.answer) (steps.of_session (state (entries_of found.pages)) session (steps.pinning l (state (entries_of found.pages)) session)) ≡ Some (pin_answer.Pinned request attempt version)) f.limits_are is)

    pub pin_version : version ≡ version_in found.pages
    pin_version = said_pin.1

    within : version ≤ version_in (found.pages ++ bare (plain (event.Pinned session request attempt version) ∷ []))
    within =
        let same : version_in (found.pages ++ bare (plain (event.Pinned session request attempt version) ∷ [])) ≡ version_in found.pages = ap (λ (s : Store). s.version) (after_one (event.Pinned session request attempt version)) in
        let current = said_pin.1 in
        omega (arith, same, current)

    pub pin_moves : (from : Stage) → MovesOn session limits front (after_step found (steps.pin_step (history_of found) session)).pages from
        (step limits (stocks (after_step found (steps.pin_step (history_of found) session)).pages) (state (entries_of found.pages)) from (event.Pinned session request attempt version))
    pin_moves from =
        as_step found (steps.pin_step (history_of found) session) (λ pages. MovesOn session limits front pages from (step limits (stocks pages) (state (entries_of found.pages)) from (event.Pinned session request attempt version)))
        (plain (event.Pinned session request attempt version) ∷ []) said_pin.0
        (λ given faults. plain_moves session limits front found f (event.Pinned session request attempt version) ok own_event within refl (λ low. omega arith) given faults from)

    pub pin_told : HasPinned (after_step found (steps.pin_step (history_of found) session)).pages session request version
    pin_told =
        let p = read_pin limits (state (entries_of found.pages)) session request attempt version ok in
        as_step found (steps.pin_step (history_of found) session) (λ pages. HasPinned pages session request version) (plain (event.Pinned session request attempt version) ∷ []) said_pin.0
        (record {
          s = record p.s { request = request; attempt = attempt; version = version; last = last.Pinned };
          is = ap (λ (s : Store). at_number s.sessions session) (after_one (event.Pinned session request attempt version))
              ∙ changed_same (state (entries_of found.pages)).sessions session (λ (s : Session). record s { request = request; attempt = attempt; version = version; last = last.Pinned }) p.s p.is;
          last_is = refl;
          request_is = refl;
          version_is = refl;
        })

    pub pin_rises : version ≤ version_in (after_step found (steps.pin_step (history_of found) session)).pages
    pin_rises = as_step found (steps.pin_step (history_of found) session) (λ pages. version ≤ version_in pages) (plain (event.Pinned session request attempt version) ∷ []) said_pin.0 within

  -- ---- an answer
  module _ (how : How (List ℕ)) (t : Taken ℕ) (is : steps.answer_step (history_of found) session how ≡ Some t) where
    record Parts : Type 0 where
      s : Session
      at : IsOpenAt found.pages session s
      ok : rules.may_answer (is_in_stock (entries_of found.pages)) found.limits (state (entries_of found.pages)) session s.request how ≡ true
      taken_is : t ≡ steps.ending session s s.request how

    answer_parts : Parts
    answer_parts = go (at_number (state (entries_of found.pages)).sessions session) refl is
      where
        where_is : (s : Session) → at_number (state (entries_of found.pages)).sessions session ≡ Some s → (b : Bool)
            → rules.may_answer (is_in_stock (entries_of found.pages)) found.limits (state (entries_of found.pages)) session s.request how ≡ b → steps.where_ b (steps.ending session s s.request how) ≡ Some t → Parts
        where_is s at true ok e = record { s = s; at = at; ok = ok; taken_is = cc }
        where_is s at false ok e = cc

        go : (o : Option Session) → at_number (state (entries_of found.pages)).sessions session ≡ o
            → steps.of_found (λ s. steps.where_ (rules.may_answer (is_in_stock (entries_of found.pages)) found.limits (state (entries_of found.pages)) session s.request how) (steps.ending session s s.request how)) o ≡ Some t → Parts
        go None at e = cc
        go (Some s) at e = where_is s at (rules.may_answer (is_in_stock (entries_of found.pages)) found.limits (state (entries_of found.pages)) session s.request how) refl e

    pub answer_entries : appended (steps.answer_step (history_of found) session how) ≡ plain (event.Answered session t.answer how) ∷ []
    answer_entries = let p = answer_parts in ap appended is ∙ ap (λ (x : Taken ℕ). x.entries) p.taken_is ∙ ap (λ r. plain (event.Answered session r how) ∷ []) (sym (ap (λ (x : Taken ℕ). x.answer) p.taken_is))

    answer_ok : allows limits (state (entries_of found.pages)) (plain (event.Answered session t.answer how)) ≡ true
    answer_ok =
        let p = answer_parts in
        ap (λ r. allows limits (state (entries_of found.pages)) (plain (event.Answered session r how))) (ap (λ (x : Taken ℕ). x.answer) p.taken_is)
        ∙ sym (allowed_alike limits (entries_of found.pages) (turns_legal session limits front found f) (plain (event.Answered session p.s.request how)))
        ∙ subst (λ (l : Limits). rules.may_answer (is_in_stock (entries_of found.pages)) l (state (entries_of found.pages)) session p.s.request how ≡ true) f.limits_are p.ok

    pub answer_moves : (from : Stage) → MovesOn session limits front (after_step found (steps.answer_step (history_of found) session how)).pages from
        (step limits (stocks (after_step found (steps.answer_step (history_of found) session how)).pages) (state (entries_of found.pages)) from (event.Answered session t.answer how))
    answer_moves from =
        as_step found (steps.answer_step (history_of found) session how) (λ pages. MovesOn session limits front pages from (step limits (stocks pages) (state (entries_of found.pages)) from (event.Answered session t.answer how)))
        (plain (event.Answered session t.answer how) ∷ []) answer_entries
        (λ given faults. plain_moves session limits front found f (event.Answered session t.answer how) answer_ok own_event tt refl (λ low. omega arith) given faults from)

    pub answer_told : Stands (after_step found (steps.answer_step (history_of found) session how)).pages session last.Idle
    answer_told =
        let p = answer_parts in
        as_step found (steps.answer_step (history_of found) session how) (λ pages. Stands pages session last.Idle) (plain (event.Answered session t.answer how) ∷ []) answer_entries
        (record {
          s = record p.s { held = []; last = last.Idle };
          is = ap (λ (s : Store). at_number s.sessions session) (after_one (event.Answered session t.answer how))
              ∙ changed_same (state (entries_of found.pages)).sessions session (λ (s : Session). record s { held = []; last = last.Idle }) p.s p.at;
          last_is = refl;
        })

  -- ---- a close
  module _ (t : Taken (Unit {0})) (is : steps.close_step (history_of found) session ≡ Some t) where
    close_parts : (b : Bool) → rules.may_close (state (entries_of found.pages)) session ≡ b → steps.where_ b (steps.taken tt (plain (event.Closed session) ∷ [])) ≡ Some t
        → (rules.may_close (state (entries_of found.pages)) session ≡ true) × (t.entries ≡ plain (event.Closed session) ∷ [])
    close_parts true ok e = (ok, cc)
    close_parts false ok e = cc

    close_is : (rules.may_close (state (entries_of found.pages)) session ≡ true) × (t.entries ≡ plain (event.Closed session) ∷ [])
    close_is = close_parts (rules.may_close (state (entries_of found.pages)) session) refl is

    pub close_moves : (from : Stage) → MovesOn session limits front (after_step found (steps.close_step (history_of found) session)).pages from
        (step limits (stocks (after_step found (steps.close_step (history_of found) session)).pages) (state (entries_of found.pages)) from (event.Closed session))
    close_moves from =
        as_step found (steps.close_step (history_of found) session) (λ pages. MovesOn session limits front pages from (step limits (stocks pages) (state (entries_of found.pages)) from (event.Closed session)))
        (plain (event.Closed session) ∷ []) (ap appended is ∙ close_is.1)
        (λ given faults. plain_moves session limits front found f (event.Closed session) close_is.0 own_event tt refl (λ low. omega arith) given faults from)
