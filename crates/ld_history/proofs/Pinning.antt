-- A pin that is answered with a version is allowed.
use Rattle.std.proofs.Common.{◌≡◌, ℕ, ◌+◌, [], refl, subst, Option, Some, None, Bool, true, false, if◌then◌else◌, eq-eqb}
use Rattle.std.specs.Prelude.{◌==◌, ◌&&◌, ◌||◌}
use Rattle.std.proofs.lemmas.Bool.{and_from, or_left, or_right}
use Rattle.ld_history.specs.declared.limits.Limits.{Limits}
use Rattle.ld_history.specs.declared.answers.PinAnswer.{PinAnswer}
use Rattle.ld_history.specs.declared.answers.PinAnswer.TheVariants as pin_answer
use Rattle.ld_history.specs.declared.event.Event.TheVariants as event
use Rattle.ld_history.specs.declared.session.Session.{Session}
use Rattle.ld_history.specs.Store.{Store}
use Rattle.ld_history.specs.Words.{at_number, is_some_and, is_idle, history_has_room}
use Rattle.ld_history.specs.Rules.{may_pin, may_pin_again, begins, goes_on}
use Rattle.ld_history.specs.Legal.{History, state, Entries}
use Rattle.ld_history.specs.ByTurns.{allows, IsKept}
use Rattle.ld_history.specs.Steps.{Taken, plain, taken, where_, of_found, of_session, pinned, pinning_first, pinning}
use Rattle.ld_history.specs.Choices.{answer_of}

module _ (limits : Limits) (store : Store) (session request attempt version : ℕ) where
  abbrev Pins : Session → Bool
  Pins s = (version == store.version) && (begins limits store request attempt s || goes_on store request attempt s)

  abbrev Answered : Option (Taken PinAnswer) → Type 0
  Answered step = answer_of step ≡ Some (pin_answer.Pinned request attempt version)

  first : (s : Session) → is_idle s.last ≡ true → (room : Bool) → history_has_room limits store ≡ room
      → Answered (Some (if room then pinned store session (s.request + 1) 1 else taken (pin_answer.HistoryFull store.events) [])) → Pins s ≡ true
  first s idle true room e =
      let next : request ≡ s.request + 1 = cc in
      let one : attempt ≡ 1 = cc in
      let now : version ≡ store.version = cc in
      and_from _ _ (eq-eqb version store.version now) (or_left _ _ (and_from _ _ (and_from _ _ (and_from _ _ idle (eq-eqb request (s.request + 1) next)) (eq-eqb attempt 1 one)) room))
  first s idle false room e = cc

  again : (s : Session) (may : Bool) → may_pin_again store s.last ≡ may → Answered (where_ may (pinned store session s.request (s.attempt + 1))) → Pins s ≡ true
  again s true may e =
      let same : request ≡ s.request = cc in
      let next : attempt ≡ s.attempt + 1 = cc in
      let now : version ≡ store.version = cc in
      and_from _ _ (eq-eqb version store.version now) (or_right _ _ (and_from _ _ (and_from _ _ (eq-eqb request s.request same) (eq-eqb attempt (s.attempt + 1) next)) may))
  again s false may e = cc

  either : (s : Session) (idle : Bool) → is_idle s.last ≡ idle
      → Answered (if idle then Some (pinning_first limits store session s) else where_ (may_pin_again store s.last) (pinned store session s.request (s.attempt + 1))) → Pins s ≡ true
  either s true idle e = first s idle (history_has_room limits store) refl e
  either s false idle e = again s (may_pin_again store s.last) refl e

  found : (o : Option Session) → Answered (of_found (pinning limits store session) o) → is_some_and Pins o ≡ true
  found None e = cc
  found (Some s) e = either s (is_idle s.last) refl e

  may : Answered (of_session store session (pinning limits store session)) → may_pin limits store session request attempt version ≡ true
  may e = found (at_number store.sessions session) e

pub pin_allowed : (limits : Limits) (entries : Entries) (store : Store) (h : History) (session request attempt version : ℕ) → IsKept limits entries store → record { limits = limits; entries = entries } ≡ h
    → Answered limits store session request attempt version (of_session store session (pinning limits store session))
    → allows h.limits (state h.entries) (plain (event.Pinned session request attempt version)) ≡ true
pin_allowed limits entries store h session request attempt version kept view e =
    let over : may_pin limits (state entries) session request attempt version ≡ true = subst (λ (now : Store). may_pin limits now session request attempt version ≡ true) kept.replayed (may limits store session request attempt version e) in
    subst (λ (k : History). may_pin k.limits (state k.entries) session request attempt version ≡ true) view over
