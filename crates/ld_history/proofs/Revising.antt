-- What a revision answers is allowed, and is all that its step appends.
use Rattle.std.proofs.Common.{◌≡◌, ℕ, List, [], ◌∷◌, refl, sym, ap, ◌∙◌, subst, Option, Some, None, Bool, true, false, if◌then◌else◌, eq-eqb, length, ◌+◌}
use Rattle.std.specs.Prelude.{is_some}
use Rattle.std.proofs.lemmas.Bool.{and_from, not_from_false}
use Rattle.ld_history.specs.declared.limits.Limits.{Limits}
use Rattle.ld_history.specs.declared.answers.ReviseAnswer.{ReviseAnswer}
use Rattle.ld_history.specs.declared.answers.ReviseAnswer.TheVariants as revise_answer
use Rattle.ld_history.specs.declared.event.Event.TheVariants as event
use Rattle.ld_history.specs.declared.event.How.TheVariants as how
use Rattle.ld_history.specs.declared.session.Session.{Session}
use Rattle.ld_history.specs.declared.session.Flying.{Flying}
use Rattle.ld_history.specs.declared.session.Kind.TheVariants as kind
use Rattle.ld_history.specs.Store.{Store}
use Rattle.ld_history.specs.Words.{at_number, at_iri, is_some_and, is_pinned, is_stored, is_led, is_revised, archive_has_room}
use Rattle.ld_history.specs.Rules.{has_pinned, may_revise, is_revising}
use Rattle.ld_history.specs.Legal.{History, state, Entries}
use Rattle.ld_history.specs.ByTurns.{allows, allows_alone, Legal, IsKept}
use Rattle.ld_history.specs.Steps.{Taken, plain, taken, where_, of_found, ending, revising, revising_unrevised, revising_stored, revise_step}
use Rattle.ld_history.specs.Choices.{pinned_request, revise_event}
use Rattle.ld_history.proofs.LawSound.{sound}
use Rattle.ld_history.proofs.Pinned.{pinned_may_answer}

module _ (limits : Limits) (store : Store) (session : ℕ) (iri : List ℕ) (s : Session) where
  -- the flight is led, the archive is full, and nothing is stored
  abbrev leads : Taken ReviseAnswer
  leads = taken (revise_answer.Led (length store.flights + 1)) (plain (event.ReviseLed session iri (length store.flights + 1)) ∷ [])

  abbrev full : Taken ReviseAnswer
  full = ending session s (revise_answer.ArchiveFull store.bytes) (how.ArchiveFull store.bytes)

  abbrev absent : Taken ReviseAnswer
  absent = ending session s (revise_answer.NotStored store.version) (how.NotStored store.version)

-- ---- the entry follows from the answer
module _ (limits : Limits) (store : Store) (session : ℕ) (iri : List ℕ) (s : Session) where
  abbrev Tells : Taken ReviseAnswer → Type 0
  Tells t = t ≡ taken t.answer (plain (revise_event session s.request iri t.answer) ∷ [])

  tells-room : Tells (revising limits store session iri s)
  tells-room = elim (archive_has_room limits store) as (λ room. Tells (if room then leads limits store session iri s else full limits store session iri s)) [ true ↦ refl | false ↦ refl ]

  tells-unrevised : (revision : Option Flying) → Tells (revising_unrevised limits store session iri s revision)
  tells-unrevised None = tells-room
  tells-unrevised (Some revision) = refl

  pub revising_tells : Tells (revising_stored limits store session iri s)
  revising_tells = elim (is_stored store iri) as (λ stored. Tells (if stored then revising_unrevised limits store session iri s (at_iri store.revisions iri) else absent limits store session iri s)) [ true ↦ tells-unrevised (at_iri store.revisions iri) | false ↦ refl ]

-- ---- and the rules allow it
module _ (limits : Limits) (entries : Entries) (session : ℕ) (iri : List ℕ) (s : Session) (legal : Legal limits entries)
    (is : at_number (state entries).sessions session ≡ Some s) (pinned : is_pinned s.last ≡ true) where
  abbrev Allowed : Taken ReviseAnswer → Type 0
  Allowed t = allows_alone limits (state entries) (revise_event session s.request iri t.answer) ≡ true

  revised : (revision : Flying) → at_iri (state entries).revisions iri ≡ Some revision → is_revising (state entries) revision.flight ≡ true
  revised revision there = ap (is_some_and _) ((sound limits entries legal).air.flights.listed kind.Revise iri revision there)

  unled : is_stored (state entries) iri ≡ true → (lead : Option Flying) → at_iri (state entries).leads iri ≡ lead → is_some lead ≡ false
  unled stored None is_lead = refl
  unled stored (Some lead) is_lead = let new : is_stored (state entries) iri ≡ false = (sound limits entries legal).air.flights.sides kind.Lead iri lead is_lead in cc

  allowed-led : is_stored (state entries) iri ≡ true → is_revised (state entries) iri ≡ false → archive_has_room limits (state entries) ≡ true
      → may_revise limits (state entries) session iri (length (state entries).flights + 1) ≡ true
  allowed-led stored free room =
      let not_led : is_led (state entries) iri ≡ false = unled stored (at_iri (state entries).leads iri) refl in
      let at : has_pinned (state entries) session ≡ true = ap (is_some_and _) is ∙ pinned in
      and_from _ _ (and_from _ _ (and_from _ _ (and_from _ _ (and_from _ _ at stored) (not_from_false _ not_led)) (not_from_false _ free)) room) (eq-eqb (length (state entries).flights + 1) (length (state entries).flights + 1) refl)

  allowed-room : is_stored (state entries) iri ≡ true → is_revised (state entries) iri ≡ false → (room : Bool) → archive_has_room limits (state entries) ≡ room → Allowed (if room then leads limits (state entries) session iri s else full limits (state entries) session iri s)
  allowed-room stored free true is_room = allowed-led stored free is_room
  allowed-room stored free false is_room = pinned_may_answer limits entries session s legal is pinned (how.ArchiveFull (state entries).bytes)
      (and_from _ _ (and_from _ _ pinned (not_from_false _ is_room)) (eq-eqb (state entries).bytes (state entries).bytes refl))

  allowed-unrevised : is_stored (state entries) iri ≡ true → (revision : Option Flying) → at_iri (state entries).revisions iri ≡ revision → Allowed (revising_unrevised limits (state entries) session iri s revision)
  allowed-unrevised stored None none = allowed-room stored (ap is_some none) (archive_has_room limits (state entries)) refl
  allowed-unrevised stored (Some revision) there = pinned_may_answer limits entries session s legal is pinned (how.Flying revision.flight) (and_from _ _ pinned (revised revision there))

  allowed-stored : (stored : Bool) → is_stored (state entries) iri ≡ stored → Allowed (if stored then revising_unrevised limits (state entries) session iri s (at_iri (state entries).revisions iri) else absent limits (state entries) session iri s)
  allowed-stored true is_stored_now = allowed-unrevised is_stored_now (at_iri (state entries).revisions iri) refl
  allowed-stored false gone = pinned_may_answer limits entries session s legal is pinned (how.NotStored (state entries).version) (and_from _ _ pinned (eq-eqb (state entries).version (state entries).version refl))

  pub revising_allowed : Allowed (revising_stored limits (state entries) session iri s)
  revising_allowed = allowed-stored (is_stored (state entries) iri) refl

-- ---- the same from what the code knows
record Asked (store : Store) (session : ℕ) (request : ℕ) : Type 0 where
  s : Session
  is : at_number store.sessions session ≡ Some s
  pinned : is_pinned s.last ≡ true
  same : s.request ≡ request

asked : (store : Store) (session request : ℕ) → pinned_request store session ≡ Some request → Asked store session request
asked store session request h = found (at_number store.sessions session) refl h
  where
    held : (s : Session) (pinned : Bool) → is_pinned s.last ≡ pinned → at_number store.sessions session ≡ Some s → (if pinned then Some s.request else None) ≡ Some request → Asked store session request
    held s true pinned is e = record { s = s; is = is; pinned = pinned; same = cc }
    held s false pinned is e = cc

    found : (o : Option Session) → at_number store.sessions session ≡ o → of_found (λ s. if is_pinned s.last then Some s.request else None) o ≡ Some request → Asked store session request
    found None is e = cc
    found (Some s) is e = held s (is_pinned s.last) refl is e

abbrev Chosen : Limits → Store → List ℕ → ReviseAnswer → Type 0
Chosen limits store iri answer = (session : ℕ) (s : Session) → answer ≡ (revising_stored limits store session iri s).answer

module _ (limits : Limits) (entries : Entries) (session request : ℕ) (iri : List ℕ) (answer : ReviseAnswer) where
  allowed : Legal limits entries → pinned_request (state entries) session ≡ Some request → Chosen limits (state entries) iri answer
      → allows_alone limits (state entries) (revise_event session request iri answer) ≡ true
  allowed legal h choice =
      let a = asked (state entries) session request h in
      ap (λ r. allows_alone limits (state entries) (revise_event session r iri answer)) (sym a.same)
      ∙ ap (λ chosen. allows_alone limits (state entries) (revise_event session a.s.request iri chosen)) (choice session a.s)
      ∙ revising_allowed limits entries session iri a.s legal a.is a.pinned

  is_taken : pinned_request (state entries) session ≡ Some request → Chosen limits (state entries) iri answer
      → revise_step (record { limits = limits; entries = entries }) session iri ≡ Some (taken answer (plain (revise_event session request iri answer) ∷ []))
  is_taken h choice =
      let a = asked (state entries) session request h in
      ap (of_found (λ s. where_ (is_pinned s.last) (revising_stored limits (state entries) session iri s))) a.is
      ∙ ap (λ pinned. where_ pinned (revising_stored limits (state entries) session iri a.s)) a.pinned
      ∙ ap Some (revising_tells limits (state entries) session iri a.s)
      ∙ ap (λ chosen. Some (taken chosen (plain (revise_event session a.s.request iri chosen) ∷ []))) (sym (choice session a.s))
      ∙ ap (λ r. Some (taken answer (plain (revise_event session r iri answer) ∷ []))) a.same

  module _ (store : Store) (h : History) (kept : IsKept limits entries store) (view : record { limits = limits; entries = entries } ≡ h) where
    pub revise_allowed : pinned_request store session ≡ Some request → Chosen limits store iri answer → allows h.limits (state h.entries) (plain (revise_event session request iri answer)) ≡ true
    revise_allowed =
        subst (λ (now : Store). pinned_request now session ≡ Some request → Chosen limits now iri answer → allows h.limits (state h.entries) (plain (revise_event session request iri answer)) ≡ true) (sym kept.replayed)
        (λ request_is choice. subst (λ (k : History). allows k.limits (state k.entries) (plain (revise_event session request iri answer)) ≡ true) view (allowed kept.legal request_is choice))

    pub revise_taken : pinned_request store session ≡ Some request → Chosen limits store iri answer → revise_step h session iri ≡ Some (taken answer (plain (revise_event session request iri answer) ∷ []))
    revise_taken =
        subst (λ (now : Store). pinned_request now session ≡ Some request → Chosen limits now iri answer → revise_step h session iri ≡ Some (taken answer (plain (revise_event session request iri answer) ∷ []))) (sym kept.replayed)
        (λ request_is choice. subst (λ (k : History). revise_step k session iri ≡ Some (taken answer (plain (revise_event session request iri answer) ∷ []))) view (is_taken request_is choice))
