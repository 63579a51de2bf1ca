-- The steps that sessions and flights take: what each answers, and which entries it appends. A step
-- that isn't allowed is None.
use Rattle.std.specs.Prelude.{◌≡◌, ℕ, ◌+◌, ◌==◌, nat_le, nat_lt, Bool, not, ◌&&◌, if◌then◌else◌, List, [], ◌∷◌, ◌++◌, length, Option, Some, None}
use Rattle.std.specs.List.{find}
use Rattle.std.specs.Option.{option_map}
use Rattle.ld_history.specs.declared.answers.OpenAnswer.{OpenAnswer}
use Rattle.ld_history.specs.declared.answers.OpenAnswer.TheVariants as open_answer
use Rattle.ld_history.specs.declared.answers.PinAnswer.{PinAnswer}
use Rattle.ld_history.specs.declared.answers.PinAnswer.TheVariants as pin_answer
use Rattle.ld_history.specs.declared.answers.LackAnswer.{LackAnswer}
use Rattle.ld_history.specs.declared.answers.LackAnswer.TheVariants as lack_answer
use Rattle.ld_history.specs.declared.answers.Out.{Out}
use Rattle.ld_history.specs.declared.answers.PublishAnswer.{PublishAnswer}
use Rattle.ld_history.specs.declared.answers.PublishAnswer.TheVariants as publish_answer
use Rattle.ld_history.specs.declared.answers.EvictAnswer.{EvictAnswer}
use Rattle.ld_history.specs.declared.answers.EvictAnswer.TheVariants as evict_answer
use Rattle.ld_history.specs.declared.answers.ReviseAnswer.{ReviseAnswer}
use Rattle.ld_history.specs.declared.answers.ReviseAnswer.TheVariants as revise_answer
use Rattle.ld_history.specs.declared.limits.Limits.{Limits}
use Rattle.ld_history.specs.declared.event.Given.{Given}
use Rattle.ld_history.specs.declared.event.Event.{Event}
use Rattle.ld_history.specs.declared.event.Event.TheVariants as event
use Rattle.ld_history.specs.declared.event.How.{How}
use Rattle.ld_history.specs.declared.event.How.TheVariants as how
use Rattle.ld_history.specs.declared.event.Entry.{Entry}
use Rattle.ld_history.specs.declared.session.Session.{Session}
use Rattle.ld_history.specs.declared.session.Flight.{Flight}
use Rattle.ld_history.specs.declared.session.Flying.{Flying}
use Rattle.ld_history.specs.declared.session.Last.{Last}
use Rattle.ld_history.specs.declared.session.Last.TheVariants as last
use Rattle.ld_history.specs.declared.session.End.{End}
use Rattle.ld_history.specs.declared.session.End.TheVariants as end
use Rattle.ld_history.specs.Store.{Store}
use Rattle.ld_history.specs.Words.{at_number, at_iri, flight_at, is_idle, is_pinned, is_lead, is_under_way, is_stored, places, history_has_room, archive_has_room, least_holder, is_next_out, is_taken, is_stored_answer}
use Rattle.ld_history.specs.Rules.{Had, end_of, may_pin_again, may_fail, may_lapse, may_answer, may_close, is_full}
use Rattle.ld_history.specs.Legal.{History, state, is_in_stock}

-- what an allowed step answers, and the entries that it appends
pub record Taken (A : Type 0) : Type 0 where
  pub answer : A
  pub entries : List (Entry (List ℕ) Given)

-- this is what the step answers
abbrev pub Answers : {A : Type 0} → Option (Taken A) → A → Type 0
Answers step answer = option_map (λ t. t.answer) step ≡ Some answer

abbrev pub appended : {A : Type 0} → Option (Taken A) → List (Entry (List ℕ) Given)
appended None = []
appended (Some t) = t.entries

-- the history after the step
abbrev pub grown : {A : Type 0} → History → Option (Taken A) → History
grown history step = record history { entries = history.entries ++ appended step }

-- an entry without a flight's answer
abbrev pub plain : Event (List ℕ) → Entry (List ℕ) Given
plain event = record { event = event; given = None }

abbrev pub taken : {A : Type 0} → A → List (Entry (List ℕ) Given) → Taken A
taken answer entries = record { answer = answer; entries = entries }

-- the step, where this holds
abbrev pub where_ : {A : Type 0} → Bool → Taken A → Option (Taken A)
where_ condition step = if condition then Some step else None

-- the step of an open session
abbrev pub of_found : {A : Type 0} → (Session → Option A) → Option Session → Option A
of_found step None = None
of_found step (Some s) = step s

abbrev pub of_session : {A : Type 0} → Store → ℕ → (Session → Option A) → Option A
of_session store session step = of_found step (at_number store.sessions session)

-- the step ends the session's request with this refusal
abbrev pub ending : {A : Type 0} → ℕ → Session → A → How (List ℕ) → Taken A
ending session s answer how = taken answer (plain (event.Answered session s.request how) ∷ [])

-- ---- open a session: the seat is below 256 and free

abbrev pub opening : Limits → Store → ℕ → Taken OpenAnswer
opening limits store seat =
    if history_has_room limits store
    then taken (open_answer.Opened (store.opened + 1)) (plain (event.Opened (store.opened + 1) seat) ∷ [])
    else taken (open_answer.HistoryFull store.events) []

abbrev pub open_step : History → ℕ → Option (Taken OpenAnswer)
open_step history seat =
    let store : Store = state history.entries in
    where_ (nat_lt seat 256 && not (is_taken store seat)) (opening history.limits store seat)

-- ---- pin: the session is open, and its request ended or may go on to another attempt

abbrev pub pinned : Store → ℕ → ℕ → ℕ → Taken PinAnswer
pinned store session request attempt =
    taken (pin_answer.Pinned request attempt store.version) (plain (event.Pinned session request attempt store.version) ∷ [])

-- the first attempt of the session's next request
abbrev pub pinning_first : Limits → Store → ℕ → Session → Taken PinAnswer
pinning_first limits store session s =
    if history_has_room limits store then pinned store session (s.request + 1) 1 else taken (pin_answer.HistoryFull store.events) []

abbrev pub pinning : Limits → Store → ℕ → Session → Option (Taken PinAnswer)
pinning limits store session s =
    if is_idle s.last then Some (pinning_first limits store session s)
    else where_ (may_pin_again store s.last) (pinned store session s.request (s.attempt + 1))

abbrev pub pin_step : History → ℕ → Option (Taken PinAnswer)
pin_step history session =
    let store : Store = state history.entries in
    of_session store session (pinning history.limits store session)

-- ---- lack: the last own event is Pinned, at a version without the IRI, which has at most 2,048 bytes

-- the stored IRI that goes out next
abbrev pub next_out : Store → Option (List ℕ)
next_out store = option_map (λ e. e.0) (find (λ e. is_next_out store e.0) store.stored)

-- the next flight, led by the session for the IRI
abbrev pub led : Store → ℕ → List ℕ → Event (List ℕ)
led store session iri = event.Led session iri (length store.flights + 1)

-- a place is made first, where there is none
abbrev pub led_for : Store → ℕ → List ℕ → List ℕ → Taken LackAnswer
led_for store session iri out =
    taken (lack_answer.Led (length store.flights + 1) (Some (record { iri = out; version = store.version + 1 })))
    (plain (event.Evicted session out (store.version + 1)) ∷ plain (led store session iri) ∷ [])

abbrev pub led_after : Store → ℕ → List ℕ → Option (List ℕ) → Option (Taken LackAnswer)
led_after store session iri None = None
led_after store session iri (Some out) = Some (led_for store session iri out)

-- the IRI is neither stored nor in a Lead flight under way
abbrev pub leading : Limits → Store → ℕ → List ℕ → Session → Option (Taken LackAnswer)
leading limits store session iri s =
    if is_full limits store then Some (ending session s lack_answer.StoreFull how.StoreFull)
    else if not (archive_has_room limits store) then Some (ending session s (lack_answer.ArchiveFull store.bytes) (how.ArchiveFull store.bytes))
    else if places store == limits.contexts then led_after store session iri (next_out store)
    else Some (taken (lack_answer.Led (length store.flights + 1) None) (plain (led store session iri) ∷ []))

abbrev pub joining : Limits → Store → ℕ → List ℕ → Session → Option Flying → Option (Taken LackAnswer)
joining limits store session iri s None = leading limits store session iri s
joining limits store session iri s (Some lead) = Some (taken (lack_answer.Joined lead.flight) (plain (event.Joined session iri lead.flight) ∷ []))

abbrev pub missing : Limits → Store → ℕ → List ℕ → Session → Option (Taken LackAnswer)
missing limits store session iri s =
    if not (nat_lt (length s.held) limits.held) then Some (ending session s (lack_answer.TooMany (length s.held)) (how.TooMany iri))
    else if is_stored store iri then Some (taken lack_answer.There (plain (event.Found session iri) ∷ []))
    else joining limits store session iri s (at_iri store.leads iri)

abbrev pub may_lack : Had → List ℕ → Session → Bool
may_lack had iri s = is_pinned s.last && not (had iri s.version) && nat_le (length iri) 2048

-- the step of a lack, in a state
abbrev pub lack_taken : Had → Limits → Store → ℕ → List ℕ → Option (Taken LackAnswer)
lack_taken had limits store session iri = of_session store session (λ s. if may_lack had iri s then missing limits store session iri s else None)

abbrev pub lack_step : History → ℕ → List ℕ → Option (Taken LackAnswer)
lack_step history session iri = lack_taken (is_in_stock history.entries) history.limits (state history.entries) session iri

-- what goes out of the store for the answer
abbrev pub out_for : LackAnswer → Option Out
out_for (lack_answer.Led flight out) = out
out_for _ = None

-- what goes out of the store at the step, if it is allowed
abbrev pub out_at : Option (Taken LackAnswer) → Option Out
out_at None = None
out_at (Some t) = out_for t.answer

-- ---- publish: the flight is under way, and the answer's length is at most 1,048,577

abbrev pub publishing : Store → ℕ → Given → Flight → Taken PublishAnswer
publishing store flight given f =
    if not (is_lead f.kind) && is_stored_answer store f.iri given
    then taken publish_answer.Same (record { event = event.Same flight; given = Some given } ∷ [])
    else taken (publish_answer.Published (store.version + 1)) (record { event = event.Published flight (store.version + 1); given = Some given } ∷ [])

abbrev pub publish_found : Store → ℕ → Given → Option Flight → Option (Taken PublishAnswer)
publish_found store flight given None = None
publish_found store flight given (Some f) = where_ (is_under_way f.end && nat_le given.length 1048577) (publishing store flight given f)

abbrev pub publish_step : History → ℕ → Given → Option (Taken PublishAnswer)
publish_step history flight given =
    let store : Store = state history.entries in
    publish_found store flight given (flight_at store.flights flight)

-- ---- fail and lapse: the rules allow the event

abbrev pub fail_step : History → ℕ → ℕ → ℕ → Option (Taken (Unit {0}))
fail_step history flight before after =
    where_ (may_fail (state history.entries) flight before after) (taken tt (plain (event.Failed flight before after) ∷ []))

abbrev pub lapse_step : History → ℕ → Option (Taken (Unit {0}))
lapse_step history flight = where_ (may_lapse (state history.entries) flight) (taken tt (plain (event.Lapsed flight) ∷ []))

-- ---- answer: the rules allow that the request is answered so. The step answers the request's number.

-- the step of an answer, in a state
abbrev pub answer_taken : Had → Limits → Store → ℕ → How (List ℕ) → Option (Taken ℕ)
answer_taken had limits store session how = of_session store session (λ s. where_ (may_answer had limits store session s.request how) (ending session s s.request how))

abbrev pub answer_step : History → ℕ → How (List ℕ) → Option (Taken ℕ)
answer_step history session how = answer_taken (is_in_stock history.entries) history.limits (state history.entries) session how

-- ---- evict: the last own event is Pinned. Whatever it answers, the request is answered.

abbrev pub evicting : Store → ℕ → List ℕ → Session → Taken EvictAnswer
evicting store session iri s =
    taken (evict_answer.Evicted (store.version + 1))
    (plain (event.Evicted session iri (store.version + 1)) ∷ plain (event.Answered session s.request (how.Evicted (store.version + 1))) ∷ [])

abbrev pub evicting_unrevised : Store → ℕ → List ℕ → Session → Option Flying → Taken EvictAnswer
evicting_unrevised store session iri s None = evicting store session iri s
evicting_unrevised store session iri s (Some revision) = ending session s (evict_answer.Revising revision.flight) (how.Revising revision.flight)

abbrev pub evicting_unheld : Store → ℕ → List ℕ → Session → Option ℕ → Taken EvictAnswer
evicting_unheld store session iri s None = evicting_unrevised store session iri s (at_iri store.revisions iri)
evicting_unheld store session iri s (Some holder) = ending session s (evict_answer.Held holder) (how.Held holder)

abbrev pub evicting_stored : Store → ℕ → List ℕ → Session → Taken EvictAnswer
evicting_stored store session iri s =
    if is_stored store iri then evicting_unheld store session iri s (least_holder store iri)
    else ending session s (evict_answer.NotStored store.version) (how.NotStored store.version)

abbrev pub evict_step : History → ℕ → List ℕ → Option (Taken EvictAnswer)
evict_step history session iri =
    let store : Store = state history.entries in
    of_session store session (λ s. where_ (is_pinned s.last) (evicting_stored store session iri s))

-- ---- revise: the last own event is Pinned. Whatever it refuses, the request is answered.

abbrev pub revising : Limits → Store → ℕ → List ℕ → Session → Taken ReviseAnswer
revising limits store session iri s =
    if archive_has_room limits store
    then taken (revise_answer.Led (length store.flights + 1)) (plain (event.ReviseLed session iri (length store.flights + 1)) ∷ [])
    else ending session s (revise_answer.ArchiveFull store.bytes) (how.ArchiveFull store.bytes)

abbrev pub revising_unrevised : Limits → Store → ℕ → List ℕ → Session → Option Flying → Taken ReviseAnswer
revising_unrevised limits store session iri s None = revising limits store session iri s
revising_unrevised limits store session iri s (Some revision) = ending session s (revise_answer.Flying revision.flight) (how.Flying revision.flight)

abbrev pub revising_stored : Limits → Store → ℕ → List ℕ → Session → Taken ReviseAnswer
revising_stored limits store session iri s =
    if is_stored store iri then revising_unrevised limits store session iri s (at_iri store.revisions iri)
    else ending session s (revise_answer.NotStored store.version) (how.NotStored store.version)

abbrev pub revise_step : History → ℕ → List ℕ → Option (Taken ReviseAnswer)
revise_step history session iri =
    let store : Store = state history.entries in
    of_session store session (λ s. where_ (is_pinned s.last) (revising_stored history.limits store session iri s))

-- ---- close a session: it is open and has no request under way

abbrev pub close_step : History → ℕ → Option (Taken (Unit {0}))
close_step history session = where_ (may_close (state history.entries) session) (taken tt (plain (event.Closed session) ∷ []))

-- ---- how a request ends by itself, where it has nothing more to do

abbrev pub load_outcome : ℕ → Option End → Option (How (List ℕ))
load_outcome flight (Some (end.Failed before after)) = Some (how.LoadFault flight)
load_outcome flight (Some end.Lapsed) = Some how.NoMemory
load_outcome flight _ = None

abbrev pub revision_outcome : ℕ → Option End → Option (How (List ℕ))
revision_outcome flight (Some (end.Published version)) = Some (how.Revised version)
revision_outcome flight (Some end.Same) = Some how.Same
revision_outcome flight (Some (end.Failed before after)) = Some (how.LoadFault flight)
revision_outcome flight (Some end.Lapsed) = Some how.NoMemory
revision_outcome flight _ = None

abbrev pub outcome_of : Store → Last → Option (How (List ℕ))
outcome_of store last.Pinned = Some how.Done
outcome_of store (last.Led flight) = load_outcome flight (end_of store flight)
outcome_of store (last.Joined flight) = load_outcome flight (end_of store flight)
outcome_of store (last.Evicted version) = Some (how.Evicted version)
outcome_of store (last.ReviseLed flight) = revision_outcome flight (end_of store flight)
outcome_of store _ = None

abbrev pub outcome : History → ℕ → Option (How (List ℕ))
outcome history session =
    let store : Store = state history.entries in
    of_session store session (λ s. outcome_of store s.last)
