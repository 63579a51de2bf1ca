-- What the code asks of the tables before it appends a step's entry.
use Rattle.std.specs.Prelude.{◌≡◌, ℕ, ◌+◌, ◌^◌, ◌<◌, false, List, length, Option, Some, None, if◌then◌else◌}
use Rattle.std.specs.Option.{option_map}
use Rattle.ld_history.specs.declared.answers.ReviseAnswer.{ReviseAnswer}
use Rattle.ld_history.specs.declared.answers.ReviseAnswer.TheVariants as revise_answer
use Rattle.ld_history.specs.declared.event.Event.{Event}
use Rattle.ld_history.specs.declared.event.Event.TheVariants as event
use Rattle.ld_history.specs.declared.event.How.TheVariants as how
use Rattle.ld_history.specs.declared.session.Session.{Session}
use Rattle.ld_history.specs.Store.{Store}
use Rattle.ld_history.specs.Words.{at_number, is_idle, is_pinned}
use Rattle.ld_history.specs.Steps.{Taken, of_session}

-- The next numbers of a version, a session, a flight, a request and an attempt fit their types. They do
-- after every legal history under the server's limits.
pub record CanCount (store : Store) : Type 0 where
  pub version : store.version + 1 < 2 ^ 64
  pub opened : store.opened + 1 < 2 ^ 32
  pub flights : length store.flights + 1 < 2 ^ 32
  pub requests : (n : ℕ) (s : Session) → at_number store.sessions n ≡ Some s → s.request + 1 < 2 ^ 32
  -- while a request is under way
  pub attempts : (n : ℕ) (s : Session) → at_number store.sessions n ≡ Some s → is_idle s.last ≡ false → s.attempt + 1 < 2 ^ 32

-- what the step answers, if it is allowed
abbrev pub answer_of : {A : Type 0} → Option (Taken A) → Option A
answer_of step = option_map (λ t. t.answer) step

-- the session's request, where its last own event is Pinned
abbrev pub pinned_request : Store → ℕ → Option ℕ
pinned_request store session = of_session store session (λ s. if is_pinned s.last then Some s.request else None)

-- the event that a revision's answer stands for
abbrev pub revise_event : ℕ → ℕ → List ℕ → ReviseAnswer → Event (List ℕ)
revise_event session request iri (revise_answer.Led flight) = event.ReviseLed session iri flight
revise_event session request iri (revise_answer.NotStored version) = event.Answered session request (how.NotStored version)
revise_event session request iri (revise_answer.Flying flight) = event.Answered session request (how.Flying flight)
revise_event session request iri (revise_answer.ArchiveFull bytes) = event.Answered session request (how.ArchiveFull bytes)
