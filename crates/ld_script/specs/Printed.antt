-- What a script prints.
use Rattle.std.specs.Prelude.{◌≡◌, ℕ, Option, Some, None, List, [], ◌∷◌, ◌++◌, length, codes, decimal}
use Rattle.std.specs.List.{flat_map}
use Rattle.std.specs.Option.{option_map}
use Rattle.ld_history.specs.declared.answers.OpenAnswer.{OpenAnswer}
use Rattle.ld_history.specs.declared.answers.OpenAnswer.TheVariants as open_answer
use Rattle.ld_history.specs.declared.answers.PinAnswer.{PinAnswer}
use Rattle.ld_history.specs.declared.answers.PinAnswer.TheVariants as pin_answer
use Rattle.ld_history.specs.declared.answers.LackAnswer.{LackAnswer}
use Rattle.ld_history.specs.declared.answers.LackAnswer.TheVariants as lack_answer
use Rattle.ld_history.specs.declared.answers.Out.{Out}
use Rattle.ld_history.specs.declared.answers.PublishAnswer.{PublishAnswer}
use Rattle.ld_history.specs.declared.answers.PublishAnswer.TheVariants as publish_answer
use Rattle.ld_history.specs.declared.answers.EvictAnswer.{EvictAnswer}
use Rattle.ld_history.specs.declared.answers.EvictAnswer.TheVariants as evict_answer
use Rattle.ld_history.specs.declared.answers.ReviseAnswer.{ReviseAnswer}
use Rattle.ld_history.specs.declared.answers.ReviseAnswer.TheVariants as revise_answer
use Rattle.ld_history.specs.declared.event.How.{How}
use Rattle.ld_history.specs.declared.limits.Limits.{Limits}
use Rattle.ld_history.specs.Words.{flight_at}
use Rattle.ld_history.specs.Legal.{History, state}
use Rattle.ld_history.specs.Steps.{Taken, grown, open_step, pin_step, lack_step, publish_step, fail_step, lapse_step, answer_step, evict_step, revise_step, close_step, outcome}
use Rattle.ld_script.specs.declared.line.Line.{Line}
use Rattle.ld_script.specs.declared.line.Line.TheVariants as line
use Rattle.ld_script.specs.Scripts.{IsScript}

-- ---- printed lines

-- words, and the numbers after them, each behind a space
abbrev pub numbered : List ℕ → List ℕ → List ℕ
numbered words numbers = words ++ flat_map (λ n. 32 ∷ decimal n) numbers

-- a line of these, with its line feed
abbrev pub said : List ℕ → List ℕ → List ℕ
said words numbers = numbered words numbers ++ 10 ∷ []

-- ---- what each answer prints

abbrev pub opened : OpenAnswer → List ℕ
opened (open_answer.Opened session) = said (codes "opened") (session ∷ [])
opened (open_answer.HistoryFull events) = said (codes "history full") (events ∷ [])

abbrev pub pinned : ℕ → PinAnswer → List ℕ
pinned session (pin_answer.Pinned request attempt version) = said (codes "pinned") (session ∷ request ∷ attempt ∷ version ∷ [])
pinned session (pin_answer.HistoryFull events) = said (codes "history full") (events ∷ [])

abbrev pub went_out : List ℕ → ℕ → List ℕ
went_out iri version = said (codes "evicted " ++ iri) (version ∷ [])

-- the line of the context that went out, where one did
abbrev pub made_place : Option Out → List ℕ
made_place None = []
made_place (Some out) = went_out out.iri out.version

abbrev pub lacked : ℕ → LackAnswer → List ℕ
lacked session (lack_answer.TooMany held) = said (codes "too many") (held ∷ [])
lacked session lack_answer.There = said (codes "found") (session ∷ [])
lacked session (lack_answer.Joined flight) = said (codes "joined") (session ∷ flight ∷ [])
lacked session lack_answer.StoreFull = said (codes "store full") []
lacked session (lack_answer.ArchiveFull bytes) = said (codes "archive full") (bytes ∷ [])
lacked session (lack_answer.Led flight out) = made_place out ++ said (codes "led") (session ∷ flight ∷ [])

abbrev pub published : ℕ → PublishAnswer → List ℕ
published flight (publish_answer.Published version) = said (codes "published") (flight ∷ version ∷ [])
published flight publish_answer.Same = said (codes "same") (flight ∷ [])

abbrev pub evicted : List ℕ → EvictAnswer → List ℕ
evicted iri (evict_answer.Evicted version) = went_out iri version
evicted iri (evict_answer.NotStored version) = said (codes "not stored") (version ∷ [])
evicted iri (evict_answer.Held session) = said (codes "held") (session ∷ [])
evicted iri (evict_answer.Revising flight) = said (codes "revising") (flight ∷ [])

abbrev pub revised : ℕ → ReviseAnswer → List ℕ
revised session (revise_answer.Led flight) = said (codes "revising") (session ∷ flight ∷ [])
revised session (revise_answer.NotStored version) = said (codes "not stored") (version ∷ [])
revised session (revise_answer.Flying flight) = said (codes "flying") (flight ∷ [])
revised session (revise_answer.ArchiveFull bytes) = said (codes "archive full") (bytes ∷ [])

-- ---- steps

-- the line of a step that isn't allowed
abbrev pub not_allowed : List ℕ
not_allowed = said (codes "not allowed") []

-- what a line prints, and the history after it
pub record Step : Type 0 where
  pub printed : List ℕ
  pub after : History

-- what a step prints
abbrev pub printed_of : {A : Type 0} → (A → List ℕ) → Option (Taken A) → List ℕ
printed_of print None = not_allowed
printed_of print (Some step) = print step.answer

abbrev pub stepped : {A : Type 0} → History → (A → List ℕ) → Option (Taken A) → Step
stepped history print step = record { printed = printed_of print step; after = grown history step }

-- the IRI of the flight of this number
abbrev pub iri_of : History → ℕ → Option (List ℕ)
iri_of history flight = option_map (λ f. f.iri) (flight_at (state history.entries).flights flight)

-- publish with an answer at the flight's IRI
abbrev pub give_at : History → ℕ → ℕ → List ℕ → Option (List ℕ) → Option (Taken PublishAnswer)
give_at history flight length mark None = None
give_at history flight length mark (Some iri) = publish_step history flight (record { url = iri; length = length; mark = mark })

abbrev pub give_step : History → ℕ → ℕ → List ℕ → Option (Taken PublishAnswer)
give_step history flight length mark = give_at history flight length mark (iri_of history flight)

-- answer as the request ends by itself
abbrev pub answer_as : History → ℕ → Option (How (List ℕ)) → Option (Taken ℕ)
answer_as history session None = None
answer_as history session (Some how) = answer_step history session how

abbrev pub answer_self_step : History → ℕ → Option (Taken ℕ)
answer_self_step history session = answer_as history session (outcome history session)

abbrev pub step_of : Line → History → Step
step_of (line.Open seat) history = stepped history opened (open_step history seat)
step_of (line.Pin session) history = stepped history (pinned session) (pin_step history session)
step_of (line.Lack session iri) history = stepped history (lacked session) (lack_step history session iri)
step_of (line.Give flight length mark) history = stepped history (published flight) (give_step history flight length mark)
step_of (line.Fail flight before after) history = stepped history (λ _. said (codes "failed") (flight ∷ [])) (fail_step history flight before after)
step_of (line.Lapse flight) history = stepped history (λ _. said (codes "lapsed") (flight ∷ [])) (lapse_step history flight)
step_of (line.Evict session iri) history = stepped history (evicted iri) (evict_step history session iri)
step_of (line.Revise session iri) history = stepped history (revised session) (revise_step history session iri)
step_of (line.Answer session) history = stepped history (λ request. said (codes "answered") (session ∷ request ∷ [])) (answer_self_step history session)
step_of (line.Close session) history = stepped history (λ _. said (codes "closed") (session ∷ [])) (close_step history session)

-- ---- whole scripts

-- the last line
abbrev pub summary : History → List ℕ
summary history = numbered (codes "version") ((state history.entries).version ∷ []) ++ said (codes " events") (length history.entries ∷ [])

-- what lines print after this history
abbrev pub printed_after : History → List Line → List ℕ
printed_after history [] = summary history
printed_after history (line ∷ lines) =
    let step : Step = step_of line history in
    step.printed ++ printed_after step.after lines

-- what a script prints
abbrev pub printed : Limits → List Line → List ℕ
printed limits lines = printed_after (record { limits = limits; entries = [] }) lines

-- the text is a script, and this is what it prints
pub record IsOutput (text out : List ℕ) : Type 0 where
  pub limits : Limits
  pub lines : List Line
  pub script : IsScript text limits lines
  pub is : out ≡ printed limits lines
