-- The rules as the code asks them: whether a version had an IRI it reads off the IRI's turns. Of each legal
-- history that is the version's stock.
use Rattle.std.specs.Prelude.{◌≡◌, ℕ, ◌%◌, ◌==◌, Bool, true, List, [], ◌∷◌, length, Option}
use Rattle.ld_history.specs.declared.limits.Limits.{Limits}
use Rattle.ld_history.specs.declared.event.Given.{Given}
use Rattle.ld_history.specs.declared.event.Event.{Event}
use Rattle.ld_history.specs.declared.event.How.{How}
use Rattle.ld_history.specs.declared.event.Entry.{Entry}
use Rattle.ld_history.specs.declared.answers.LackAnswer.{LackAnswer}
use Rattle.ld_history.specs.declared.session.Session.{Session}
use Rattle.ld_history.specs.Store.{Store, empty_store}
use Rattle.ld_history.specs.Turns.{turns_until}
use Rattle.ld_history.specs.Words.{at_iri, is_some_and}
use Rattle.ld_history.specs.Rules as rules
use Rattle.ld_history.specs.After.{after}
use Rattle.ld_history.specs.Legal.{Entries, state, AreWithin}
use Rattle.ld_history.specs.Steps as steps

-- An IRI is in a version exactly where an odd number of its turns came with it or before it.
abbrev pub was_stored : Store → List ℕ → ℕ → Bool
was_stored store iri version = is_some_and (λ turns. turns_until turns version % 2 == 1) (at_iri store.turns iri)

abbrev pub lacks : Limits → Store → List ℕ → Session → Bool
lacks limits store iri s = rules.lacks (was_stored store) limits iri s

abbrev pub may_find : Limits → Store → ℕ → List ℕ → Bool
may_find limits store session iri = rules.may_find (was_stored store) limits store session iri

abbrev pub may_lead : Limits → Store → ℕ → List ℕ → ℕ → Bool
may_lead limits store session iri flight = rules.may_lead (was_stored store) limits store session iri flight

abbrev pub may_join : Limits → Store → ℕ → List ℕ → ℕ → Bool
may_join limits store session iri flight = rules.may_join (was_stored store) limits store session iri flight

abbrev pub may_say : Limits → Store → Session → How (List ℕ) → Bool
may_say limits store s how = rules.may_say (was_stored store) limits store s how

abbrev pub may_answer : Limits → Store → ℕ → ℕ → How (List ℕ) → Bool
may_answer limits store session request how = rules.may_answer (was_stored store) limits store session request how

abbrev pub allows_alone : Limits → Store → Event (List ℕ) → Bool
allows_alone limits store event = rules.allows_alone (was_stored store) limits store event

abbrev pub allows_given : Limits → Store → Event (List ℕ) → Option Given → Bool
allows_given limits store event given = rules.allows_given (was_stored store) limits store event given

abbrev pub allows : Limits → Store → Entry (List ℕ) Given → Bool
allows limits store entry = rules.allows (was_stored store) limits store entry

abbrev pub may_lack : Store → List ℕ → Session → Bool
may_lack store iri s = steps.may_lack (was_stored store) iri s

-- the step of a lack, over a state
abbrev pub lack_found : Limits → Store → ℕ → List ℕ → Option (steps.Taken LackAnswer)
lack_found limits store session iri = steps.lack_taken (was_stored store) limits store session iri

-- each entry is allowed in the state of the entries before it
abbrev pub LegalFrom : Limits → Store → Entries → Type 0
LegalFrom limits store [] = Unit {0}
LegalFrom limits store (entry ∷ entries) = (allows limits store entry ≡ true) × LegalFrom limits (after store entry) entries

abbrev pub Legal : Limits → Entries → Type 0
Legal limits entries = LegalFrom limits empty_store entries

-- what a `State` keeps beside its history: the state after it
pub record IsKept (limits : Limits) (entries : Entries) (store : Store) : Type 0 where
  pub within : AreWithin limits
  pub legal : Legal limits entries
  pub replayed : store ≡ state entries
  pub counted : store.events ≡ length entries
