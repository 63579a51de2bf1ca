-- When a session may pin, and how its request may be answered, by what it has seen. It stays so until its next turn.
use Rattle.std.specs.Prelude.{◌≡◌, ◌⊎◌, ◌≤◌, ℕ, List, length, Some, false}
use Rattle.ld_flight.specs.Passes.{Flight}
use Rattle.ld_history.specs.Legal.{is_in_stock, state}
use Rattle.ld_history.specs.Rules.{end_of}
use Rattle.ld_history.specs.Words.{is_under_way}
use Rattle.ld_history.specs.declared.event.How.{How}
use Rattle.ld_history.specs.declared.event.How.TheVariants as how
use Rattle.ld_history.specs.declared.session.End.{End}
use Rattle.ld_history.specs.declared.session.End.TheVariants as end
use Rattle.ld_history.specs.declared.session.Kind.{Kind}
use Rattle.ld_history.specs.declared.session.Last.TheVariants as last
use Rattle.ld_book.specs.Pages.{Pages, entries_of}
use Rattle.ld_moves.specs.Standing.{HasPinned, IsFlightAt, Stands}
use Rattle.ld_moves.specs.Moving.{version_in}

-- the flight ended so
abbrev pub Ended : Pages → ℕ → End → Type 0
Ended pages flight how = end_of (state (entries_of pages)) flight ≡ Some how

-- the session waits for a context that it lacks: it led this flight, or joined it
abbrev pub IsLoading : Pages → ℕ → ℕ → Type 0
IsLoading pages session flight = Stands pages session (last.Led flight) ⊎ Stands pages session (last.Joined flight)

-- it waits for this flight, for a context that it lacks or that it revises
abbrev pub Awaits : Pages → ℕ → ℕ → Type 0
Awaits pages session flight = IsLoading pages session flight ⊎ Stands pages session (last.ReviseLed flight)

-- the context that it waited for came into the store
pub record HasCome (pages : Pages) (session : ℕ) : Type 0 where
  pub flight : ℕ
  pub version : ℕ
  pub loads : IsLoading pages session flight
  pub came : Ended pages flight (end.Published version)

-- no request is under way, or the context that it lacked is there
abbrev pub MayPin : Pages → ℕ → Type 0
MayPin pages session = Stands pages session last.Idle ⊎ (Stands pages session last.Found ⊎ HasCome pages session)

-- the session has pinned a version without this IRI, which has at most 2,048 bytes
pub record MayLack (pages : Pages) (session : ℕ) (iri : List ℕ) : Type 0 where
  pub request : ℕ
  pub version : ℕ
  pub pinned : HasPinned pages session request version
  pub current : version ≤ version_in pages
  pub without : is_in_stock (entries_of pages) iri version ≡ false
  pub short : length iri ≤ 2048

-- it waited for a flight, which is over
pub record HasWaited (pages : Pages) (session : ℕ) : Type 0 where
  pub flight : ℕ
  pub how : End
  pub awaits : Awaits pages session flight
  pub ended : Ended pages flight how
  pub over : is_under_way how ≡ false

-- it waited for this flight, which failed
pub record HasFailed (pages : Pages) (session flight : ℕ) : Type 0 where
  pub before : ℕ
  pub after : ℕ
  pub awaits : Awaits pages session flight
  pub ended : Ended pages flight (end.Failed before after)

-- its revision ended so
pub record HasRevised (pages : Pages) (session : ℕ) (how : End) : Type 0 where
  pub flight : ℕ
  pub awaits : Stands pages session (last.ReviseLed flight)
  pub ended : Ended pages flight how

-- The request may be answered so.
abbrev pub MayEnd : Pages → ℕ → How (List ℕ) → Type 0
MayEnd pages session how.Done = Stands pages session last.Pinned
MayEnd pages session how.NoMemory = Stands pages session last.Pinned ⊎ (Stands pages session last.Found ⊎ HasWaited pages session)
MayEnd pages session (how.LoadFault flight) = HasFailed pages session flight
MayEnd pages session (how.Revised version) = HasRevised pages session (end.Published version)
MayEnd pages session how.Same = HasRevised pages session end.Same
MayEnd pages session _ = ⊥

-- The flight of the pass is one that the session led for the pass's IRI, and is under way.
pub record IsLeading (pages : Pages) (session : ℕ) (pass : Flight) : Type 0 where
  pub kind : Kind
  pub is : IsFlightAt pages pass.number (record { iri = pass.iri; kind = kind; session = session; end = end.UnderWay })
