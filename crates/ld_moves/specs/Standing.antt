-- What the history tells of a session, and of a flight, after these pages.
use Rattle.std.specs.Prelude.{◌≡◌, ℕ, List, Some}
use Rattle.ld_fits.specs.Play.{Stage, Lacking, Reloading}
use Rattle.ld_flight.specs.Readied.{Readied}
use Rattle.ld_flight.specs.declared.given.Given as loader
use Rattle.ld_history.specs.Legal.{state}
use Rattle.ld_history.specs.Words.{at_number, flight_at}
use Rattle.ld_history.specs.declared.answers.LackAnswer.{LackAnswer}
use Rattle.ld_history.specs.declared.answers.LackAnswer.TheVariants as lack_answer
use Rattle.ld_history.specs.declared.answers.PublishAnswer.{PublishAnswer}
use Rattle.ld_history.specs.declared.answers.PublishAnswer.TheVariants as publish_answer
use Rattle.ld_history.specs.declared.answers.ReviseAnswer.{ReviseAnswer}
use Rattle.ld_history.specs.declared.answers.ReviseAnswer.TheVariants as revise_answer
use Rattle.ld_history.specs.declared.session.End.{End}
use Rattle.ld_history.specs.declared.session.End.TheVariants as end
use Rattle.ld_history.specs.declared.session.Flight.{Flight}
use Rattle.ld_history.specs.declared.session.Kind.TheVariants as kind
use Rattle.ld_history.specs.declared.session.Last.{Last}
use Rattle.ld_history.specs.declared.session.Last.TheVariants as last
use Rattle.ld_history.specs.declared.session.Session.{Session}
use Rattle.ld_book.specs.Pages.{Pages, entries_of}

-- the session is open, as this
abbrev pub IsOpenAt : Pages → ℕ → Session → Type 0
IsOpenAt pages session s = at_number (state (entries_of pages)).sessions session ≡ Some s

-- the session is open, and this is its last own event
pub record Stands (pages : Pages) (session : ℕ) (how : Last) : Type 0 where
  pub s : Session
  pub is : IsOpenAt pages session s
  pub last_is : s.last ≡ how

-- the flight of this number is this one
abbrev pub IsFlightAt : Pages → ℕ → Flight → Type 0
IsFlightAt pages number flight = flight_at (state (entries_of pages)).flights number ≡ Some flight

-- the flight of this number was led for this IRI
pub record IsOf (pages : Pages) (number : ℕ) (iri : List ℕ) : Type 0 where
  pub flight : Flight
  pub is : IsFlightAt pages number flight
  pub iri_is : flight.iri ≡ iri

-- The session has pinned this version for this request.
pub record HasPinned (pages : Pages) (session request version : ℕ) : Type 0 where
  pub s : Session
  pub is : IsOpenAt pages session s
  pub last_is : s.last ≡ last.Pinned
  pub request_is : s.request ≡ request
  pub version_is : s.version ≡ version

-- the stage waits for a flight
abbrev pub IsWaiting : Stage → Type 0
IsWaiting (Lacking r op envelope iri) = Unit {0}
IsWaiting (Reloading r iri) = Unit {0}
IsWaiting _ = ⊥

-- how a flight ended whose answer came
abbrev pub end_by : PublishAnswer → End
end_by (publish_answer.Published version) = end.Published version
end_by publish_answer.Same = end.Same

-- A loader gave this for the flight of this number, and it is what is ready to be published.
pub record IsGiven (number : ℕ) (iri : List ℕ) (ready : Readied) (given : loader.Given) : Type 0 where
  pub number_is : given.flight ≡ number
  pub iri_is : given.iri ≡ iri
  pub url_is : given.url ≡ ready.doc.url
  pub length_is : given.length ≡ ready.length
  pub mark_is : given.mark ≡ ready.mark

-- After a lack, by what it answers: the context was found, or the session joined a flight for it, or led one. Where it is
-- refused, no request is under way.
abbrev pub AfterLack : Pages → ℕ → List ℕ → LackAnswer → Type 0
AfterLack pages session iri lack_answer.There = Stands pages session last.Found
AfterLack pages session iri (lack_answer.Joined flight) = Stands pages session (last.Joined flight) × IsOf pages flight iri
AfterLack pages session iri (lack_answer.Led flight out) =
    Stands pages session (last.Led flight) × IsFlightAt pages flight (record { iri = iri; kind = kind.Lead; session = session; end = end.UnderWay })
AfterLack pages session iri _ = Stands pages session last.Idle

-- After a revision is asked for: the session led a flight for the context. Where it is refused, no request is under way.
abbrev pub AfterRevise : Pages → ℕ → List ℕ → ReviseAnswer → Type 0
AfterRevise pages session iri (revise_answer.Led flight) =
    Stands pages session (last.ReviseLed flight) × IsFlightAt pages flight (record { iri = iri; kind = kind.Revise; session = session; end = end.UnderWay })
AfterRevise pages session iri _ = Stands pages session last.Idle
