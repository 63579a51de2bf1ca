-- What a book stands for: the entries of its history, each with the document that it brought.
use Rattle.std.specs.Prelude.{ℕ, ◌==◌, if◌then◌else◌, Bool, true, false, List, [], ◌∷◌, ◌++◌, map, Option, Some, None}
use Rattle.ld_rec.specs.declared.doc.Doc.{Doc}
use Rattle.ld_flight.specs.Readied.{Readied}
use Rattle.ld_history.specs.declared.limits.Limits.{Limits}
use Rattle.ld_history.specs.declared.event.Event.{Event}
use Rattle.ld_history.specs.declared.event.Event.TheVariants as event
use Rattle.ld_history.specs.declared.event.Given.{Given}
use Rattle.ld_history.specs.declared.event.Entry.{Entry}
use Rattle.ld_history.specs.declared.answers.PublishAnswer.{PublishAnswer}
use Rattle.ld_history.specs.Store.{Store}
use Rattle.ld_history.specs.Legal.{Entries, History, state, stock}
use Rattle.ld_history.specs.Steps.{Taken, appended}
use Rattle.ld_book.specs.declared.page.Page.{Page}

abbrev pub Pages : Type 0
Pages = List Page

-- what a `Book` stands for
pub record Booked : Type 0 where
  pub limits : Limits
  pub pages : Pages

-- the entries alone
abbrev pub entries_of : Pages → Entries
entries_of pages = map (λ p. p.entry) pages

abbrev pub history_of : Booked → History
history_of book = record { limits = book.limits; entries = entries_of book.pages }

-- the state after the book's history
abbrev pub state_of : Booked → Store
state_of book = state (entries_of book.pages)

-- ---- how a book grows

-- A document comes with a Published, and with nothing else.
abbrev pub brings : Event (List ℕ) → Bool
brings (event.Published flight version) = true
brings _ = false

-- entries that bring no document
abbrev pub bare : Entries → Pages
bare entries = map (λ entry. record { entry = entry; doc = None }) entries

-- the book after a step of its history at which no document comes
abbrev pub after_step : {A : Type 0} → Booked → Option (Taken A) → Booked
after_step book step = record book { pages = book.pages ++ bare (appended step) }

-- the page of an entry at which this document came, if one does
abbrev pub page_of : Doc → Entry (List ℕ) Given → Page
page_of doc entry = record { entry = entry; doc = if brings entry.event then Some doc else None }

-- the book after the step at which a flight's answer came, which gave this document
abbrev pub after_answer : Booked → Option (Taken PublishAnswer) → Doc → Booked
after_answer book step doc = record book { pages = book.pages ++ map (page_of doc) (appended step) }

-- what the history keeps of the answer
abbrev pub given_of : Readied → Given
given_of ready = record { url = ready.doc.url; length = ready.length; mark = ready.mark }

-- ---- the stock of a version

-- the event is that this flight's answer comes into the store
abbrev pub publishes : ℕ → Event (List ℕ) → Bool
publishes flight (event.Published own version) = own == flight
publishes flight _ = false

-- the document that the flight brought
abbrev pub document_of : Pages → ℕ → Option Doc
document_of [] flight = None
document_of (page ∷ pages) flight = if publishes flight page.entry.event then page.doc else document_of pages flight

-- an IRI with its document, where there is one
abbrev pub with_document : List ℕ → Option Doc → List (List ℕ × Doc)
with_document iri None = []
with_document iri (Some doc) = (iri, doc) ∷ []

-- IRIs with the documents that their flights brought
abbrev pub documented : Pages → List (List ℕ × ℕ) → List (List ℕ × Doc)
documented pages [] = []
documented pages (e ∷ es) = with_document e.0 (document_of pages e.1) ++ documented pages es

-- The stock of a version: for each IRI that is in the store then, in the order of the IRIs, the document that its flight
-- brought.
abbrev pub stock_of : Pages → ℕ → List (List ℕ × Doc)
stock_of pages version = documented pages (stock (entries_of pages) version)
