-- What a `Book` keeps beside its history: how many passes it made, the snapshot of the current version, and the
-- documents in the order in which they came.
use Rattle.std.specs.Prelude.{◌≡◌, ℕ, Bool, true, false, List, [], ◌∷◌, map, length, Option, Some, None, is_some}
use Rattle.std.specs.Option.{option_map}
use Rattle.std.specs.declared.sync.Arc.{Arc}
use Rattle.std.specs.declared.alloc.Global.{Global}
use Rattle.std.specs.Arc.{arc_value}
use Rattle.ld_tree.specs.formers.entries.Entries.{on_value}
use Rattle.ld_rec.specs.declared.doc.Doc.{Doc}
use Rattle.ld_store.specs.Snapshots.{Shot, Standing}
use Rattle.ld_history.specs.declared.session.Stored.{Stored}
use Rattle.ld_history.specs.Store.{Store}
use Rattle.ld_history.specs.Words.{is_published}
use Rattle.ld_history.specs.Rules.{ended}
use Rattle.ld_history.specs.Legal.{Entries, History, AreWithin, state}
use Rattle.ld_book.specs.Pages.{Pages, Booked, brings, document_of}
use Rattle.ld_book.specs.Documents.{ArePages}

-- the first of the documents, where one comes
abbrev pub first_if : Bool → List Doc → Option Doc
first_if true (doc ∷ docs) = Some doc
first_if _ _ = None

abbrev pub rest_if : Bool → List Doc → List Doc
rest_if true (doc ∷ docs) = docs
rest_if _ docs = docs

-- the entries, each that brings a document with the next one
abbrev pub paged : Entries → List Doc → Pages
paged [] docs = []
paged (entry ∷ entries) docs = record { entry = entry; doc = first_if (brings entry.event) docs } ∷ paged entries (rest_if (brings entry.event) docs)

-- the documents that no entry brought
abbrev pub left_of : Entries → List Doc → List Doc
left_of [] docs = docs
left_of (entry ∷ entries) docs = left_of entries (rest_if (brings entry.event) docs)

abbrev pub values_in : List (Arc Doc Global) → List Doc
values_in documents = map (λ d. arc_value d) documents

-- what is seen of a book
abbrev pub booked : History → List Doc → Booked
booked history docs = record { limits = history.limits; pages = paged history.entries docs }

-- what stands in a snapshot for what is stored
abbrev pub standing_of : Pages → Stored → Option Standing
standing_of pages stored = option_map (λ doc. record { doc = doc; flight = stored.flight; version = stored.version }) (document_of pages stored.flight)

-- the snapshot is that of the current version: what is stored, with the documents
pub record Shows (pages : Pages) (store : Store) (shot : Shot) : Type 0 where
  pub version_is : shot.version ≡ store.version
  pub placed_are : map (on_value Some) shot.placed.0 ≡ map (on_value (standing_of pages)) store.stored

pub record IsBook (history : History) (made : ℕ) (shot : Shot) (docs : List Doc) : Type 0 where
  pub within : AreWithin history.limits
  -- there is a pass for each flight
  pub passes : made ≡ length (state history.entries).flights
  -- each document is that of an entry
  pub used : left_of history.entries docs ≡ []
  pub right : ArePages (paged history.entries docs)
  -- and for each flight whose answer came into the store
  pub known : (flight : ℕ) → is_some (document_of (paged history.entries docs) flight) ≡ ended (state history.entries) flight is_published
  pub shows : Shows (paged history.entries docs) (state history.entries) shot
