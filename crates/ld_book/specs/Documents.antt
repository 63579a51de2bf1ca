-- What holds of the documents in a book.
use Rattle.std.specs.Prelude.{◌≡◌, Bool, true, false, List, Option, Some, None, All}
use Rattle.ld_rec.specs.declared.doc.Doc.{Doc}
use Rattle.ld_flight.specs.Readied.{Tells}
use Rattle.ld_history.specs.declared.event.Given.{Given}
use Rattle.ld_book.specs.declared.page.Page.{Page}
use Rattle.ld_book.specs.Pages.{Pages, brings}

-- The document came from the answer's place, and its text, where it is kept, has the answer's length and mark. Where it isn't,
-- the length is the one that stands for a text that is too long.
pub record IsAnswer (given : Given) (doc : Doc) : Type 0 where
  pub url_is : doc.url ≡ given.url
  pub tells : Tells doc given.length given.mark

abbrev pub BothAre : Option Given → Option Doc → Type 0
BothAre (Some given) (Some doc) = IsAnswer given doc
BothAre _ _ = ⊥

abbrev pub IsBrought : Bool → Option Given → Option Doc → Type 0
IsBrought true given doc = BothAre given doc
IsBrought false given doc = doc ≡ None

-- a document is there exactly where one came, and is that of the answer
abbrev pub IsPage : Page → Type 0
IsPage page = IsBrought (brings page.entry.event) page.entry.given page.doc

abbrev pub ArePages : Pages → Type 0
ArePages pages = All IsPage pages
