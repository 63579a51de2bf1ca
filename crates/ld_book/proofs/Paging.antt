-- Entries with the documents that they brought, as both grow.
use Rattle.std.proofs.Common.{◌≡◌, ℕ, List, [], ◌∷◌, ◌++◌, refl, sym, ap, ◌∙◌, subst, Bool, true, false, Option, Some, None, All, append-nil}
use Rattle.std.specs.Prelude.{map, is_some, if◌then◌else◌}
use Rattle.std.proofs.lemmas.List.{map-append}
use Rattle.std.proofs.lemmas.List.Elements.{All-nil, All-cons, All-append, All-head, All-tail}
use Rattle.ld_rec.specs.declared.doc.Doc.{Doc}
use Rattle.ld_history.specs.declared.event.Event.{Event}
use Rattle.ld_history.specs.declared.event.Event.TheVariants as event
use Rattle.ld_history.specs.declared.event.Given.{Given}
use Rattle.ld_history.specs.declared.event.Entry.{Entry}
use Rattle.ld_history.specs.Legal.{Entries, History}
use Rattle.ld_history.specs.Steps.{Taken, appended, grown}
use Rattle.ld_book.specs.declared.page.Page.{Page}
use Rattle.ld_book.specs.Pages.{Pages, Booked, entries_of, history_of, brings, bare, page_of, after_step, publishes, document_of}
use Rattle.ld_book.specs.Documents.{BothAre, IsBrought, IsPage, ArePages}
use Rattle.ld_book.specs.Kept.{first_if, rest_if, paged, left_of, booked}

page : Entry (List ℕ) Given → Option Doc → Page
page entry doc = record { entry = entry; doc = doc }

pub entries_paged : (entries : Entries) (docs : List Doc) → entries_of (paged entries docs) ≡ entries
entries_paged [] docs = refl
entries_paged (e ∷ es) docs = ap (λ rest. e ∷ rest) (entries_paged es (rest_if (brings e.event) docs))

pub history_booked : (h : History) (docs : List Doc) → history_of (booked h docs) ≡ h
history_booked h docs = ap (λ (es : Entries). record { limits = h.limits; entries = es }) (entries_paged h.entries docs)

first_none : (b : Bool) → first_if b [] ≡ None
first_none true = refl
first_none false = refl

rest_none : (b : Bool) → rest_if b [] ≡ []
rest_none true = refl
rest_none false = refl

pub paged-bare : (entries : Entries) → paged entries [] ≡ bare entries
paged-bare [] = refl
paged-bare (e ∷ es) =
    ap (λ (d : Option Doc). record { entry = e; doc = d } ∷ paged es (rest_if (brings e.event) [])) (first_none (brings e.event))
    ∙ ap (λ (docs : List Doc). record { entry = e; doc = None } ∷ paged es docs) (rest_none (brings e.event))
    ∙ ap (λ (rest : Pages). record { entry = e; doc = None } ∷ rest) (paged-bare es)

left-none : (entries : Entries) → left_of entries [] ≡ []
left-none [] = refl
left-none (e ∷ es) = ap (left_of es) (rest_none (brings e.event)) ∙ left-none es

paged-append : (front back : Entries) (docs : List Doc) → paged (front ++ back) docs ≡ paged front docs ++ paged back (left_of front docs)
paged-append [] back docs = refl
paged-append (e ∷ es) back docs =
    ap (λ (rest : Pages). record { entry = e; doc = first_if (brings e.event) docs } ∷ rest) (paged-append es back (rest_if (brings e.event) docs))

left-append : (front back : Entries) (docs : List Doc) → left_of (front ++ back) docs ≡ left_of back (left_of front docs)
left-append [] back docs = refl
left-append (e ∷ es) back docs = left-append es back (rest_if (brings e.event) docs)

-- entries at which no document comes
pub paged_on : (front back : Entries) (docs : List Doc) → left_of front docs ≡ [] → paged (front ++ back) docs ≡ paged front docs ++ bare back
paged_on front back docs used = paged-append front back docs ∙ ap (λ (rest : List Doc). paged front docs ++ paged back rest) used ∙ ap (λ (rest : Pages). paged front docs ++ rest) (paged-bare back)

pub left_on : (front back : Entries) (docs : List Doc) → left_of front docs ≡ [] → left_of (front ++ back) docs ≡ []
left_on front back docs used = left-append front back docs ∙ ap (left_of back) used ∙ left-none back

-- what is seen after a step at which no document comes
pub booked_on : {A : Type 0} (h : History) (docs : List Doc) (step : Option (Taken A)) → left_of h.entries docs ≡ [] → booked (grown h step) docs ≡ after_step (booked h docs) step
booked_on h docs step used = ap (λ (pages : Pages). record { limits = h.limits; pages = pages }) (paged_on h.entries (appended step) docs used)

-- ---- one more document
no_document : (given : Option Given) → BothAre given None → ⊥
no_document None h = h
no_document (Some given) h = h

one_more : (b : Bool) (given : Option Given) (docs more : List Doc) → IsBrought b given (first_if b docs)
    → (first_if b (docs ++ more) ≡ first_if b docs) × (rest_if b (docs ++ more) ≡ rest_if b docs ++ more)
one_more true given [] more h = absurd (no_document given h)
one_more true given (d ∷ ds) more h = (refl, refl)
one_more false given docs more h = (refl, refl)

kept_front : (front : Entries) (docs more : List Doc) → ArePages (paged front docs) → paged front (docs ++ more) ≡ paged front docs
kept_front [] docs more h = refl
kept_front (e ∷ es) docs more h =
    let s = one_more (brings e.event) e.given docs more (All-head IsPage _ _ h) in
    ap (λ (d : Option Doc). record { entry = e; doc = d } ∷ paged es (rest_if (brings e.event) (docs ++ more))) s.0
    ∙ ap (λ (rest : Pages). record { entry = e; doc = first_if (brings e.event) docs } ∷ rest)
    (ap (paged es) s.1 ∙ kept_front es (rest_if (brings e.event) docs) more (All-tail IsPage _ _ h))

left_more : (front : Entries) (docs more : List Doc) → ArePages (paged front docs) → left_of front (docs ++ more) ≡ left_of front docs ++ more
left_more [] docs more h = refl
left_more (e ∷ es) docs more h =
    let s = one_more (brings e.event) e.given docs more (All-head IsPage _ _ h) in
    ap (left_of es) s.1 ∙ left_more es (rest_if (brings e.event) docs) more (All-tail IsPage _ _ h)

module _ (front : Entries) (entry : Entry (List ℕ) Given) (docs : List Doc) (doc : Doc) (used : left_of front docs ≡ []) (right : ArePages (paged front docs)) (comes : brings entry.event ≡ true) where
  left_now : left_of front (docs ++ doc ∷ []) ≡ doc ∷ []
  left_now = left_more front docs (doc ∷ []) right ∙ ap (λ (rest : List Doc). rest ++ doc ∷ []) used

  pub paged_with : paged (front ++ entry ∷ []) (docs ++ doc ∷ []) ≡ paged front docs ++ page_of doc entry ∷ []
  paged_with =
      paged-append front (entry ∷ []) (docs ++ doc ∷ [])
      ∙ ap (λ (pages : Pages). pages ++ paged (entry ∷ []) (left_of front (docs ++ doc ∷ []))) (kept_front front docs (doc ∷ []) right)
      ∙ ap (λ (rest : List Doc). paged front docs ++ paged (entry ∷ []) rest) left_now
      ∙ ap (λ (b : Bool). paged front docs ++ record { entry = entry; doc = first_if b (doc ∷ []) } ∷ []) comes
      ∙ ap (λ (b : Bool). paged front docs ++ record { entry = entry; doc = if b then Some doc else None } ∷ []) (sym comes)

  pub left_with : left_of (front ++ entry ∷ []) (docs ++ doc ∷ []) ≡ []
  left_with = left-append front (entry ∷ []) (docs ++ doc ∷ []) ∙ ap (left_of (entry ∷ [])) left_now ∙ ap (λ (b : Bool). rest_if b (doc ∷ [])) comes

-- ---- the documents of flights
pub bare_of : (entries : Entries) (flight : ℕ) → document_of (bare entries) flight ≡ None
bare_of [] flight = refl
bare_of (e ∷ es) flight =
    elim (publishes flight e.event) as (λ b. (if b then None else document_of (bare es) flight) ≡ None) [
      | true ↦ refl
      | false ↦ bare_of es flight
    ]

pub document_bare : (pages : Pages) (entries : Entries) (flight : ℕ) → document_of (pages ++ bare entries) flight ≡ document_of pages flight
document_bare [] entries flight = bare_of entries flight
document_bare (p ∷ ps) entries flight = ap (λ (rest : Option Doc). if publishes flight p.entry.event then p.doc else rest) (document_bare ps entries flight)

pub document_more : (pages more : Pages) (flight : ℕ) (doc : Doc) → document_of pages flight ≡ Some doc → document_of (pages ++ more) flight ≡ Some doc
document_more [] more flight doc h = cc
document_more (p ∷ ps) more flight doc h =
    elim (publishes flight p.entry.event) as (λ b. (if b then p.doc else document_of ps flight) ≡ Some doc → (if b then p.doc else document_of (ps ++ more) flight) ≡ Some doc) [
      | true ↦ λ is. is
      | false ↦ λ is. document_more ps more flight doc is
    ] h

publishes_brings : (flight : ℕ) (e : Event (List ℕ)) → publishes flight e ≡ true → brings e ≡ true
publishes_brings flight (event.Opened session seat) h = cc
publishes_brings flight (event.Pinned session request attempt version) h = cc
publishes_brings flight (event.Found session iri) h = cc
publishes_brings flight (event.Led session iri own) h = cc
publishes_brings flight (event.Joined session iri own) h = cc
publishes_brings flight (event.Published own version) h = refl
publishes_brings flight (event.Failed own before after) h = cc
publishes_brings flight (event.Lapsed own) h = cc
publishes_brings flight (event.Evicted session iri version) h = cc
publishes_brings flight (event.ReviseLed session iri own) h = cc
publishes_brings flight (event.Same own) h = cc
publishes_brings flight (event.Answered session request how) h = cc
publishes_brings flight (event.Closed session) h = cc

is_there : (given : Option Given) (doc : Option Doc) → BothAre given doc → doc ≡ None → ⊥
is_there None doc h none = h
is_there (Some given) None h none = h
is_there (Some given) (Some doc) h none = cc

-- a flight that brought nothing as yet
pub document_last : (pages more : Pages) (flight : ℕ) → ArePages pages → document_of pages flight ≡ None → document_of (pages ++ more) flight ≡ document_of more flight
document_last [] more flight right h = refl
document_last (p ∷ ps) more flight right h =
    elim (publishes flight p.entry.event) as (λ b. publishes flight p.entry.event ≡ b → (if b then p.doc else document_of ps flight) ≡ None
    → (if b then p.doc else document_of (ps ++ more) flight) ≡ document_of more flight) [
      | true ↦ λ is none. absurd (is_there p.entry.given p.doc
          (subst (λ (b : Bool). IsBrought b p.entry.given p.doc) (publishes_brings flight p.entry.event is) (All-head IsPage p ps right)) none)
      | false ↦ λ is none. document_last ps more flight (All-tail IsPage p ps right) none
    ] refl h

-- ---- what holds of each page
bare_right : (entry : Entry (List ℕ) Given) → brings entry.event ≡ false → IsPage (record { entry = entry; doc = None })
bare_right entry none = subst (λ (b : Bool). IsBrought b entry.given None) (sym none) refl

one_right : (page : Page) → IsPage page → ArePages (page ∷ [])
one_right page is = All-cons IsPage page [] is (All-nil IsPage)

pub right_with : (pages : Pages) (one : Page) → ArePages pages → IsPage one → ArePages (pages ++ one ∷ [])
right_with pages one h is = All-append IsPage pages (one ∷ []) h (one_right one is)

pub right_on : (pages : Pages) (entry : Entry (List ℕ) Given) → ArePages pages → brings entry.event ≡ false → ArePages (pages ++ bare (entry ∷ []))
right_on pages entry h none = right_with pages (record { entry = entry; doc = None }) h (bare_right entry none)
