-- What a version has stays as the book grows.
use Rattle.std.proofs.Common.{arith, ◌≡◌, ◌∙◌, ℕ, zero, suc, ◌≤◌, Bool, true, false, List, [], ◌∷◌, ◌++◌, refl, sym, ap, subst, append_assoc, Option, Some, None, eq-eqb}
use Rattle.std.specs.Prelude.{is_some, take, if◌then◌else◌}
use Rattle.std.specs.List.{prefix_len}
use Rattle.std.specs.declared.cmp.Ordering.TheVariants.{Less, Equal, Greater}
use Rattle.std.specs.Ordering.{is_eq, match_ordering}
use Rattle.std.specs.Prelude.{cond}
use Rattle.std.proofs.lemmas.List.{map-append}
use Rattle.std.proofs.lemmas.List.Elements.{All-append, All-cons, All-head, All-nil, All-tail, All-take}
use mathlib.Core.List.{IsPrefix}
use Rattle.ld_tree.specs.Names.{name_cmp}
use Rattle.ld_ctx.specs.Stocks as contexts
use Rattle.ld_rec.specs.declared.doc.Doc.{Doc}
use Rattle.ld_history.specs.After.{after, answered_by, put_iri, take_iri, with_flight}
use Rattle.ld_history.specs.Legal.{Entries, Legal, is_by, is_in_stock, replay, state, stock}
use Rattle.ld_history.specs.Store.{Store, empty_store}
use Rattle.ld_history.specs.Words.{at_iri, flight_at}
use Rattle.ld_history.specs.declared.event.Entry.{Entry}
use Rattle.ld_history.specs.declared.event.Event.{Event}
use Rattle.ld_history.specs.declared.event.Event.TheVariants as event
use Rattle.ld_history.specs.declared.event.Given.{Given}
use Rattle.ld_history.specs.declared.limits.Limits.{Limits}
use Rattle.ld_history.specs.declared.session.Flight.{Flight}
use Rattle.ld_history.specs.declared.session.Stored.{Stored}
use Rattle.ld_history.specs.ByTurns.{LegalFrom}
use Rattle.ld_history.proofs.LawAlong.{legal-append, replay-append}
use Rattle.ld_history.proofs.LawStock.{keeps_stored, placed, stock_stays, version_rises}
use Rattle.ld_history.proofs.LawTold.{by_turns}
use Rattle.ld_book.specs.Documents.{ArePages, BothAre, IsPage}
use Rattle.ld_book.specs.Pages.{Pages, document_of, documented, entries_of, publishes, stock_of, with_document}
use Rattle.ld_book.specs.declared.page.Page.{Page}
use Rattle.ld_book.proofs.Paging.{document_last, document_more}
use Rattle.ld_moves.specs.Moving.{version_in}
use Rattle.ld_moves.specs.Stocks.{IsSound, stocks}

-- the flight brought a document
abbrev Brought : Pages → ℕ → Type 0
Brought pages flight = (doc : Doc) × (document_of pages flight ≡ Some doc)

abbrev Has : Pages → List (List ℕ × ℕ) → Type 0
Has pages [] = Unit {0}
Has pages (e ∷ es) = Brought pages e.1 × Has pages es

has_more : (pages more : Pages) (es : List (List ℕ × ℕ)) → Has pages es → Has (pages ++ more) es
has_more pages more [] h = tt
has_more pages more (e ∷ es) h = ((h.0.0, document_more pages more e.1 h.0.0 h.0.1), has_more pages more es h.1)

has_put : (pages : Pages) (stored : List (List ℕ × Stored)) (iri : List ℕ) (x : Stored) → Brought pages x.flight → Has pages (placed stored) → Has pages (placed (put_iri stored iri x))
has_put pages [] iri x b h = (b, tt)
has_put pages (e ∷ es) iri x b h =
    elim (name_cmp iri e.0) as (λ r. Has pages (placed (match_ordering r ((iri, x) ∷ e ∷ es) ((e.0, x) ∷ es) (e ∷ put_iri es iri x)))) [
      | Less ↦ (b, h)
      | Equal ↦ (b, h.1)
      | Greater ↦ (h.0, has_put pages es iri x b h.1)
    ]

has_take : (pages : Pages) (stored : List (List ℕ × Stored)) (iri : List ℕ) → Has pages (placed stored) → Has pages (placed (take_iri stored iri))
has_take pages [] iri h = tt
has_take pages (e ∷ es) iri h =
    elim (is_eq (name_cmp iri e.0)) as (λ b. Has pages (placed (cond b es (e ∷ take_iri es iri)))) [
      | true ↦ h.1
      | false ↦ (h.0, has_take pages es iri h.1)
    ]

-- ---- one page more
abbrev page_with : Event (List ℕ) → Option Given → Option Doc → Page
page_with e given doc = record { entry = record { event = e; given = given }; doc = doc }

module _ (pages : Pages) (right : ArePages pages) where
  brought_last : (page : Page) (flight : ℕ) (doc : Doc) → publishes flight page.entry.event ≡ true → page.doc ≡ Some doc → Brought (pages ++ page ∷ []) flight
  brought_last page flight doc publishes_it is = go (document_of pages flight) refl
    where
      go : (o : Option Doc) → document_of pages flight ≡ o → Brought (pages ++ page ∷ []) flight
      go (Some d) there = (d, document_more pages (page ∷ []) flight d there)
      go None none = (doc, document_last pages (page ∷ []) flight right none ∙ ap (λ b. if b then page.doc else None) publishes_it ∙ is)

  has_published : (store : Store) (flight version : ℕ) (given : Option Given) (doc : Option Doc) → BothAre given doc → Has pages (placed store.stored)
      → Has (pages ++ record { entry = record { event = event.Published flight version; given = given }; doc = doc } ∷ []) (placed (after store (record { event = event.Published flight version; given = given })).stored)
  has_published store flight version None doc is h = absurd is
  has_published store flight version (Some given) None is h = absurd is
  has_published store flight version (Some given) (Some doc) is h = go (flight_at store.flights flight)
    where
      page : Page
      page = record { entry = record { event = event.Published flight version; given = Some given }; doc = Some doc }

      go : (o : Option Flight) → Has (pages ++ page ∷ []) (placed (with_flight store (answered_by store flight version given) o).stored)
      go None = has_more pages (page ∷ []) (placed store.stored) h
      go (Some f) = has_put (pages ++ page ∷ []) store.stored f.iri _ (brought_last page flight doc (eq-eqb flight flight refl) refl) (has_more pages (page ∷ []) (placed store.stored) h)

  has_kept : (store : Store) (page : Page) → (after store page.entry).stored ≡ store.stored → Has pages (placed store.stored) → Has (pages ++ page ∷ []) (placed (after store page.entry).stored)
  has_kept store page kept h = subst (λ stored. Has (pages ++ page ∷ []) (placed stored)) (sym kept) (has_more pages (page ∷ []) (placed store.stored) h)

  has_page : (store : Store) (e : Event (List ℕ)) (given : Option Given) (doc : Option Doc) → IsPage (record { entry = record { event = e; given = given }; doc = doc }) → Has pages (placed store.stored)
      → Has (pages ++ record { entry = record { event = e; given = given }; doc = doc } ∷ []) (placed (after store (record { event = e; given = given })).stored)
  has_page store (event.Published flight version) given doc is h = has_published store flight version given doc is h
  has_page store (event.Evicted session iri version) given doc is h = has_take (pages ++ page_with (event.Evicted session iri version) given doc ∷ []) store.stored iri (has_more pages (page_with (event.Evicted session iri version) given doc ∷ []) (placed store.stored) h)
  has_page store (event.Opened session seat) given doc is h = has_kept store (page_with (event.Opened session seat) given doc) (keeps_stored store (record { event = event.Opened session seat; given = given }) refl) h
  has_page store (event.Pinned session request attempt version) given doc is h = has_kept store (page_with (event.Pinned session request attempt version) given doc) (keeps_stored store (record { event = event.Pinned session request attempt version; given = given }) refl) h
  has_page store (event.Found session iri) given doc is h = has_kept store (page_with (event.Found session iri) given doc) (keeps_stored store (record { event = event.Found session iri; given = given }) refl) h
  has_page store (event.Led session iri flight) given doc is h = has_kept store (page_with (event.Led session iri flight) given doc) (keeps_stored store (record { event = event.Led session iri flight; given = given }) refl) h
  has_page store (event.Joined session iri flight) given doc is h = has_kept store (page_with (event.Joined session iri flight) given doc) (keeps_stored store (record { event = event.Joined session iri flight; given = given }) refl) h
  has_page store (event.Failed flight before after) given doc is h = has_kept store (page_with (event.Failed flight before after) given doc) (keeps_stored store (record { event = event.Failed flight before after; given = given }) refl) h
  has_page store (event.Lapsed flight) given doc is h = has_kept store (page_with (event.Lapsed flight) given doc) (keeps_stored store (record { event = event.Lapsed flight; given = given }) refl) h
  has_page store (event.ReviseLed session iri flight) given doc is h = has_kept store (page_with (event.ReviseLed session iri flight) given doc) (keeps_stored store (record { event = event.ReviseLed session iri flight; given = given }) refl) h
  has_page store (event.Same flight) given doc is h = has_kept store (page_with (event.Same flight) given doc) (keeps_stored store (record { event = event.Same flight; given = given }) refl) h
  has_page store (event.Answered session request how) given doc is h = has_kept store (page_with (event.Answered session request how) given doc) (keeps_stored store (record { event = event.Answered session request how; given = given }) refl) h
  has_page store (event.Closed session) given doc is h = has_kept store (page_with (event.Closed session) given doc) (keeps_stored store (record { event = event.Closed session; given = given }) refl) h

has_all : (pages rest : Pages) (store : Store) → ArePages pages → ArePages rest → Has pages (placed store.stored) → Has (pages ++ rest) (placed (replay store (entries_of rest)).stored)
has_all pages [] store right more h = has_more pages [] (placed store.stored) h
has_all pages (page ∷ rest) store right more h =
    let is = All-head IsPage page rest more in
    subst (λ (all : Pages). Has all (placed (replay (after store page.entry) (entries_of rest)).stored)) (append_assoc pages (page ∷ []) rest)
    (has_all (pages ++ page ∷ []) rest (after store page.entry) (All-append IsPage pages (page ∷ []) right (All-cons IsPage page [] is (All-nil IsPage))) (All-tail IsPage page rest more)
    (has_page pages right store page.entry.event page.entry.given page.doc is h))

take_entries : (n : ℕ) (pages : Pages) → take n (entries_of pages) ≡ entries_of (take n pages)
take_entries zero pages = refl
take_entries (suc n) [] = refl
take_entries (suc n) (page ∷ pages) = ap (λ (rest : Entries). page.entry ∷ rest) (take_entries n pages)

take_rest : (n : ℕ) (pages : Pages) → IsPrefix (take n pages) pages
take_rest zero pages = (pages, refl)
take_rest (suc n) [] = ([], refl)
take_rest (suc n) (page ∷ pages) = let rest = take_rest n pages in (rest.0, ap (λ (all : Pages). page ∷ all) rest.1)

-- each flight in the stock of a version brought a document
has_stock : (pages : Pages) → ArePages pages → (version : ℕ) → Has pages (stock (entries_of pages) version)
has_stock pages right version =
    let n : ℕ = prefix_len (λ (entry : Entry (List ℕ) Given). is_by version entry.event) (entries_of pages) in
    let rest = take_rest n pages in
    subst (λ (all : Pages). Has all (stock (entries_of pages) version)) rest.1
    (has_more (take n pages) rest.0 (stock (entries_of pages) version)
    (subst (λ (entries : Entries). Has (take n pages) (placed (state entries).stored)) (sym (take_entries n pages))
    (has_all [] (take n pages) empty_store (All-nil IsPage) (All-take IsPage n pages right) tt)))

-- and so an IRI without a document isn't in the stock
lacked_among : (pages : Pages) (es : List (List ℕ × ℕ)) → Has pages es → (iri : List ℕ) → at_iri (documented pages es) iri ≡ None → is_some (at_iri es iri) ≡ false
lacked_among pages [] h iri none = refl
lacked_among pages (e ∷ es) h iri none =
    step (λ p. lacked_among pages es h.1 iri p) (is_eq (name_cmp iri e.0)) (ap (λ (doc : Option Doc). at_iri (with_document e.0 doc ++ documented pages es) iri) (sym h.0.1) ∙ none)
  where
    step : (at_iri (documented pages es) iri ≡ None → is_some (at_iri es iri) ≡ false) → (b : Bool) → (if b then Some h.0.0 else at_iri (documented pages es) iri) ≡ None
        → is_some (if b then Some e.1 else at_iri es iri) ≡ false
    step rest true p = cc
    step rest false p = rest p

pub lacked_in_stock : (pages : Pages) (version : ℕ) (iri : List ℕ) → ArePages pages → at_iri (stock_of pages version) iri ≡ None → is_in_stock (entries_of pages) iri version ≡ false
unfolding is_in_stock
lacked_in_stock pages version iri right none = lacked_among pages (stock (entries_of pages) version) (has_stock pages right version) iri none

documents_stay : (pages more : Pages) (es : List (List ℕ × ℕ)) → Has pages es → documented (pages ++ more) es ≡ documented pages es
documents_stay pages more [] h = refl
documents_stay pages more (e ∷ es) h =
    ap (λ (doc : Option Doc). with_document e.0 doc ++ documented (pages ++ more) es) (document_more pages more e.1 h.0.0 h.0.1 ∙ sym h.0.1)
    ∙ ap (λ rest. with_document e.0 (document_of pages e.1) ++ rest) (documents_stay pages more es h.1)

front_right : (front more : Pages) → ArePages (front ++ more) → ArePages front
front_right [] more h = All-nil IsPage
front_right (page ∷ front) more h = All-cons IsPage page front (All-head IsPage page (front ++ more) h) (front_right front more (All-tail IsPage page (front ++ more) h))

pub entries_on : (front more : Pages) → entries_of (front ++ more) ≡ entries_of front ++ entries_of more
entries_on front more = map-append (λ (p : Page). p.entry) front more

stay_with : (limits : Limits) (front more : Pages) → IsSound limits (front ++ more) → (version : ℕ) → version ≤ version_in front → stocks (front ++ more) version ≡ stocks front version
stay_with limits front more sound version le =
    ap contexts.stock_of
    (ap (λ entries. documented (front ++ more) (stock entries version)) (entries_on front more)
    ∙ ap (documented (front ++ more)) (stock_stays limits (entries_of front) (entries_of more) (by_turns limits (entries_of front ++ entries_of more) (subst (Legal limits) (entries_on front more) sound.legal)) version le)
    ∙ documents_stay front more (stock (entries_of front) version) (has_stock front (front_right front more sound.documents) version))

pub stocks_stay_on : (limits : Limits) (front later : Pages) (version : ℕ) → IsSound limits later → IsPrefix front later → version ≤ version_in front → stocks later version ≡ stocks front version
stocks_stay_on limits front later version sound grows le =
    ap (λ pages. stocks pages version) (sym grows.1) ∙ stay_with limits front grows.0 (subst (IsSound limits) (sym grows.1) sound) version le

rises_from : (limits : Limits) (store : Store) (entries : Entries) → LegalFrom limits store entries → store.version ≤ (replay store entries).version
rises_from limits store [] h = omega arith
rises_from limits store (entry ∷ entries) h =
    let one = version_rises limits store entry h.0 in
    let rest = rises_from limits (after store entry) entries h.1 in
    omega (arith, one, rest)

-- the version never falls
pub versions_rise : (limits : Limits) (front later : Pages) → IsSound limits later → IsPrefix front later → version_in front ≤ version_in later
versions_rise limits front later sound grows =
    subst (λ (pages : Pages). version_in front ≤ version_in pages) grows.1
    (subst (λ (s : Store). version_in front ≤ s.version) (sym (ap state (entries_on front grows.0) ∙ replay-append empty_store (entries_of front) (entries_of grows.0)))
    (rises_from limits (state (entries_of front)) (entries_of grows.0)
    (legal-append limits empty_store (entries_of front) (entries_of grows.0)
    (by_turns limits (entries_of front ++ entries_of grows.0) (subst (Legal limits) (sym (ap entries_of grows.1) ∙ entries_on front grows.0) sound.legal))).1))
