-- What a book keeps, over each entry.
use Rattle.std.proofs.Common.{◌≡◌, ℕ, zero, suc, ◌+◌, List, [], ◌∷◌, ◌++◌, length, refl, sym, ap, ◌∙◌, subst, Bool, true, false, ◌⊎◌, inl, inr, Option, Some, None, append-nil, append_assoc, arith, eq-eqb, eqb-true}
use Rattle.std.specs.Prelude.{is_some, if◌then◌else◌, ◌==◌}
use Rattle.std.specs.Option.{option_map}
use Rattle.std.proofs.lemmas.Bool.{cases_Bool}
use Rattle.std.proofs.lemmas.List.Elements.{All-nil}
use Rattle.ld_rec.specs.declared.doc.Doc.{Doc}
use Rattle.ld_store.specs.Snapshots.{Shot, Standing, nothing, evicted, published}
use Rattle.ld_history.specs.declared.limits.Limits.{Limits}
use Rattle.ld_history.specs.declared.event.Event.{Event}
use Rattle.ld_history.specs.declared.event.Event.TheVariants as event
use Rattle.ld_history.specs.declared.event.Given.{Given}
use Rattle.ld_history.specs.declared.event.Entry.{Entry}
use Rattle.ld_history.specs.declared.session.Flight.{Flight}
use Rattle.ld_history.specs.declared.session.Stored.{Stored}
use Rattle.ld_history.specs.declared.session.End.TheVariants as end
use Rattle.ld_history.specs.Store.{Store}
use Rattle.ld_history.specs.Words.{flight_at, is_published}
use Rattle.ld_history.specs.Rules.{ended}
use Rattle.ld_history.specs.After.{after, with_flight, answered_by, put_iri, take_iri}
use Rattle.ld_history.specs.Legal.{Entries, History, AreWithin, state}
use Rattle.ld_history.specs.Steps.{Taken, appended, grown, plain}
use Rattle.ld_history.proofs.LawFlights.{number_cases, apart_numbers}
use Rattle.ld_history.proofs.LawStock.{pushed}
use Rattle.ld_book.specs.declared.page.Page.{Page}
use Rattle.ld_book.specs.Pages.{Pages, bare, page_of, brings, publishes, document_of}
use Rattle.ld_book.specs.Documents.{IsAnswer, IsPage, ArePages}
use Rattle.ld_book.specs.Kept.{paged, left_of, standing_of, Shows, IsBook}
use Rattle.ld_book.proofs.Paging.{paged_on, left_on, paged_with, left_with, document_bare, document_more, document_last, right_on, right_with}
use Rattle.ld_book.proofs.Steady.{IsCalm, begins, landed_in, steady, flights_after, length-ended, ended_other, ended_same, flying_landed}
use Rattle.ld_book.proofs.Showing.{shows_on, shows_out, shows_in}

-- from the pages and the state, whatever they are called
made_of : (limits : Limits) (entries : Entries) (made : ℕ) (shot : Shot) (docs : List Doc) (pages : Pages) (store : Store) → paged entries docs ≡ pages → state entries ≡ store
    → AreWithin limits → made ≡ length store.flights → left_of entries docs ≡ [] → ArePages pages → ((flight : ℕ) → is_some (document_of pages flight) ≡ landed_in store.flights flight)
    → Shows pages store shot → IsBook (record { limits = limits; entries = entries }) made shot docs
made_of limits entries made shot docs pages store p s within passes used right known shows = record {
  within = within;
  passes = passes ∙ ap (λ (x : Store). length x.flights) (sym s);
  used = used;
  right = subst ArePages (sym p) right;
  known = λ flight. ap (λ (x : Pages). is_some (document_of x flight)) p ∙ known flight ∙ ap (λ (x : Store). landed_in x.flights flight) (sym s);
  shows = subst (λ (x : Pages). Shows x (state entries) shot) (sym p) (subst (λ (x : Store). Shows pages x shot) (sym s) shows);
}

none_landed : (flight : ℕ) → false ≡ landed_in [] flight
none_landed zero = refl
none_landed (suc place) = refl

pub first_book : (limits : Limits) → AreWithin limits → IsBook (record { limits = limits; entries = [] }) 0 nothing []
first_book limits within = record {
  within = within;
  passes = refl;
  used = refl;
  right = All-nil IsPage;
  known = none_landed;
  shows = record { version_is = refl; placed_are = refl };
}

calm_brings : (store : Store) (e : Event (List ℕ)) → IsCalm store e → brings e ≡ false
calm_brings store (event.Opened session seat) h = refl
calm_brings store (event.Pinned session request attempt version) h = refl
calm_brings store (event.Found session iri) h = refl
calm_brings store (event.Led session iri own) h = refl
calm_brings store (event.Joined session iri own) h = refl
calm_brings store (event.Published own version) h = absurd h
calm_brings store (event.Failed own before after) h = refl
calm_brings store (event.Lapsed own) h = refl
calm_brings store (event.Evicted session iri version) h = refl
calm_brings store (event.ReviseLed session iri own) h = refl
calm_brings store (event.Same own) h = refl
calm_brings store (event.Answered session request how) h = refl
calm_brings store (event.Closed session) h = refl

module _ (h : History) (made : ℕ) (shot : Shot) (docs : List Doc) (b : IsBook h made shot docs) where
  pages_now : Pages
  pages_now = paged h.entries docs

  -- an entry that makes no version
  pub keeps_calm : (entry : Entry (List ℕ) Given) → IsCalm (state h.entries) entry.event → (n : ℕ) → n ≡ made + begins entry.event
      → IsBook (record h { entries = h.entries ++ entry ∷ [] }) n shot docs
  keeps_calm entry calm n more =
      let s = steady (state h.entries) entry.given entry.event calm in
      let pages : paged (h.entries ++ entry ∷ []) docs ≡ paged h.entries docs ++ bare (entry ∷ []) = paged_on h.entries (entry ∷ []) docs b.used in
      made_of h.limits (h.entries ++ entry ∷ []) n shot docs (paged h.entries docs ++ bare (entry ∷ [])) (after (state h.entries) entry) pages (pushed h.entries entry)
      b.within
      (more ∙ ap (λ (k : ℕ). k + begins entry.event) b.passes ∙ sym (flights_after (state h.entries) entry.given entry.event calm))
      (left_on h.entries (entry ∷ []) docs b.used)
      (right_on (paged h.entries docs) entry b.right (calm_brings (state h.entries) entry.event calm))
      (λ flight. ap is_some (document_bare (paged h.entries docs) (entry ∷ []) flight) ∙ b.known flight ∙ sym (s.landed flight))
      (shows_on (paged h.entries docs) (bare (entry ∷ [])) (state h.entries) (after (state h.entries) entry) shot b.shows s.version s.stored)

  -- a context goes out
  pub keeps_out : (session : ℕ) (iri : List ℕ) (version : ℕ) → IsBook (record h { entries = h.entries ++ plain (event.Evicted session iri version) ∷ [] }) made (evicted shot iri version) docs
  keeps_out session iri version =
      let entry : Entry (List ℕ) Given = plain (event.Evicted session iri version) in
      made_of h.limits (h.entries ++ entry ∷ []) made (evicted shot iri version) docs (paged h.entries docs ++ bare (entry ∷ [])) (after (state h.entries) entry)
      (paged_on h.entries (entry ∷ []) docs b.used) (pushed h.entries entry)
      b.within b.passes (left_on h.entries (entry ∷ []) docs b.used)
      (right_on (paged h.entries docs) entry b.right refl)
      (λ flight. ap is_some (document_bare (paged h.entries docs) (entry ∷ []) flight) ∙ b.known flight)
      (shows_out (paged h.entries docs) (bare (entry ∷ [])) (state h.entries) (after (state h.entries) entry) shot b.shows iri refl)

  -- a flight's answer comes into the store
  module _ (flight version : ℕ) (given : Given) (doc : Doc) (f : Flight) (is : flight_at (state h.entries).flights flight ≡ Some f) (flying : f.end ≡ end.UnderWay) (answer : IsAnswer given doc) where
    abbrev pub came : Entry (List ℕ) Given
    came = record { event = event.Published flight version; given = Some given }

    abbrev next : Store
    next = record (answered_by (state h.entries) flight version given f) { events = (state h.entries).events + 1; evicted = None }

    next_is : after (state h.entries) came ≡ next
    next_is = ap (λ (o : Option Flight). record (with_flight (state h.entries) (answered_by (state h.entries) flight version given) o) { events = (state h.entries).events + 1; evicted = None }) is

    abbrev new : Page
    new = page_of doc came

    none_yet : document_of (paged h.entries docs) flight ≡ None
    none_yet = absent (document_of (paged h.entries docs) flight) (b.known flight ∙ flying_landed (state h.entries).flights flight f is flying)
      where
        absent : (o : Option Doc) → is_some o ≡ false → o ≡ None
        absent None e = refl
        absent (Some x) e = cc

    here : document_of (paged h.entries docs ++ new ∷ []) flight ≡ Some doc
    here =
        document_last (paged h.entries docs) (new ∷ []) flight b.right none_yet
        ∙ ap (λ (c : Bool). if c then Some doc else None) (eq-eqb flight flight refl)

    -- of another flight it tells nothing
    there : (m : ℕ) → (m ≡ flight → ⊥) → document_of (paged h.entries docs ++ new ∷ []) m ≡ document_of (paged h.entries docs) m
    there m apart =
        elim (document_of (paged h.entries docs) m) as (λ o. document_of (paged h.entries docs) m ≡ o → document_of (paged h.entries docs ++ new ∷ []) m ≡ o) [
          | None ↦ λ none. document_last (paged h.entries docs) (new ∷ []) m b.right none ∙ elsewhere m apart
          | Some d ↦ λ some. document_more (paged h.entries docs) (new ∷ []) m d some
        ] refl
      where
        elsewhere : (m : ℕ) → (m ≡ flight → ⊥) → document_of (new ∷ []) m ≡ None
        elsewhere m apart = elim (cases_Bool (flight == m)) [
          | inl same ↦ absurd (apart (sym (eqb-true flight m same)))
          | inr differs ↦ ap (λ (c : Bool). if c then Some doc else None) differs
        ]

    known_now : (m : ℕ) → is_some (document_of (paged h.entries docs ++ new ∷ []) m) ≡ landed_in next.flights m
    known_now m = elim (number_cases m flight) [
      | inl same ↦
          ap (λ (k : ℕ). is_some (document_of (paged h.entries docs ++ new ∷ []) k)) same ∙ ap is_some here
          ∙ sym (ap (landed_in next.flights) same ∙ ended_same (state h.entries).flights flight (end.Published version) f is)
      | inr apart ↦
          let other : m ≡ flight → ⊥ = apart_numbers m flight apart in
          ap is_some (there m other) ∙ b.known m ∙ sym (ended_other (state h.entries).flights flight (end.Published version) m other)
    ]

    pub keeps_in : IsBook (record h { entries = h.entries ++ came ∷ [] }) made (published shot f.iri (record { doc = doc; flight = flight; version = version })) (docs ++ doc ∷ [])
    keeps_in =
        made_of h.limits (h.entries ++ came ∷ []) made (published shot f.iri (record { doc = doc; flight = flight; version = version })) (docs ++ doc ∷ [])
        (paged h.entries docs ++ new ∷ []) next
        (paged_with h.entries came docs doc b.used b.right refl) (pushed h.entries came ∙ next_is)
        b.within (b.passes ∙ sym (length-ended (state h.entries).flights flight (end.Published version)))
        (left_with h.entries came docs doc b.used b.right refl)
        (right_with (paged h.entries docs) new b.right answer)
        known_now
        (shows_in (paged h.entries docs) (new ∷ []) (state h.entries) next shot b.shows f.iri (record { flight = flight; version = version; answer = given })
        (record { doc = doc; flight = flight; version = version }) (ap (option_map (λ d. record { doc = d; flight = flight; version = version })) here) refl refl)

  -- a step that appends nothing, or one such entry
  pub keeps_none : {A : Type 0} (step : Option (Taken A)) → appended step ≡ [] → IsBook (grown h step) made shot docs
  keeps_none step none = subst (λ (es : Entries). IsBook (record h { entries = es }) made shot docs) (sym (ap (λ (es : Entries). h.entries ++ es) none ∙ append-nil h.entries)) b

  pub keeps_one : {A : Type 0} (step : Option (Taken A)) (entry : Entry (List ℕ) Given) → appended step ≡ entry ∷ [] → IsCalm (state h.entries) entry.event
      → (n : ℕ) → n ≡ made + begins entry.event → IsBook (grown h step) n shot docs
  keeps_one step entry is calm n more = subst (λ (es : Entries). IsBook (record h { entries = h.entries ++ es }) n shot docs) (sym is) (keeps_calm entry calm n more)

-- a context goes out, and one such entry follows
pub keeps_two : (h : History) (made : ℕ) (shot : Shot) (docs : List Doc) → IsBook h made shot docs → {A : Type 0} (step : Option (Taken A)) (session : ℕ) (iri : List ℕ) (version : ℕ)
    (entry : Entry (List ℕ) Given) → appended step ≡ plain (event.Evicted session iri version) ∷ entry ∷ []
    → IsCalm (state (h.entries ++ plain (event.Evicted session iri version) ∷ [])) entry.event → (n : ℕ) → n ≡ made + begins entry.event → IsBook (grown h step) n (evicted shot iri version) docs
keeps_two h made shot docs b step session iri version entry is calm n more =
    let out : Entry (List ℕ) Given = plain (event.Evicted session iri version) in
    let both : IsBook (record h { entries = (h.entries ++ out ∷ []) ++ entry ∷ [] }) n (evicted shot iri version) docs =
    keeps_calm (record h { entries = h.entries ++ out ∷ [] }) made (evicted shot iri version) docs (keeps_out h made shot docs b session iri version) entry calm n more in
    subst (λ (es : Entries). IsBook (record h { entries = es }) n (evicted shot iri version) docs) (append_assoc h.entries (out ∷ []) (entry ∷ []) ∙ ap (λ (es : Entries). h.entries ++ es) (sym is)) both
