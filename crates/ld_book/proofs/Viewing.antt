-- What is seen of a book, from what it keeps.
use Rattle.std.proofs.Common.{◌≡◌, ℕ, List, [], ◌∷◌, ◌++◌, refl, sym, ap, ◌∙◌, subst, true, Option, Some, None, append-nil}
use Rattle.std.specs.Prelude.{is_some, map, Result, Ok, Err, OnOk}
use Rattle.std.specs.Option.{option_map}
use Rattle.std.specs.Arc.{arc_value}
use Rattle.std.specs.declared.sync.Arc.{Arc}
use Rattle.std.specs.declared.alloc.Global.{Global}
use Rattle.std.proofs.lemmas.List.{map-append}
use Rattle.ld_rec.specs.declared.doc.Doc.{Doc}
use Rattle.ld_store.specs.Snapshots.{Shot, doc_of, stock_at}
use Rattle.ld_tree.specs.formers.entries.Entries.{on_value}
use Rattle.ld_history.specs.Legal.{Entries, History, Legal, state, stock}
use Rattle.ld_history.specs.Store.{Store}
use Rattle.ld_history.specs.Steps.{Taken, Answers, appended, grown, publish_step}
use Rattle.ld_history.specs.declared.event.Event.TheVariants as event
use Rattle.ld_history.specs.declared.event.Given.{Given}
use Rattle.ld_history.specs.declared.event.Entry.{Entry}
use Rattle.ld_history.proofs.LawStocks.{current_stock}
use Rattle.ld_history.proofs.LawTold.{by_turns}
use Rattle.ld_book.specs.Pages.{Pages, Booked, entries_of, history_of, state_of, after_answer, after_step, documented, page_of, stock_of}
use Rattle.ld_book.specs.Documents.{ArePages}
use Rattle.ld_book.specs.Said.{Says}
use Rattle.ld_book.proofs.Taking.{says_so}
use Rattle.ld_book.specs.Kept.{values_in, paged, left_of, booked, Shows, IsBook}
use Rattle.ld_book.proofs.Paging.{entries_paged, history_booked, booked_on, paged_on, paged_with}
use Rattle.ld_book.proofs.Showing.{placed_documents, placed_flights}

module _ (h : History) (docs : List Doc) (book : Booked) (view : booked h docs ≡ book) where
  pub seen : history_of book ≡ h
  seen = sym (ap history_of view) ∙ history_booked h docs

  -- a step at which no document comes
  pub stepped : {A : Type 0} (step : History → Option (Taken A)) → left_of h.entries docs ≡ [] → (next : History) → next ≡ grown h (step h)
      → booked next docs ≡ after_step book (step (history_of book))
  stepped step used next is =
      ap (λ (x : History). booked x docs) is
      ∙ booked_on h docs (step h) used
      ∙ ap (λ (x : History). after_step (booked h docs) (step x)) (sym (history_booked h docs))
      ∙ ap (λ (x : Booked). after_step x (step (history_of x))) view

  -- a step at which a flight's answer came
  module _ (flight : ℕ) (given : Given) (doc : Doc) (used : left_of h.entries docs ≡ []) (next : History) (is : next ≡ grown h (publish_step h flight given)) where
    over_book : (documents : List Doc) → booked (grown h (publish_step h flight given)) documents ≡ after_answer (booked h docs) (publish_step h flight given) doc
        → booked next documents ≡ after_answer book (publish_step (history_of book) flight given) doc
    over_book documents one =
        ap (λ (x : History). booked x documents) is ∙ one
        ∙ ap (λ (x : History). after_answer (booked h docs) (publish_step x flight given) doc) (sym (history_booked h docs))
        ∙ ap (λ (x : Booked). after_answer x (publish_step (history_of x) flight given) doc) view

    pub came_in : ArePages (paged h.entries docs) → (version : ℕ) → appended (publish_step h flight given) ≡ record { event = event.Published flight version; given = Some given } ∷ []
        → booked next (docs ++ doc ∷ []) ≡ after_answer book (publish_step (history_of book) flight given) doc
    came_in right version one =
        let came : Entry (List ℕ) Given = record { event = event.Published flight version; given = Some given } in
        over_book (docs ++ doc ∷ [])
        (ap (λ (es : Entries). record { limits = h.limits; pages = paged (h.entries ++ es) (docs ++ doc ∷ []) }) one
        ∙ ap (λ (pages : Pages). record { limits = h.limits; pages = pages }) (paged_with h.entries came docs doc used right refl)
        ∙ ap (λ (es : Entries). record { limits = h.limits; pages = paged h.entries docs ++ map (page_of doc) es }) (sym one))

    pub was_same : appended (publish_step h flight given) ≡ record { event = event.Same flight; given = Some given } ∷ []
        → booked next docs ≡ after_answer book (publish_step (history_of book) flight given) doc
    was_same one =
        let same : Entry (List ℕ) Given = record { event = event.Same flight; given = Some given } in
        over_book docs
        (ap (λ (es : Entries). record { limits = h.limits; pages = paged (h.entries ++ es) docs }) one
        ∙ ap (λ (pages : Pages). record { limits = h.limits; pages = pages }) (paged_on h.entries (same ∷ []) docs used)
        ∙ ap (λ (es : Entries). record { limits = h.limits; pages = paged h.entries docs ++ map (page_of doc) es }) (sym one))

  -- what is said of its state is said of the history's
  pub in_state : (P : Store → Type 0) → P (state_of book) → P (state h.entries)
  in_state P is = subst (λ (x : History). P (state x.entries)) seen is

  -- an answer of the history's step is one of the book's
  pub answers_in : {A : Type 0} (step : History → Option (Taken A)) (a b : A) → Answers (step h) a → a ≡ b → Answers (step (history_of book)) b
  answers_in step a b is same = ap (λ (x : History). option_map (λ t. t.answer) (step x)) seen ∙ is ∙ ap Some same

  pub says_in : {A B : Type 0} (told : A → B) (step : History → Option (Taken A)) (a : A) (b : B) → Answers (step h) a → told a ≡ b → Says told (step (history_of book)) b
  says_in told step a b is same = ap (λ (x : History). option_map (λ t. told t.answer) (step x)) seen ∙ says_so told (step h) a is ∙ ap Some same

  -- the history stays
  pub still : (next : History) → next ≡ h → booked next docs ≡ book
  still next is = ap (λ (x : History). booked x docs) is ∙ view

-- one more document that is kept
pub values_more : (documents grew : List (Arc Doc Global)) (kept : Arc Doc Global) (doc : Doc) → grew ≡ documents ++ kept ∷ [] → arc_value kept ≡ doc → values_in grew ≡ values_in documents ++ doc ∷ []
values_more documents grew kept doc is same =
    ap values_in is ∙ map-append (λ (d : Arc Doc Global). arc_value d) documents (kept ∷ []) ∙ ap (λ (d : Doc). values_in documents ++ d ∷ []) same

-- said wherever the call is taken
pub whenever : {T E X : Type 0} (r : Result T E) → X → OnOk r X
whenever (Ok x) h = h
whenever (Err e) h = tt

-- a step that appends nothing
pub grown_none : {A : Type 0} (h : History) (step : Option (Taken A)) → appended step ≡ [] → grown h step ≡ h
grown_none h step none = ap (λ (es : Entries). record h { entries = h.entries ++ es }) none ∙ ap (λ (es : Entries). record h { entries = es }) (append-nil h.entries)

-- the stock of the current version is what the snapshot has
module _ (h : History) (made : ℕ) (shot : Shot) (docs : List Doc) (b : IsBook h made shot docs) (legal : Legal h.limits h.entries) where
  current : stock h.entries shot.version ≡ map {B = List ℕ × ℕ} (λ e. (e.0, e.1.flight)) (state h.entries).stored
  current = ap (stock h.entries) b.shows.version_is ∙ current_stock h.limits h.entries (by_turns h.limits h.entries legal)

  -- of the entries alone
  same_entries : entries_of (paged h.entries docs) ≡ h.entries
  same_entries = entries_paged h.entries docs

  pub flights_shown : map {B = List ℕ × ℕ} (λ e. (e.0, e.1.flight)) shot.placed.0 ≡ stock (entries_of (paged h.entries docs)) shot.version
  flights_shown = placed_flights (paged h.entries docs) shot.placed.0 (state h.entries).stored b.shows.placed_are ∙ sym current ∙ ap (λ (es : Entries). stock es shot.version) (sym same_entries)

  pub stock_shown : (stock_at shot).0 ≡ stock_of (paged h.entries docs) shot.version
  stock_shown =
      placed_documents (paged h.entries docs) shot.placed.0 (state h.entries).stored b.shows.placed_are
      ∙ ap (documented (paged h.entries docs)) (sym current ∙ ap (λ (es : Entries). stock es shot.version) (sym same_entries))
