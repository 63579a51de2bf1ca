-- What a book keeps over each step of its history, and what it answers.
use Rattle.std.proofs.Common.{◌≡◌, ℕ, zero, suc, ◌+◌, ◌≤◌, List, [], ◌∷◌, ◌++◌, length, refl, sym, ap, ◌∙◌, subst, Bool, true, false, Option, Some, None, arith, le-leb}
use Rattle.std.specs.Prelude.{is_some, if◌then◌else◌, map, unwrap_or, nat_le, not, ◌&&◌}
use Rattle.std.specs.Option.{option_map}
use Rattle.std.specs.Cmp.Lexicographic.{same_text}
use Rattle.ld_rec.specs.declared.doc.Doc.{Doc}
use Rattle.ld_store.specs.Snapshots.{Shot, Standing, doc_of, evicted, published}
use Rattle.ld_history.specs.declared.answers.OpenAnswer.{OpenAnswer}
use Rattle.ld_history.specs.declared.answers.OpenAnswer.TheVariants as open_answer
use Rattle.ld_history.specs.declared.answers.PinAnswer.{PinAnswer}
use Rattle.ld_history.specs.declared.answers.PinAnswer.TheVariants as pin_answer
use Rattle.ld_history.specs.declared.answers.LackAnswer.{LackAnswer}
use Rattle.ld_history.specs.declared.answers.LackAnswer.TheVariants as lack_answer
use Rattle.ld_history.specs.declared.answers.Out.{Out}
use Rattle.ld_history.specs.declared.answers.PublishAnswer.{PublishAnswer}
use Rattle.ld_history.specs.declared.answers.PublishAnswer.TheVariants as publish_answer
use Rattle.ld_history.specs.declared.answers.EvictAnswer.{EvictAnswer}
use Rattle.ld_history.specs.declared.answers.EvictAnswer.TheVariants as evict_answer
use Rattle.ld_history.specs.declared.answers.ReviseAnswer.{ReviseAnswer}
use Rattle.ld_history.specs.declared.answers.ReviseAnswer.TheVariants as revise_answer
use Rattle.ld_history.specs.declared.event.Event.TheVariants as event
use Rattle.ld_history.specs.declared.event.Given.{Given}
use Rattle.ld_history.specs.declared.session.Flight.{Flight}
use Rattle.ld_history.specs.declared.session.End.TheVariants as end
use Rattle.ld_history.specs.Store.{Store}
use Rattle.ld_history.specs.Words.{flight_at, is_lead, is_stored_answer, is_under_way, same_iri}
use Rattle.ld_history.specs.Rules.{is_flying, on_flight}
use Rattle.ld_history.specs.Legal.{Entries, History, state}
use Rattle.ld_history.specs.Steps as steps
use Rattle.ld_history.specs.Steps.{Taken, Answers, appended, grown, plain, where_, out_at, out_for}
use Rattle.ld_history.proofs.LawReads.{some_and, both, under_way_is}
use Rattle.ld_book.specs.Documents.{IsAnswer}
use Rattle.ld_book.specs.Kept.{IsBook}
use Rattle.ld_book.specs.Said.{Says}
use Rattle.ld_book.specs.Passes.{if_evicted, leads_lack, leads_revise, passes_for_lack, passes_for_revise}
use Rattle.ld_book.proofs.Steady.{IsCalm, begins}
use Rattle.ld_book.proofs.Keeping.{keeps_calm, keeps_in, keeps_none, keeps_one, keeps_two}
use Rattle.ld_book.proofs.Saying.{Holds, said, IsSingle, ByOpen, open_says, ByPin, pin_says, ByLack, lack_says, ByPublish, publish_says, ByEvict, evict_says, ByRevise, revise_says, Settles}

-- ---- what is answered
pub says_so : {A B : Type 0} (told : A → B) (step : Option (Taken A)) (a : A) → Answers step a → Says told step (told a)
says_so told None a is = cc
says_so told (Some t) a is = let same : t.answer ≡ a = cc in ap (λ x. Some (told x)) same

module _ (h : History) (made : ℕ) (shot : Shot) (docs : List Doc) (b : IsBook h made shot docs) where
  same_made : made ≡ made + 0
  same_made = omega arith

  -- a step that appends one entry, at which no flight begins
  pub keeps_single : {A : Type 0} (step : Option (Taken A)) → IsSingle (state h.entries) (appended step) → IsBook (grown h step) made shot docs
  keeps_single step s = keeps_one h made shot docs b step (plain s.event) s.entries_are s.calm made (same_made ∙ ap (λ (k : ℕ). made + k) (sym s.begins_none))

  -- the same, or none
  pub keeps_settled : {A : Type 0} (step : Option (Taken A)) → Holds (Settles (state h.entries)) step → IsBook (grown h step) made shot docs
  keeps_settled {A} None s = keeps_none h made shot docs b {A = A} None refl
  keeps_settled (Some t) s = keeps_single (Some t) s

  pub keeps_open : (seat : ℕ) (a : OpenAnswer) → Answers (steps.open_step h seat) a → IsBook (grown h (steps.open_step h seat)) made shot docs
  keeps_open seat (open_answer.Opened session) is =
      keeps_one h made shot docs b (steps.open_step h seat) (plain (event.Opened session seat)) (said (ByOpen seat) (steps.open_step h seat) (open_says h seat) (open_answer.Opened session) is) tt made same_made
  keeps_open seat (open_answer.HistoryFull events) is =
      keeps_none h made shot docs b (steps.open_step h seat) (said (ByOpen seat) (steps.open_step h seat) (open_says h seat) (open_answer.HistoryFull events) is)

  pub keeps_pin : (session : ℕ) (a : PinAnswer) → Answers (steps.pin_step h session) a → IsBook (grown h (steps.pin_step h session)) made shot docs
  keeps_pin session (pin_answer.Pinned request attempt version) is =
      keeps_one h made shot docs b (steps.pin_step h session) (plain (event.Pinned session request attempt version))
      (said (ByPin (state h.entries) session) (steps.pin_step h session) (pin_says h session) (pin_answer.Pinned request attempt version) is).0 tt made same_made
  keeps_pin session (pin_answer.HistoryFull events) is =
      keeps_none h made shot docs b (steps.pin_step h session) (said (ByPin (state h.entries) session) (steps.pin_step h session) (pin_says h session) (pin_answer.HistoryFull events) is)

  -- what is pinned is the snapshot's version
  pub pinned_now : (session request attempt version : ℕ) (a : PinAnswer) → Answers (steps.pin_step h session) a → a ≡ pin_answer.Pinned request attempt version → (s : Shot) → s ≡ shot
      → a ≡ pin_answer.Pinned request attempt s.version
  pinned_now session request attempt version a is same s shares =
      let told = said (ByPin (state h.entries) session) (steps.pin_step h session) (pin_says h session) (pin_answer.Pinned request attempt version) (is ∙ ap (λ (x : PinAnswer). Some x) same) in
      same ∙ ap (λ (v : ℕ). pin_answer.Pinned request attempt v) (told.1 ∙ sym b.shows.version_is ∙ ap (λ (x : Shot). x.version) (sym shares))

-- ---- lack
-- the snapshot after a lack
abbrev pub shot_with : Shot → Option Out → Shot
shot_with shot out = unwrap_or (option_map (λ (o : Out). evicted shot o.iri o.version) out) shot

pub out_is : (step : Option (Taken LackAnswer)) (a : LackAnswer) → Answers step a → out_at step ≡ out_for a
out_is None a is = cc
out_is (Some t) a is = let same : t.answer ≡ a = cc in ap out_for same

module _ (h : History) (made : ℕ) (shot : Shot) (docs : List Doc) (b : IsBook h made shot docs) (session : ℕ) (iri : List ℕ) where
  said_lack : (a : LackAnswer) → Answers (steps.lack_step h session iri) a → ByLack (state h.entries) session iri a (appended (steps.lack_step h session iri))
  said_lack a is = said (ByLack (state h.entries) session iri) (steps.lack_step h session iri) (lack_says h session iri) a is

  single_lack : IsSingle (state h.entries) (appended (steps.lack_step h session iri)) → IsBook (grown h (steps.lack_step h session iri)) (made + 0) shot docs
  single_lack s = subst (λ (k : ℕ). IsBook (grown h (steps.lack_step h session iri)) k shot docs) (omega arith) (keeps_single h made shot docs b (steps.lack_step h session iri) s)

  pub keeps_lack : (a : LackAnswer) → Answers (steps.lack_step h session iri) a → IsBook (grown h (steps.lack_step h session iri)) (made + passes_for_lack a) (shot_with shot (out_for a)) docs
  keeps_lack (lack_answer.Led flight None) is = keeps_one h made shot docs b (steps.lack_step h session iri) (plain (event.Led session iri flight)) (said_lack (lack_answer.Led flight None) is).0 tt (made + 1) refl
  keeps_lack (lack_answer.Led flight (Some out)) is =
      keeps_two h made shot docs b (steps.lack_step h session iri) session out.iri out.version (plain (event.Led session iri flight)) (said_lack (lack_answer.Led flight (Some out)) is).0 tt (made + 1) refl
  keeps_lack (lack_answer.TooMany held) is = single_lack (said_lack (lack_answer.TooMany held) is)
  keeps_lack lack_answer.There is = single_lack (said_lack lack_answer.There is)
  keeps_lack (lack_answer.Joined flight) is = single_lack (said_lack (lack_answer.Joined flight) is)
  keeps_lack lack_answer.StoreFull is = single_lack (said_lack lack_answer.StoreFull is)
  keeps_lack (lack_answer.ArchiveFull bytes) is = single_lack (said_lack (lack_answer.ArchiveFull bytes) is)

  -- a flight that is led has the next pass's number
  pub lack_flight : (a : LackAnswer) → Answers (steps.lack_step h session iri) a → leads_lack a (made + 1)
  lack_flight (lack_answer.Led flight None) is = (said_lack (lack_answer.Led flight None) is).1 ∙ ap (λ (k : ℕ). k + 1) (sym b.passes)
  lack_flight (lack_answer.Led flight (Some out)) is = (said_lack (lack_answer.Led flight (Some out)) is).1 ∙ ap (λ (k : ℕ). k + 1) (sym b.passes)
  lack_flight (lack_answer.TooMany held) is = tt
  lack_flight lack_answer.There is = tt
  lack_flight (lack_answer.Joined flight) is = tt
  lack_flight lack_answer.StoreFull is = tt
  lack_flight (lack_answer.ArchiveFull bytes) is = tt

  -- ---- evict
  said_evict : (a : EvictAnswer) → Answers (steps.evict_step h session iri) a → ByEvict (state h.entries) session iri a (appended (steps.evict_step h session iri))
  said_evict a is = said (ByEvict (state h.entries) session iri) (steps.evict_step h session iri) (evict_says h session iri) a is

  pub keeps_evict : (a : EvictAnswer) → Answers (steps.evict_step h session iri) a → IsBook (grown h (steps.evict_step h session iri)) made (unwrap_or (if_evicted a (evicted shot iri ((state h.entries).version + 1))) shot) docs
  keeps_evict (evict_answer.Evicted version) is =
      let s = said_evict (evict_answer.Evicted version) is in
      subst (λ (v : ℕ). IsBook (grown h (steps.evict_step h session iri)) made (evicted shot iri v) docs) s.1
      (keeps_two h made shot docs b (steps.evict_step h session iri) session iri version (plain (event.Answered session s.0.request _)) s.0.entries_are tt made (omega arith))
  keeps_evict (evict_answer.NotStored version) is = keeps_single h made shot docs b (steps.evict_step h session iri) (said_evict (evict_answer.NotStored version) is)
  keeps_evict (evict_answer.Held holder) is = keeps_single h made shot docs b (steps.evict_step h session iri) (said_evict (evict_answer.Held holder) is)
  keeps_evict (evict_answer.Revising flight) is = keeps_single h made shot docs b (steps.evict_step h session iri) (said_evict (evict_answer.Revising flight) is)

  -- ---- revise
  said_revise : (a : ReviseAnswer) → Answers (steps.revise_step h session iri) a → ByRevise (state h.entries) session iri a (appended (steps.revise_step h session iri))
  said_revise a is = said (ByRevise (state h.entries) session iri) (steps.revise_step h session iri) (revise_says h session iri) a is

  single_revise : IsSingle (state h.entries) (appended (steps.revise_step h session iri)) → IsBook (grown h (steps.revise_step h session iri)) (made + 0) shot docs
  single_revise s = subst (λ (k : ℕ). IsBook (grown h (steps.revise_step h session iri)) k shot docs) (omega arith) (keeps_single h made shot docs b (steps.revise_step h session iri) s)

  pub keeps_revise : (a : ReviseAnswer) → Answers (steps.revise_step h session iri) a → IsBook (grown h (steps.revise_step h session iri)) (made + passes_for_revise a) shot docs
  keeps_revise (revise_answer.Led flight) is = keeps_one h made shot docs b (steps.revise_step h session iri) (plain (event.ReviseLed session iri flight)) (said_revise (revise_answer.Led flight) is).0 tt (made + 1) refl
  keeps_revise (revise_answer.NotStored version) is = single_revise (said_revise (revise_answer.NotStored version) is)
  keeps_revise (revise_answer.Flying flight) is = single_revise (said_revise (revise_answer.Flying flight) is)
  keeps_revise (revise_answer.ArchiveFull bytes) is = single_revise (said_revise (revise_answer.ArchiveFull bytes) is)

  pub revise_flight : (a : ReviseAnswer) → Answers (steps.revise_step h session iri) a → leads_revise a (made + 1)
  revise_flight (revise_answer.Led flight) is = (said_revise (revise_answer.Led flight) is).1 ∙ ap (λ (k : ℕ). k + 1) (sym b.passes)
  revise_flight (revise_answer.NotStored version) is = tt
  revise_flight (revise_answer.Flying flight) is = tt
  revise_flight (revise_answer.ArchiveFull bytes) is = tt

-- ---- publish
-- the flight under way, of this IRI
pub record IsFlight (store : Store) (flight : ℕ) (iri : List ℕ) : Type 0 where
  pub f : Flight
  pub is : flight_at store.flights flight ≡ Some f
  pub under_way : is_under_way f.end ≡ true
  pub for_iri : f.iri ≡ iri

pub read_flight : (store : Store) (flight : ℕ) (iri : List ℕ) → on_flight store flight (λ f. same_iri f.iri iri) ≡ true → IsFlight store flight iri
read_flight store flight iri ok =
    let a = some_and _ _ ok in
    let p = both a.2 in
    record { f = a.0; is = a.1; under_way = p.0; for_iri = same_text a.0.iri iri (sym p.1) }

pub may_publish : (h : History) (flight : ℕ) (iri : List ℕ) (given : Given) → on_flight (state h.entries) flight (λ f. same_iri f.iri iri) ≡ true → given.length ≤ 1048577
    → steps.publish_step h flight given ≡ None → ⊥
may_publish h flight iri given ok short none =
    let w = read_flight (state h.entries) flight iri ok in
    some_where (is_under_way w.f.end) (nat_le given.length 1048577) w.under_way (le-leb given.length 1048577 short) (steps.publishing (state h.entries) flight given w.f)
    (sym (ap (steps.publish_found (state h.entries) flight given) w.is) ∙ none)
  where
    some_where : {A : Type 0} (a b : Bool) → a ≡ true → b ≡ true → (t : Taken A) → where_ (a && b) t ≡ None → ⊥
    some_where true true p q t e = cc
    some_where true false p q t e = cc
    some_where false b p q t e = cc

module _ (h : History) (made : ℕ) (shot : Shot) (docs : List Doc) (b : IsBook h made shot docs) (flight : ℕ) (given : Given) (doc : Doc) (iri : List ℕ)
    (ok : on_flight (state h.entries) flight (λ f. same_iri f.iri iri) ≡ true) (answer : IsAnswer given doc) where
  pub said_publish : (a : PublishAnswer) → Answers (steps.publish_step h flight given) a → ByPublish (state h.entries) flight given a (appended (steps.publish_step h flight given))
  said_publish a is = said (ByPublish (state h.entries) flight given) (steps.publish_step h flight given) (publish_says h flight given) a is

  pub keeps_published : (version : ℕ) → Answers (steps.publish_step h flight given) (publish_answer.Published version)
      → IsBook (grown h (steps.publish_step h flight given)) made (published shot iri (record { doc = doc; flight = flight; version = (state h.entries).version + 1 })) (docs ++ doc ∷ [])
  keeps_published version is =
      let w = read_flight (state h.entries) flight iri ok in
      let s = said_publish (publish_answer.Published version) is in
      subst (λ (es : Entries). IsBook (record h { entries = h.entries ++ es }) made (published shot iri (record { doc = doc; flight = flight; version = (state h.entries).version + 1 })) (docs ++ doc ∷ [])) (sym s.0)
      (subst (λ (v : ℕ). IsBook (record h { entries = h.entries ++ (record { event = event.Published flight version; given = Some given }) ∷ [] }) made (published shot iri (record { doc = doc; flight = flight; version = v })) (docs ++ doc ∷ [])) s.1
      (subst (λ (q : List ℕ). IsBook (record h { entries = h.entries ++ (record { event = event.Published flight version; given = Some given }) ∷ [] }) made (published shot q (record { doc = doc; flight = flight; version = version })) (docs ++ doc ∷ [])) w.for_iri
      (keeps_in h made shot docs b flight version given doc w.f w.is (under_way_is w.f.end w.under_way) answer)))

  pub keeps_same : Answers (steps.publish_step h flight given) publish_answer.Same → IsBook (grown h (steps.publish_step h flight given)) made shot docs
  keeps_same is =
      let w = read_flight (state h.entries) flight iri ok in
      keeps_one h made shot docs b (steps.publish_step h flight given) (record { event = event.Same flight; given = Some given }) (said_publish publish_answer.Same is)
      (ap (λ (o : Option Flight). is_some_and_flying o) w.is ∙ w.under_way) made (omega arith)
    where
      is_some_and_flying : Option Flight → Bool
      is_some_and_flying None = false
      is_some_and_flying (Some f) = is_under_way f.end
