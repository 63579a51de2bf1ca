-- What the answer of a step tells of the entries that it appends.
use Rattle.std.proofs.Common.{◌≡◌, ℕ, ◌+◌, List, [], ◌∷◌, ◌++◌, length, refl, sym, ap, ◌∙◌, subst, Bool, true, false, Option, Some, None}
use Rattle.std.specs.Prelude.{is_some, if◌then◌else◌, nat_lt, nat_le, not, ◌&&◌, ◌==◌}
use Rattle.ld_history.specs.declared.limits.Limits.{Limits}
use Rattle.ld_history.specs.declared.event.Event.{Event}
use Rattle.ld_history.specs.declared.event.Event.TheVariants as event
use Rattle.ld_history.specs.declared.event.How.{How}
use Rattle.ld_history.specs.declared.event.How.TheVariants as how
use Rattle.ld_history.specs.declared.event.Given.{Given}
use Rattle.ld_history.specs.declared.event.Entry.{Entry}
use Rattle.ld_history.specs.declared.session.Session.{Session}
use Rattle.ld_history.specs.declared.session.Flight.{Flight}
use Rattle.ld_history.specs.declared.session.Flying.{Flying}
use Rattle.ld_history.specs.declared.answers.OpenAnswer.{OpenAnswer}
use Rattle.ld_history.specs.declared.answers.OpenAnswer.TheVariants as open_answer
use Rattle.ld_history.specs.declared.answers.PinAnswer.{PinAnswer}
use Rattle.ld_history.specs.declared.answers.PinAnswer.TheVariants as pin_answer
use Rattle.ld_history.specs.declared.answers.LackAnswer.{LackAnswer}
use Rattle.ld_history.specs.declared.answers.LackAnswer.TheVariants as lack_answer
use Rattle.ld_history.specs.declared.answers.PublishAnswer.{PublishAnswer}
use Rattle.ld_history.specs.declared.answers.PublishAnswer.TheVariants as publish_answer
use Rattle.ld_history.specs.declared.answers.EvictAnswer.{EvictAnswer}
use Rattle.ld_history.specs.declared.answers.EvictAnswer.TheVariants as evict_answer
use Rattle.ld_history.specs.declared.answers.ReviseAnswer.{ReviseAnswer}
use Rattle.ld_history.specs.declared.answers.ReviseAnswer.TheVariants as revise_answer
use Rattle.ld_history.specs.Store.{Store}
use Rattle.ld_history.specs.Words.{at_number, at_iri, flight_at, is_idle, is_lead, is_pinned, is_stored, is_stored_answer, is_under_way, places, history_has_room, archive_has_room, least_holder}
use Rattle.ld_history.specs.Rules.{Had, is_full, may_answer, may_close, may_fail, may_lapse, may_pin_again}
use Rattle.ld_history.specs.Legal.{Entries, History, is_in_stock, state}
use Rattle.ld_history.specs.Steps as steps
use Rattle.ld_history.specs.Steps.{Taken, Answers, appended, taken, plain, where_, of_found}
use Rattle.ld_history.proofs.LawReads.{read_fail}
use Rattle.ld_book.proofs.Steady.{IsCalm, begins}

-- what holds of the answer and the entries, where the step is taken
abbrev pub Holds : {A : Type 0} → (A → Entries → Type 0) → Option (Taken A) → Type 0
Holds P None = Unit {0}
Holds P (Some t) = P t.answer t.entries

module _ {A : Type 0} (P : A → Entries → Type 0) where
  pub said : (step : Option (Taken A)) → Holds P step → (a : A) → Answers step a → P a (appended step)
  said None h a is = cc
  said (Some t) h a is = let same : t.answer ≡ a = cc in subst (λ x. P x t.entries) same h

  in_where : (b : Bool) (t : Taken A) → P t.answer t.entries → Holds P (where_ b t)
  in_where true t h = h
  in_where false t h = tt

  in_where_true : (b : Bool) (t : Taken A) → (b ≡ true → P t.answer t.entries) → Holds P (where_ b t)
  in_where_true true t h = h refl
  in_where_true false t h = tt

  in_session : (o : Option Session) (f : Session → Option (Taken A)) → ((s : Session) → Holds P (f s)) → Holds P (of_found f o)
  in_session None f h = tt
  in_session (Some s) f h = h s

-- one entry, which makes no version and begins no flight
pub record IsSingle (store : Store) (entries : Entries) : Type 0 where
  pub event : Event (List ℕ)
  pub entries_are : entries ≡ plain event ∷ []
  pub calm : IsCalm store event
  pub begins_none : begins event ≡ 0

single : (store : Store) (e : Event (List ℕ)) → IsCalm store e → begins e ≡ 0 → IsSingle store (plain e ∷ [])
single store e calm none = record { event = e; entries_are = refl; calm = calm; begins_none = none }

-- ---- open a session
abbrev pub ByOpen : ℕ → OpenAnswer → Entries → Type 0
ByOpen seat (open_answer.Opened session) es = es ≡ plain (event.Opened session seat) ∷ []
ByOpen seat (open_answer.HistoryFull events) es = es ≡ []

pub open_says : (h : History) (seat : ℕ) → Holds (ByOpen seat) (steps.open_step h seat)
open_says h seat = in_where (ByOpen seat) _ (steps.opening h.limits (state h.entries) seat) opening_says
  where
    opening_says : ByOpen seat (steps.opening h.limits (state h.entries) seat).answer (steps.opening h.limits (state h.entries) seat).entries
    opening_says =
        elim (history_has_room h.limits (state h.entries)) as (λ b.
        ByOpen seat (if b then taken (open_answer.Opened ((state h.entries).opened + 1)) (plain (event.Opened ((state h.entries).opened + 1) seat) ∷ []) else taken (open_answer.HistoryFull (state h.entries).events) []).answer
        (if b then taken (open_answer.Opened ((state h.entries).opened + 1)) (plain (event.Opened ((state h.entries).opened + 1) seat) ∷ []) else taken (open_answer.HistoryFull (state h.entries).events) []).entries) [
          | true ↦ refl
          | false ↦ refl
        ]

-- ---- pin
abbrev pub ByPin : Store → ℕ → PinAnswer → Entries → Type 0
ByPin store session (pin_answer.Pinned request attempt version) es = (es ≡ plain (event.Pinned session request attempt version) ∷ []) × (version ≡ store.version)
ByPin store session (pin_answer.HistoryFull events) es = es ≡ []

module _ (limits : Limits) (store : Store) (session : ℕ) where
  first_says : (s : Session) (b : Bool)
      → ByPin store session (if b then steps.pinned store session (s.request + 1) 1 else taken (pin_answer.HistoryFull store.events) []).answer
      (if b then steps.pinned store session (s.request + 1) 1 else taken (pin_answer.HistoryFull store.events) []).entries
  first_says s true = (refl, refl)
  first_says s false = refl

  pinning_says : (s : Session) (b : Bool)
      → Holds (ByPin store session) (if b then Some (steps.pinning_first limits store session s) else where_ (may_pin_again store s.last) (steps.pinned store session s.request (s.attempt + 1)))
  pinning_says s true = first_says s (history_has_room limits store)
  pinning_says s false = in_where (ByPin store session) (may_pin_again store s.last) (steps.pinned store session s.request (s.attempt + 1)) (refl, refl)

pub pin_says : (h : History) (session : ℕ) → Holds (ByPin (state h.entries) session) (steps.pin_step h session)
pin_says h session =
    in_session (ByPin (state h.entries) session) (at_number (state h.entries).sessions session) (steps.pinning h.limits (state h.entries) session)
    (λ s. pinning_says h.limits (state h.entries) session s (is_idle s.last))

-- ---- lack
abbrev pub ByLack : Store → ℕ → List ℕ → LackAnswer → Entries → Type 0
ByLack store session iri (lack_answer.Led flight None) es = (es ≡ plain (event.Led session iri flight) ∷ []) × (flight ≡ length store.flights + 1)
ByLack store session iri (lack_answer.Led flight (Some out)) es =
    (es ≡ plain (event.Evicted session out.iri out.version) ∷ plain (event.Led session iri flight) ∷ []) × (flight ≡ length store.flights + 1)
ByLack store session iri _ es = IsSingle store es

module _ (had : Had) (limits : Limits) (store : Store) (session : ℕ) (iri : List ℕ) where
  abbrev P : LackAnswer → Entries → Type 0
  P = ByLack store session iri

  after_says : (out : Option (List ℕ)) → Holds P (steps.led_after store session iri out)
  after_says None = tt
  after_says (Some out) = (refl, refl)

  place_says : (b : Bool)
      → Holds P (if b then steps.led_after store session iri (steps.next_out store) else Some (taken (lack_answer.Led (length store.flights + 1) None) (plain (steps.led store session iri) ∷ [])))
  place_says true = after_says (steps.next_out store)
  place_says false = (refl, refl)

  room_says : (s : Session) (b : Bool)
      → Holds P (if not b then Some (steps.ending session s (lack_answer.ArchiveFull store.bytes) (how.ArchiveFull store.bytes))
      else if places store == limits.contexts then steps.led_after store session iri (steps.next_out store)
      else Some (taken (lack_answer.Led (length store.flights + 1) None) (plain (steps.led store session iri) ∷ [])))
  room_says s true = place_says (places store == limits.contexts)
  room_says s false = single store (event.Answered session s.request (how.ArchiveFull store.bytes)) tt refl

  leading_says : (s : Session) (b : Bool)
      → Holds P (if b then Some (steps.ending session s lack_answer.StoreFull how.StoreFull)
      else if not (archive_has_room limits store) then Some (steps.ending session s (lack_answer.ArchiveFull store.bytes) (how.ArchiveFull store.bytes))
      else if places store == limits.contexts then steps.led_after store session iri (steps.next_out store)
      else Some (taken (lack_answer.Led (length store.flights + 1) None) (plain (steps.led store session iri) ∷ [])))
  leading_says s true = single store (event.Answered session s.request how.StoreFull) tt refl
  leading_says s false = room_says s (archive_has_room limits store)

  joining_says : (s : Session) (o : Option Flying) → Holds P (steps.joining limits store session iri s o)
  joining_says s None = leading_says s (is_full limits store)
  joining_says s (Some lead) = single store (event.Joined session iri lead.flight) tt refl

  there_says : (s : Session) (b : Bool)
      → Holds P (if b then Some (taken lack_answer.There (plain (event.Found session iri) ∷ [])) else steps.joining limits store session iri s (at_iri store.leads iri))
  there_says s true = single store (event.Found session iri) tt refl
  there_says s false = joining_says s (at_iri store.leads iri)

  missing_says : (s : Session) (b : Bool)
      → Holds P (if not b then Some (steps.ending session s (lack_answer.TooMany (length s.held)) (how.TooMany iri))
      else if is_stored store iri then Some (taken lack_answer.There (plain (event.Found session iri) ∷ []))
      else steps.joining limits store session iri s (at_iri store.leads iri))
  missing_says s true = there_says s (is_stored store iri)
  missing_says s false = single store (event.Answered session s.request (how.TooMany iri)) tt refl

  lacking_says : (s : Session) (b : Bool) → Holds P (if b then steps.missing limits store session iri s else None)
  lacking_says s true = missing_says s (nat_lt (length s.held) limits.held)
  lacking_says s false = tt

  pub lack_taken_says : Holds P (steps.lack_taken had limits store session iri)
  lack_taken_says = in_session P (at_number store.sessions session) (λ s. if steps.may_lack had iri s then steps.missing limits store session iri s else None) (λ s. lacking_says s (steps.may_lack had iri s))

pub lack_says : (h : History) (session : ℕ) (iri : List ℕ) → Holds (ByLack (state h.entries) session iri) (steps.lack_step h session iri)
lack_says h session iri = lack_taken_says (is_in_stock h.entries) h.limits (state h.entries) session iri

-- ---- publish
abbrev pub ByPublish : Store → ℕ → Given → PublishAnswer → Entries → Type 0
ByPublish store flight given (publish_answer.Published version) es = (es ≡ record { event = event.Published flight version; given = Some given } ∷ []) × (version ≡ store.version + 1)
ByPublish store flight given publish_answer.Same es = es ≡ record { event = event.Same flight; given = Some given } ∷ []

module _ (store : Store) (flight : ℕ) (given : Given) where
  publishing_says : (b : Bool)
      → ByPublish store flight given (if b then taken publish_answer.Same (record { event = event.Same flight; given = Some given } ∷ [])
      else taken (publish_answer.Published (store.version + 1)) (record { event = event.Published flight (store.version + 1); given = Some given } ∷ [])).answer
      (if b then taken publish_answer.Same (record { event = event.Same flight; given = Some given } ∷ [])
      else taken (publish_answer.Published (store.version + 1)) (record { event = event.Published flight (store.version + 1); given = Some given } ∷ [])).entries
  publishing_says true = refl
  publishing_says false = (refl, refl)

  published_says : (o : Option Flight) → Holds (ByPublish store flight given) (steps.publish_found store flight given o)
  published_says None = tt
  published_says (Some f) =
      in_where (ByPublish store flight given) (is_under_way f.end && nat_le given.length 1048577) (steps.publishing store flight given f)
      (publishing_says (not (is_lead f.kind) && is_stored_answer store f.iri given))

pub publish_says : (h : History) (flight : ℕ) (given : Given) → Holds (ByPublish (state h.entries) flight given) (steps.publish_step h flight given)
publish_says h flight given = published_says (state h.entries) flight given (flight_at (state h.entries).flights flight)

-- ---- evict
pub record IsOut (session : ℕ) (iri : List ℕ) (version : ℕ) (entries : Entries) : Type 0 where
  pub request : ℕ
  pub entries_are : entries ≡ plain (event.Evicted session iri version) ∷ plain (event.Answered session request (how.Evicted version)) ∷ []

abbrev pub ByEvict : Store → ℕ → List ℕ → EvictAnswer → Entries → Type 0
ByEvict store session iri (evict_answer.Evicted version) es = IsOut session iri version es × (version ≡ store.version + 1)
ByEvict store session iri _ es = IsSingle store es

module _ (store : Store) (session : ℕ) (iri : List ℕ) where
  abbrev Q : Taken EvictAnswer → Type 0
  Q t = ByEvict store session iri t.answer t.entries

  unrevised_says : (s : Session) (o : Option Flying) → Q (steps.evicting_unrevised store session iri s o)
  unrevised_says s None = (record { request = s.request; entries_are = refl }, refl)
  unrevised_says s (Some revision) = single store (event.Answered session s.request (how.Revising revision.flight)) tt refl

  unheld_says : (s : Session) (o : Option ℕ) → Q (steps.evicting_unheld store session iri s o)
  unheld_says s None = unrevised_says s (at_iri store.revisions iri)
  unheld_says s (Some holder) = single store (event.Answered session s.request (how.Held holder)) tt refl

  stored_says : (s : Session) (b : Bool)
      → Q (if b then steps.evicting_unheld store session iri s (least_holder store iri) else steps.ending session s (evict_answer.NotStored store.version) (how.NotStored store.version))
  stored_says s true = unheld_says s (least_holder store iri)
  stored_says s false = single store (event.Answered session s.request (how.NotStored store.version)) tt refl

pub evict_says : (h : History) (session : ℕ) (iri : List ℕ) → Holds (ByEvict (state h.entries) session iri) (steps.evict_step h session iri)
evict_says h session iri =
    in_session (ByEvict (state h.entries) session iri) (at_number (state h.entries).sessions session) (λ s. where_ (is_pinned s.last) (steps.evicting_stored (state h.entries) session iri s))
    (λ s. in_where (ByEvict (state h.entries) session iri) (is_pinned s.last) (steps.evicting_stored (state h.entries) session iri s) (stored_says (state h.entries) session iri s (is_stored (state h.entries) iri)))

-- ---- revise
abbrev pub ByRevise : Store → ℕ → List ℕ → ReviseAnswer → Entries → Type 0
ByRevise store session iri (revise_answer.Led flight) es = (es ≡ plain (event.ReviseLed session iri flight) ∷ []) × (flight ≡ length store.flights + 1)
ByRevise store session iri _ es = IsSingle store es

module _ (limits : Limits) (store : Store) (session : ℕ) (iri : List ℕ) where
  abbrev R : Taken ReviseAnswer → Type 0
  R t = ByRevise store session iri t.answer t.entries

  revising_says : (s : Session) (b : Bool)
      → R (if b then taken (revise_answer.Led (length store.flights + 1)) (plain (event.ReviseLed session iri (length store.flights + 1)) ∷ [])
      else steps.ending session s (revise_answer.ArchiveFull store.bytes) (how.ArchiveFull store.bytes))
  revising_says s true = (refl, refl)
  revising_says s false = single store (event.Answered session s.request (how.ArchiveFull store.bytes)) tt refl

  reviser_says : (s : Session) (o : Option Flying) → R (steps.revising_unrevised limits store session iri s o)
  reviser_says s None = revising_says s (archive_has_room limits store)
  reviser_says s (Some revision) = single store (event.Answered session s.request (how.Flying revision.flight)) tt refl

  revised_says : (s : Session) (b : Bool)
      → R (if b then steps.revising_unrevised limits store session iri s (at_iri store.revisions iri) else steps.ending session s (revise_answer.NotStored store.version) (how.NotStored store.version))
  revised_says s true = reviser_says s (at_iri store.revisions iri)
  revised_says s false = single store (event.Answered session s.request (how.NotStored store.version)) tt refl

pub revise_says : (h : History) (session : ℕ) (iri : List ℕ) → Holds (ByRevise (state h.entries) session iri) (steps.revise_step h session iri)
revise_says h session iri =
    in_session (ByRevise (state h.entries) session iri) (at_number (state h.entries).sessions session) (λ s. where_ (is_pinned s.last) (steps.revising_stored h.limits (state h.entries) session iri s))
    (λ s. in_where (ByRevise (state h.entries) session iri) (is_pinned s.last) (steps.revising_stored h.limits (state h.entries) session iri s) (revised_says h.limits (state h.entries) session iri s (is_stored (state h.entries) iri)))

-- ---- steps that take no memory
abbrev pub Settles : {A : Type 0} → Store → A → Entries → Type 0
Settles store a es = IsSingle store es

pub fail_says : (h : History) (flight before after : ℕ) → Holds (Settles (state h.entries)) (steps.fail_step h flight before after)
fail_says h flight before after =
    in_where_true (Settles (state h.entries)) (may_fail (state h.entries) flight before after) (taken tt (plain (event.Failed flight before after) ∷ []))
    (λ ok. single (state h.entries) (event.Failed flight before after) (read_fail (state h.entries) flight before after ok) refl)

pub lapse_says : (h : History) (flight : ℕ) → Holds (Settles (state h.entries)) (steps.lapse_step h flight)
lapse_says h flight =
    in_where_true (Settles (state h.entries)) (may_lapse (state h.entries) flight) (taken tt (plain (event.Lapsed flight) ∷ []))
    (λ ok. single (state h.entries) (event.Lapsed flight) ok refl)

pub close_says : (h : History) (session : ℕ) → Holds (Settles (state h.entries)) (steps.close_step h session)
close_says h session =
    in_where (Settles (state h.entries)) (may_close (state h.entries) session) (taken tt (plain (event.Closed session) ∷ []))
    (single (state h.entries) (event.Closed session) tt refl)

pub answer_says : (h : History) (session : ℕ) (said_so : How (List ℕ)) → Holds (Settles (state h.entries)) (steps.answer_step h session said_so)
answer_says h session said_so =
    in_session (Settles (state h.entries)) (at_number (state h.entries).sessions session)
    (λ s. where_ (may_answer (is_in_stock h.entries) h.limits (state h.entries) session s.request said_so) (steps.ending session s s.request said_so))
    (λ s. in_where (Settles (state h.entries)) (may_answer (is_in_stock h.entries) h.limits (state h.entries) session s.request said_so) (steps.ending session s s.request said_so)
    (single (state h.entries) (event.Answered session s.request said_so) tt refl))
