-- What a round of revisions has done when it ends.
use Rattle.std.specs.Prelude.{◌≡◌, ◌⊎◌, ◌+◌, ℕ, Bool, true, false, ◌||◌, if◌then◌else◌, List, [], ◌∷◌, ◌++◌, length, map, Option, Some, None}
use mathlib.Core.List.{IsPrefix}
use Rattle.ld_fits.specs.Fits.{Leads}
use Rattle.ld_fits.specs.Play.{Request, Revising, replied}
use Rattle.ld_flight.specs.Loads.{Loading}
use Rattle.ld_flight.specs.declared.given.Given as loader
use Rattle.ld_head.specs.declared.outcome.Outcome.{Outcome}
use Rattle.ld_head.specs.declared.outcome.Outcome.TheVariants as outcome
use Rattle.ld_history.specs.declared.event.Event.{Event}
use Rattle.ld_history.specs.declared.event.Event.TheVariants as event
use Rattle.ld_history.specs.declared.event.How.TheVariants as how
use Rattle.ld_history.specs.declared.limits.Limits.{Limits}
use Rattle.ld_book.specs.Pages.{Pages, entries_of}
use Rattle.ld_moves.specs.Stocks.{stocks}
use Rattle.ld_own.specs.Loads.{Gained, Spans}
use Rattle.ld_own.specs.Own.{Placed, own_placed}
use Rattle.ld_rec.specs.Outcome.{Stock}
use Rattle.ld_session.specs.Serving.{HadNoRoom, WasFull}
use Rattle.ld_revise.specs.declared.round.RoundEnd.{RoundEnd}
use Rattle.ld_revise.specs.declared.round.RoundEnd.TheVariants as ending
use Rattle.ld_revise.specs.declared.tally.Tally.{Tally}

-- ---- how requests were answered

abbrev pub is_revised : Outcome → Bool
is_revised (outcome.Revised version) = true
is_revised _ = false

abbrev pub is_same : Outcome → Bool
is_same (outcome.Same version) = true
is_same _ = false

abbrev pub is_failed : Outcome → Bool
is_failed (outcome.LoadFault body) = true
is_failed _ = false

abbrev pub is_refused : Outcome → Bool
is_refused (outcome.NotStored version) = true
is_refused (outcome.Flying flight) = true
is_refused (outcome.ArchiveFull bytes) = true
is_refused _ = false

-- what a revision is answered otherwise is want of memory
abbrev pub is_counted : Outcome → Bool
is_counted o = is_revised o || is_same o || is_failed o || is_refused o

-- how many of the answers are so
abbrev pub count : (Outcome → Bool) → List Outcome → ℕ
count is_so [] = 0
count is_so (o ∷ outcomes) = (if is_so o then 1 else 0) + count is_so outcomes

-- The numbers are those of these answers, of which each is counted.
pub record IsTally (outcomes : List Outcome) (tally : Tally) : Type 0 where
  pub revised : tally.revised ≡ count is_revised outcomes
  pub same : tally.same ≡ count is_same outcomes
  pub failed : tally.failed ≡ count is_failed outcomes
  pub refused : tally.refused ≡ count is_refused outcomes
  pub whole : tally.revised + tally.same + tally.failed + tally.refused ≡ length outcomes

-- ---- a round's requests

-- a request whose answer is written to nobody
abbrev pub unheard : (number version : ℕ) → Request
unheard number version = record { number = number; version = version; marks = record { interim = false; closes = false; head_alone = false }; items = []; text = [] }

-- the IRIs of a stock, in their order
abbrev pub names : Stock → List (List ℕ)
names stock = map (λ e. e.0) stock.0

module _ (limits : Limits) (stock : ℕ → Stock) where
  -- These entries are one request: it pins a version, and from there on they lead to this answer of a revision.
  pub record Revises (iri : List ℕ) (o : Outcome) (mine : List Placed) : Type 0 where
    pub session : ℕ
    pub request : ℕ
    pub attempt : ℕ
    pub version : ℕ
    pub pin : Placed
    pub since : List Placed
    pub are : mine ≡ pin ∷ since
    pub pins : pin.entry.event ≡ event.Pinned session request attempt version
    pub leads : Leads limits stock (Revising (unheard request version) iri) since (replied (unheard request version) (Some o))

  -- One such request for each of the contexts, in their order, and their answers.
  abbrev pub Revisions : List (List ℕ) → List Outcome → List Placed → Type 0
  Revisions [] [] mine = mine ≡ []
  Revisions (iri ∷ iris) (o ∷ outcomes) mine = (first rest : List Placed) × (mine ≡ first ++ rest) × Revises iri o first × Revisions iris outcomes rest
  Revisions _ _ mine = ⊥

  -- One request, which pins a version and is done.
  pub record WasEmpty (mine : List Placed) : Type 0 where
    pub session : ℕ
    pub request : ℕ
    pub attempt : ℕ
    pub version : ℕ
    pub answered : ℕ
    pub pin : Placed
    pub done : Placed
    pub are : mine ≡ pin ∷ done ∷ []
    pub pins : pin.entry.event ≡ event.Pinned session request attempt version
    pub is_done : done.entry.event ≡ event.Answered session answered how.Done

  -- The requests stopped before this context: none was begun for it, or one was, and is answered for want of memory.
  abbrev pub LackedAt : List (List ℕ) → List Placed → Type 0
  LackedAt [] mine = mine ≡ []
  LackedAt (iri ∷ iris) mine = (mine ≡ []) ⊎ ((o : Outcome) × (is_counted o ≡ false) × Revises iri o mine)

  pub record Lacked (iris : List (List ℕ)) (outcomes : List Outcome) (mine : List Placed) : Type 0 where
    pub done : List (List ℕ)
    pub rest : List (List ℕ)
    pub names_are : iris ≡ done ++ rest
    pub front : List Placed
    pub last : List Placed
    pub are : mine ≡ front ++ last
    pub revised : Revisions done outcomes front
    pub lacked : LackedAt rest last

  -- How far the requests for these contexts came, by the end. The history had no room for one more, at HistoryFull, and
  -- there was no memory, at NoMemory.
  abbrev pub Come : (full : ℕ → Type 0) → RoundEnd → List (List ℕ) → List Outcome → List Placed → Type 0
  Come full ending.Done iris outcomes mine = Revisions iris outcomes mine
  Come full (ending.HistoryFull events) iris outcomes mine = full events × (done : List (List ℕ)) × IsPrefix done iris × Revisions done outcomes mine
  Come full ending.NoMemory iris outcomes mine = Lacked iris outcomes mine

  -- Where the store was empty, one request is made that revises nothing.
  abbrev pub Ends : (full : ℕ → Type 0) → RoundEnd → List (List ℕ) → List Outcome → List Placed → Type 0
  Ends full ending.Done [] outcomes mine = (outcomes ≡ []) × WasEmpty mine
  Ends full e iris outcomes mine = Come full e iris outcomes mine

abbrev pub names_pinned : (ℕ → Stock) → Event (List ℕ) → List (List ℕ)
names_pinned stock (event.Pinned session request attempt version) = names (stock version)
names_pinned stock _ = []

-- the IRIs that the first of these entries pins
abbrev pub first_names : (ℕ → Stock) → List Placed → List (List ℕ)
first_names stock [] = []
first_names stock (p ∷ mine) = names_pinned stock p.entry.event

-- ---- a round

-- A session was opened and closed in the book of these pages, which go on from those that its seat had seen. In between
-- stand its requests: one for each context of the version that it pinned first, as far as the end says. What its loader
-- gave are the answers of the flights that it led, and the loader failed where these failed, one after another.
pub record IsRound (limits : Limits) (start pages : Pages) (session : ℕ) (before after : Loading) (tally : Tally) (e : RoundEnd) : Type 0 where
  pub seen : IsPrefix start pages
  pub opened : Placed
  pub mine : List Placed
  pub closed : Placed
  pub own : own_placed session (entries_of pages) ≡ opened ∷ mine ++ closed ∷ []
  pub seat : ℕ
  pub opens : opened.entry.event ≡ event.Opened session seat
  pub closes : closed.entry.event ≡ event.Closed session
  pub outcomes : List Outcome
  pub counted : IsTally outcomes tally
  pub ends : Ends limits (stocks pages) (HadNoRoom limits start pages session) e (first_names (stocks pages) mine) outcomes mine
  pub gained : List loader.Given
  pub gives : Gained (own_placed session (entries_of pages)) gained
  pub given_are : after.given ≡ before.given ++ gained
  pub spans : Spans before.faults (own_placed session (entries_of pages)) after.faults

-- why no session was opened: the book was full when it had these first pages, or there was no memory
abbrev pub IsTurnedDown : Limits → (start pages : Pages) → RoundEnd → Type 0
IsTurnedDown limits start pages ending.Done = ⊥
IsTurnedDown limits start pages (ending.HistoryFull events) = WasFull limits start pages events
IsTurnedDown limits start pages ending.NoMemory = Unit {0}

-- No session was opened, and nothing was done. The limits are those of the book that was found.
pub record IsNoRound (start pages : Pages) (before after : Loading) (tally : Tally) (e : RoundEnd) : Type 0 where
  pub limits : Limits
  pub unchanged : after ≡ before
  pub none : IsTally [] tally
  pub turned_down : IsTurnedDown limits start pages e

-- What came of a round, in a book that goes on from what its seat has seen by then.
abbrev pub IsRoundOf : (session : Option ℕ) → Limits → (start pages : Pages) → (before after : Loading) → Tally → RoundEnd → Type 0
IsRoundOf (Some session) limits start pages before after tally e = IsRound limits start pages session before after tally e
IsRoundOf None limits start pages before after tally e = IsNoRound start pages before after tally e
