-- A round that was opened, walked and closed, however the book goes on.
use Rattle.std.proofs.Common.{◌≡◌, ◌∙◌, ℕ, List, [], ◌∷◌, ◌++◌, refl, sym, ap, subst, append-nil, arith}
use mathlib.Core.List.{IsPrefix}
use Rattle.ld_flight.specs.Loads.{Loading}
use Rattle.ld_head.specs.declared.outcome.Outcome.{Outcome}
use Rattle.ld_history.specs.Legal.{state}
use Rattle.ld_history.specs.Steps.{plain}
use Rattle.ld_history.specs.declared.event.Event.TheVariants as event
use Rattle.ld_history.specs.declared.limits.Limits.{Limits}
use Rattle.ld_book.specs.Pages.{Booked, entries_of}
use Rattle.ld_book.specs.Seats.{lines_of}
use Rattle.ld_book.specs.declared.answers.RoomRefusal.{RoomRefusal}
use Rattle.ld_book.specs.declared.answers.RoomRefusal.TheVariants as room
use Rattle.ld_book.specs.declared.page.Line.{Line}
use Rattle.ld_own.specs.Loads.{Gained, Spans}
use Rattle.ld_own.specs.Own.{Placed, own_placed, placed}
use Rattle.ld_own.proofs.Adding.{adds_own}
use Rattle.ld_own.proofs.Loads.{gained_on, spans_on}
use Rattle.ld_moves.specs.Stocks.{IsSound, stocks}
use Rattle.ld_moves.proofs.Joining.{prefix_trans}
use Rattle.ld_moves.proofs.Staying.{stocks_stay_on}
use Rattle.ld_rec.specs.Outcome.{Stock}
use Rattle.ld_session.specs.Serving.{HadNoRoom, IsFull}
use Rattle.ld_session.proofs.Away.{was_full}
use Rattle.ld_session.proofs.Closing.{closed_pages, grows_closed, limits_closed, own_closed, own_later, own_opened, pages_closed, seen_opened}
use Rattle.ld_turn.specs.Known.{Known}
use Rattle.ld_visit.specs.Visits.{Closed, NotOpened, Opened, Visiting, pages_in}
use Rattle.ld_revise.specs.Rounds.{Come, Ends, IsNoRound, IsRound, IsTurnedDown, first_names}
use Rattle.ld_revise.specs.Walking.{Walks, end_by, nothing}
use Rattle.ld_revise.specs.declared.round.RoundEnd.{RoundEnd}
use Rattle.ld_revise.specs.declared.round.RoundEnd.TheVariants as ending
use Rattle.ld_revise.specs.declared.tally.Tally.{Tally}
use Rattle.ld_revise.proofs.Counting.{sums_none, tally_of}

come_as : (limits : Limits) (stock : ℕ → Stock) (full other : ℕ → Type 0) → ((n : ℕ) → full n → other n) → (e : RoundEnd) (iris : List (List ℕ)) (outcomes : List Outcome) (mine : List Placed)
    → Come limits stock full e iris outcomes mine → Come limits stock other e iris outcomes mine
come_as limits stock full other f ending.Done iris outcomes mine c = c
come_as limits stock full other f (ending.HistoryFull events) iris outcomes mine c = (f events c.0, c.1, c.2, c.3)
come_as limits stock full other f ending.NoMemory iris outcomes mine c = c

ends_as : (limits : Limits) (stock : ℕ → Stock) (full other : ℕ → Type 0) → ((n : ℕ) → full n → other n) → (e : RoundEnd) (iris : List (List ℕ)) (outcomes : List Outcome) (mine : List Placed)
    → Ends limits stock full e iris outcomes mine → Ends limits stock other e iris outcomes mine
ends_as limits stock full other f ending.Done [] outcomes mine c = c
ends_as limits stock full other f ending.Done (iri ∷ iris) outcomes mine c = c
ends_as limits stock full other f (ending.HistoryFull events) iris outcomes mine c = come_as limits stock full other f (ending.HistoryFull events) iris outcomes mine c
ends_as limits stock full other f ending.NoMemory iris outcomes mine c = c

module _ (start : Known Line) (visit later : Visiting) (left : Known Line) (o : Opened start visit) (c : Closed later left) (before after : Loading) (t : Tally) (e : RoundEnd) (w : Walks visit later before after t e)
    (book : Booked) (sound_book : IsSound book.limits book.pages) (grows : IsPrefix left.front (lines_of book)) where
  same : later.session ≡ visit.session
  same = w.went.session_is

  abbrev opened_at : Placed
  opened_at = placed (state (entries_of o.found.pages)) (plain (event.Opened visit.session start.number))

  abbrev closed_at : Placed
  closed_at = placed (state (entries_of c.found.pages)) (plain (event.Closed later.session))

  own_then : own_placed visit.session (entries_of later.pages) ≡ opened_at ∷ w.mine
  own_then = adds_own visit.session (entries_of visit.pages) (entries_of later.pages) w.mine w.went.adds ∙ ap (λ (ps : List Placed). ps ++ w.mine) (own_opened start visit o)

  own_now : own_placed visit.session (entries_of book.pages) ≡ own_placed visit.session (entries_of later.pages) ++ closed_at ∷ []
  own_now =
      subst (λ (n : ℕ). own_placed n (entries_of book.pages) ≡ own_placed n (entries_of later.pages) ++ closed_at ∷ []) same (own_later later left c book grows sound_book.legal ∙ own_closed later left c)

  own_all : own_placed visit.session (entries_of book.pages) ≡ opened_at ∷ w.mine ++ closed_at ∷ []
  own_all = own_now ∙ ap (λ (ps : List Placed). ps ++ closed_at ∷ []) own_then

  limits_are : book.limits ≡ visit.limits
  limits_are = limits_closed later left c book grows ∙ w.went.limits_are

  later_grows : IsPrefix later.pages book.pages
  later_grows = prefix_trans later.pages (closed_pages later left c) book.pages (grows_closed later left c) (pages_closed later left c book grows)

  visit_seen : IsPrefix (pages_in start.front) visit.pages
  visit_seen = seen_opened start visit o

  full_once : (n : ℕ) → IsFull later.limits later.pages n → HadNoRoom book.limits (pages_in start.front) book.pages visit.session n
  full_once n full = record {
    was = record {
      front = later.pages;
      seen = prefix_trans (pages_in start.front) visit.pages later.pages visit_seen w.went.grows;
      grows = later_grows;
      full = subst (λ (l : Limits). IsFull l later.pages n) (sym (limits_closed later left c book grows)) full;
    };
    last = closed_at;
    own = own_now;
  }

  ends_now : Ends book.limits (stocks book.pages) (HadNoRoom book.limits (pages_in start.front) book.pages visit.session) e (first_names (stocks book.pages) w.mine) w.outcomes w.mine
  ends_now =
      ends_as book.limits (stocks book.pages) (IsFull later.limits later.pages) (HadNoRoom book.limits (pages_in start.front) book.pages visit.session) full_once e (first_names (stocks book.pages) w.mine) w.outcomes w.mine
      (subst (λ (l : Limits). Ends l (stocks book.pages) (IsFull later.limits later.pages) e (first_names (stocks book.pages) w.mine) w.outcomes w.mine) (sym limits_are)
      (w.ends (stocks book.pages) (λ version le. stocks_stay_on book.limits later.pages book.pages version sound_book later_grows le)))

  pub is_round : IsRound book.limits (pages_in start.front) book.pages visit.session before after t e
  is_round = record {
    seen = prefix_trans (pages_in start.front) visit.pages book.pages visit_seen (prefix_trans visit.pages later.pages book.pages w.went.grows later_grows);
    opened = opened_at;
    mine = w.mine;
    closed = closed_at;
    own = own_all;
    seat = start.number;
    opens = refl;
    closes = ap (λ (n : ℕ). event.Closed n) same;
    outcomes = w.outcomes;
    counted = w.counted;
    ends = ends_now;
    gained = w.went.gained;
    gives = subst (λ (ps : List Placed). Gained ps w.went.gained) (sym own_all)
        ([], w.went.gained, refl, subst (Gained (w.mine ++ closed_at ∷ [])) (append-nil w.went.gained) (gained_on w.mine (closed_at ∷ []) w.went.gained [] w.went.gives ([], [], refl, refl, refl)), refl);
    given_are = w.went.given_are;
    spans = subst (λ (ps : List Placed). Spans before.faults ps after.faults) (sym own_all) (spans_on before.faults after.faults after.faults w.mine (closed_at ∷ []) w.went.spans (omega arith));
  }

-- ---- no session was opened
module _ (start later : Known Line) (refusal : RoomRefusal) (n : NotOpened start later refusal) (book : Booked) (grows : IsPrefix later.front (lines_of book)) where
  turned_down : (r : RoomRefusal) → refusal ≡ r → IsTurnedDown n.found.limits (pages_in start.front) book.pages (end_by r)
  turned_down room.NoMemory is = tt
  turned_down (room.HistoryFull events) is = was_full start later refusal n book grows events is

  pub is_no_round : (loader : Loading) → IsNoRound (pages_in start.front) book.pages loader loader nothing (end_by refusal)
  is_no_round loader = record { limits = n.found.limits; unchanged = refl; none = tally_of [] nothing (sums_none nothing); turned_down = turned_down refusal refl }
