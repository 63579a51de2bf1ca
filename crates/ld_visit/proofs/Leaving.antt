-- A turn that adds a session's own entries may be left, and the visit goes on from there.
use Rattle.std.proofs.Common.{◌≡◌, ◌∙◌, ℕ, [], ◌++◌, length, refl, sym, ap, subst, arith, append-nil, Some, Option}
use Rattle.std.proofs.lemmas.List.{map-append}
use mathlib.Core.List.{IsPrefix}
use Rattle.ld_turn.specs.History.{IsOwnFrom}
use Rattle.ld_turn.specs.Known.{Known, Turning}
use Rattle.ld_history.specs.Legal.{AreWithin, Entries, Legal, state}
use Rattle.ld_history.specs.Seats as seats
use Rattle.ld_history.specs.Seats.{opened_in}
use Rattle.ld_history.specs.Steps.{Taken, appended}
use Rattle.ld_history.specs.declared.limits.Limits.{Limits}
use Rattle.ld_own.proofs.Adding.{opened_stays}
use Rattle.ld_book.specs.Documents.{ArePages}
use Rattle.ld_book.specs.Pages.{Booked, Pages, after_step, bare, entries_of}
use Rattle.ld_book.specs.Seats.{Lines, lines_of, ruled, seat_of}
use Rattle.ld_book.specs.declared.page.Line.{Line}
use Rattle.ld_book.specs.declared.page.Page.{Page}
use Rattle.ld_moves.specs.Stocks.{IsSound}
use Rattle.ld_moves.proofs.Quiet.{entries_bare}
use Rattle.ld_moves.proofs.Staying.{entries_on}
use Rattle.ld_visit.specs.Turns.{Adding, AreOwn, Enters, Leaves}
use Rattle.ld_visit.specs.Visits.{Took, Visiting, limits_in, pages_in}
use Rattle.ld_visit.proofs.Entering.{entries_told, limits_back, pages_back, told_count, visiting}
use Rattle.ld_visit.proofs.Owning.{Own, own_seats}

module _ (session : ℕ) (turn : Turning Booked Line) (h : Adding session turn) where
  lines_grow : turn.seat.front ++ ruled h.found.limits h.since ≡ lines_of turn.value
  lines_grow =
      ap (λ (l : Lines). l ++ ruled h.found.limits h.since) h.front_is
      ∙ sym (map-append (λ (p : Page). record { limits = h.found.limits; page = p }) h.found.pages h.since)
      ∙ ap (ruled h.found.limits) h.grows ∙ ap (λ (l : Limits). ruled l turn.value.pages) (sym h.limits_are)

  pub adding_grows : IsPrefix turn.seat.front (lines_of turn.value)
  adding_grows = (ruled h.found.limits h.since, lines_grow)

  entries_grow : entries_of h.found.pages ++ entries_of h.since ≡ entries_of turn.value.pages
  entries_grow = sym (entries_on h.found.pages h.since) ∙ ap entries_of h.grows

  pub adding_opened : opened_in (entries_of turn.value.pages) session ≡ Some turn.seat.number
  adding_opened = subst (λ (es : Entries). opened_in es session ≡ Some turn.seat.number) entries_grow (opened_stays (entries_of h.found.pages) (entries_of h.since) session turn.seat.number h.opened)

  seat_here : (i : ℕ) → seats.seat_of (entries_of h.found.pages ++ entries_of h.since) i ≡ seat_of (lines_of turn.value) i
  seat_here i = ap (λ (es : Entries). seats.seat_of es i) (entries_grow ∙ sym (entries_told turn.value))

  front_count : length (entries_of h.found.pages) ≡ length turn.seat.front
  front_count = told_count h.found ∙ ap length (sym h.front_is)

  later_count : length (entries_of h.found.pages ++ entries_of h.since) ≡ length (lines_of turn.value)
  later_count = ap length entries_grow ∙ told_count turn.value

  pub adding_own : IsOwnFrom seat_of (lines_of turn.value) (length turn.seat.front) turn.seat.number
  adding_own i k le lt is =
      own_seats session turn.seat.number (entries_of h.found.pages) (entries_of h.since) i k h.opened h.own (omega (arith, le, front_count)) (omega (arith, lt, later_count)) (seat_here i ∙ is)

  module _ (v : Booked) (is : v ≡ turn.value) (seat : Known Line) (front : seat.front ≡ lines_of v) (number : seat.number ≡ turn.seat.number) where
    pub left_opened : opened_in (entries_of (pages_in seat.front)) session ≡ Some seat.number
    left_opened =
        ap (λ (l : Lines). opened_in (entries_of (pages_in l)) session) front
        ∙ ap (λ (ps : Pages). opened_in (entries_of ps) session) (pages_back v.limits v.pages)
        ∙ ap (λ (b : Booked). opened_in (entries_of b.pages) session) is ∙ adding_opened ∙ ap Some (sym number)

    pub left : seat.lock ≡ turn.seat.lock → AreWithin v.limits → Legal v.limits (entries_of v.pages) → ArePages v.pages → Leaves session turn (visiting session seat)
    left lock within legal documents = record {
      lock_is = lock;
      number_is = number;
      session_is = refl;
      limits_are = ap limits_in front ∙ ap (λ (b : Booked). limits_in (lines_of b)) is ∙ limits_back turn.value.limits turn.value.pages session turn.seat.number adding_opened;
      pages_are = ap pages_in front ∙ pages_back v.limits v.pages ∙ ap (λ (b : Booked). b.pages) is;
      sound = subst (λ (b : Booked). IsSound b.limits b.pages) is (record { within = within; legal = legal; documents = documents });
    }

-- ---- at the end of a turn
abbrev pub turned : Turning Booked Line → Booked → Turning Booked Line
turned turn new = record turn { value = new }

module _ (visit : Visiting) (turn : Turning Booked Line) (e : Enters visit turn) (session : ℕ) (same : session ≡ visit.session) where
  opened : opened_in (entries_of turn.value.pages) session ≡ Some turn.seat.number
  opened = ap (opened_in (entries_of turn.value.pages)) same ∙ e.opened ∙ ap Some (sym e.number_is)

  -- these pages came
  pub adding_pages : (since : Pages) (new : Booked) → new.limits ≡ turn.value.limits → turn.value.pages ++ since ≡ new.pages → AreOwn session (state (entries_of turn.value.pages)) (entries_of since)
      → Adding session (turned turn new)
  adding_pages since new limits grows own = record { found = turn.value; front_is = e.front_is; limits_are = limits; since = since; grows = grows; opened = opened; own = own }

  pub adding_step : {A : Type 0} (t : Option (Taken A)) (new : Booked) → new ≡ after_step turn.value t → Own session (state (entries_of turn.value.pages)) t → Adding session (turned turn new)
  adding_step t new is own =
      adding_pages (bare (appended t)) new (ap (λ (b : Booked). b.limits) is) (sym (ap (λ (b : Booked). b.pages) is))
      (subst (AreOwn session (state (entries_of turn.value.pages))) (sym (entries_bare (appended t))) own)

  pub adding_none : (new : Booked) → new ≡ turn.value → Adding session (turned turn new)
  adding_none new is = adding_pages [] new (ap (λ (b : Booked). b.limits) is) (append-nil turn.value.pages ∙ sym (ap (λ (b : Booked). b.pages) is)) tt

  pub took_by : (new : Booked) (later : Visiting) → Leaves session (turned turn new) later → new.limits ≡ turn.value.limits → (step : Booked → Pages → Type 0) → step turn.value new.pages → Took visit later step
  took_by new later l limits step h = record {
    lock_is = l.lock_is ∙ e.lock_is;
    number_is = l.number_is ∙ e.number_is;
    session_is = l.session_is ∙ same;
    limits_are = l.limits_are ∙ limits ∙ e.finds.limits_are;
    sound = subst (λ (p : Pages). IsSound visit.limits p) (sym l.pages_are) (subst (λ (m : Limits). IsSound m new.pages) (limits ∙ e.finds.limits_are) l.sound);
    found = turn.value;
    finds = e.finds;
    took = subst (λ (p : Pages). step turn.value p) (sym l.pages_are) h;
  }
