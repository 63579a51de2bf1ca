-- The book that a visit finds at its turn goes on from what the visit has seen.
use Rattle.std.proofs.Common.{◌≡◌, ◌≢◌, ◌∙◌, ℕ, ◌<◌, ◌≤◌, [], ◌∷◌, ◌++◌, length, refl, sym, ap, subst, arith, Some}
use Rattle.std.proofs.lemmas.List.{map-append, length-map}
use mathlib.Core.List.{IsPrefix}
use Rattle.ld_history.specs.Legal.{AreWithin, Entries, Legal}
use Rattle.ld_history.specs.Seats as seats
use Rattle.ld_history.specs.Seats.{opened_in}
use Rattle.ld_history.specs.declared.limits.Limits.{Limits}
use Rattle.ld_own.proofs.Adding.{opened_stays, quiet_adds}
use Rattle.ld_book.specs.Documents.{ArePages}
use Rattle.ld_book.specs.Pages.{Booked, Pages, entries_of}
use Rattle.ld_book.specs.Seats.{Lines, entries_in, lines_of, ruled, seat_of}
use Rattle.ld_book.specs.declared.page.Line.{Line}
use Rattle.ld_book.specs.declared.page.Page.{Page}
use Rattle.ld_moves.specs.Moving.{Finds}
use Rattle.ld_moves.specs.Stocks.{IsSound}
use Rattle.ld_moves.proofs.Staying.{entries_on}
use Rattle.ld_turn.specs.History.{IsQuietFrom}
use Rattle.ld_turn.specs.Known.{Known, Turning}
use Rattle.ld_visit.specs.Turns.{Enters}
use Rattle.ld_visit.specs.Visits.{Visiting, limits_in, pages_in}

pub pages_back : (limits : Limits) (pages : Pages) → pages_in (ruled limits pages) ≡ pages
pages_back limits [] = refl
pages_back limits (p ∷ ps) = ap (λ (l : Pages). p ∷ l) (pages_back limits ps)

pub entries_back : (lines : Lines) → entries_in lines ≡ entries_of (pages_in lines)
entries_back [] = refl
entries_back (l ∷ ls) = ap (λ (es : Entries). l.page.entry ∷ es) (entries_back ls)

-- the entries that a book tells, and how many they are
pub entries_told : (book : Booked) → entries_in (lines_of book) ≡ entries_of book.pages
entries_told book = entries_back (lines_of book) ∙ ap entries_of (pages_back book.limits book.pages)

pub told_count : (book : Booked) → length (entries_of book.pages) ≡ length (lines_of book)
told_count book = sym (ap length (entries_told book)) ∙ length-map (lines_of book) (λ (l : Line). l.page.entry)

-- a book in which a session was opened tells its limits
pub limits_back : (limits : Limits) (pages : Pages) (session seat : ℕ) → opened_in (entries_of pages) session ≡ Some seat → limits_in (ruled limits pages) ≡ limits
limits_back limits [] session seat h = cc
limits_back limits (p ∷ ps) session seat h = refl

limits_front : (a r : Lines) (limits : Limits) (pages : Pages) (session seat : ℕ) → opened_in (entries_of (pages_in a)) session ≡ Some seat → a ++ r ≡ ruled limits pages → limits ≡ limits_in a
limits_front [] r limits pages session seat h e = cc
limits_front (l ∷ ls) r limits [] session seat h e = cc
limits_front (l ∷ ls) r limits (p ∷ ps) session seat h e = sym (ap limits_in e)

module _ (session number : ℕ) (a : Lines) (v : Booked) (opened : opened_in (entries_of (pages_in a)) session ≡ Some number) (grows : IsPrefix a (lines_of v)) where
  limits : v.limits ≡ limits_in a
  limits = limits_front a grows.0 v.limits v.pages session number opened grows.1

  pages : pages_in a ++ pages_in grows.0 ≡ v.pages
  pages = sym (map-append (λ (l : Line). l.page) a grows.0) ∙ ap pages_in grows.1 ∙ pages_back v.limits v.pages

  entries : entries_of (pages_in a) ++ entries_of (pages_in grows.0) ≡ entries_of v.pages
  entries = sym (entries_on (pages_in a) (pages_in grows.0)) ∙ ap entries_of pages

  pub opened_at : opened_in (entries_of v.pages) session ≡ Some number
  opened_at = subst (λ (es : Entries). opened_in es session ≡ Some number) entries (opened_stays (entries_of (pages_in a)) (entries_of (pages_in grows.0)) session number opened)

  seat_here : (i : ℕ) → seat_of (lines_of v) i ≡ seats.seat_of (entries_of v.pages) i
  seat_here i = ap (λ (es : Entries). seats.seat_of es i) (entries_told v)

  front_count : length (entries_of (pages_in a)) ≡ length a
  front_count = length-map (pages_in a) (λ (p : Page). p.entry) ∙ length-map a (λ (l : Line). l.page)

  pub finds_at : ((i : ℕ) → length a ≤ i → i < length (lines_of v) → seat_of (lines_of v) i ≢ Some number) → AreWithin v.limits → Legal v.limits (entries_of v.pages) → ArePages v.pages
      → Finds session (limits_in a) (pages_in a) v
  finds_at quiet within legal documents = record {
    limits_are = limits;
    grows = (pages_in grows.0, pages);
    quiet = quiet_adds session number (entries_of (pages_in a)) (entries_of v.pages) opened (entries_of (pages_in grows.0), entries)
        (λ i le lt is. quiet i (omega (arith, le, front_count)) (omega (arith, lt, told_count v)) (seat_here i ∙ is));
    sound = subst (λ (l : Limits). IsSound l v.pages) limits (record { within = within; legal = legal; documents = documents });
  }

abbrev pub visiting : ℕ → Known Line → Visiting
visiting session seat = record { lock = seat.lock; number = seat.number; session = session; limits = limits_in seat.front; pages = pages_in seat.front }

pub entered : (session : ℕ) (seat : Known Line) (turn : Turning Booked Line) → opened_in (entries_of (pages_in seat.front)) session ≡ Some seat.number
    → turn.seat ≡ record seat { front = turn.seat.front } → lines_of turn.value ≡ turn.seat.front → IsPrefix seat.front turn.seat.front
    → IsQuietFrom seat_of turn.seat.front (length seat.front) seat.number
    → AreWithin turn.value.limits → Legal turn.value.limits (entries_of turn.value.pages) → ArePages turn.value.pages → Enters (visiting session seat) turn
entered session seat turn opened same value front quiet within legal documents =
    let grows : IsPrefix seat.front (lines_of turn.value) = subst (λ (l : Lines). IsPrefix seat.front l) (sym value) front in
    let calm : IsQuietFrom seat_of (lines_of turn.value) (length seat.front) seat.number = subst (λ (l : Lines). IsQuietFrom seat_of l (length seat.front) seat.number) (sym value) quiet in
    record {
      lock_is = ap (λ (k : Known Line). k.lock) same;
      number_is = ap (λ (k : Known Line). k.number) same;
      front_is = sym value;
      finds = finds_at session seat.number seat.front turn.value opened grows calm within legal documents;
      opened = opened_at session seat.number seat.front turn.value opened grows;
    }
