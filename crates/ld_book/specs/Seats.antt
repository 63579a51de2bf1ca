-- What the turns at a book tell: each page with the limits of its book, and the seat that it belongs to, which is that of
-- the session that its entry belongs to.
use Rattle.std.proofs.Common.{◌≡◌, ℕ, ◌<◌, List, ◌++◌, ◌∙◌, length, map, Option, ap, arith}
use Rattle.std.proofs.lemmas.List.{map-append, length-map}
use Rattle.ld_history.specs.Legal.{Entries}
use Rattle.ld_history.specs.Seats as seats
use Rattle.ld_history.specs.SeatsStay as seats_stay
use Rattle.ld_history.specs.declared.limits.Limits.{Limits}
use Rattle.ld_book.specs.declared.page.Line.{Line}
use Rattle.ld_book.specs.declared.page.Page.{Page}
use Rattle.ld_book.specs.Pages.{Booked, Pages}

abbrev pub Lines : Type 0
Lines = List Line

-- the pages under these limits
abbrev pub ruled : Limits → Pages → Lines
ruled limits pages = map (λ page. record { limits = limits; page = page }) pages

-- what a book tells
abbrev pub lines_of : Booked → Lines
lines_of book = ruled book.limits book.pages

-- the entries alone
abbrev pub entries_in : Lines → Entries
entries_in lines = map (λ (l : Line). l.page.entry) lines

abbrev pub seat_of : Lines → ℕ → Option ℕ
seat_of lines place = seats.seat_of (entries_in lines) place

-- it stays as the book grows
pub stays : (xs ys : Lines) (place : ℕ) → place < length xs → seat_of (xs ++ ys) place ≡ seat_of xs place
stays xs ys place lt =
    ap (λ (es : Entries). seats.seat_of es place) (map-append (λ (l : Line). l.page.entry) xs ys)
    ∙ seats_stay.seat_stays (entries_in xs) (entries_in ys) place (omega (arith, length-map xs (λ (l : Line). l.page.entry)))
