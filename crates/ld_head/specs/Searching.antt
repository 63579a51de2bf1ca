-- The search for the end of a head, in bytes that come in pieces.
use Rattle.std.specs.Prelude.{◌≡◌, ℕ, ◌+◌, ◌<◌, ◌≤◌, List, ◌++◌, length, take, drop}
use Rattle.ld_head.specs.declared.finding.Place.{Place}
use Rattle.ld_head.specs.declared.finding.Searched.{Searched}
use Rattle.ld_head.specs.declared.finding.Searched.TheVariants.{Ended, Full, Goes}
use Rattle.ld_head.specs.Dialogues.{Whole, TooLong, front, front_from}

-- what a search of a piece found, after these bytes of the head, whatever comes after the piece
abbrev pub Finds : List ℕ → Place → List ℕ → Searched → Type 0
Finds seen place piece (Ended n) = (more : List ℕ) → front_from seen place (piece ++ more) ≡ Whole (seen ++ take n piece) (drop n piece ++ more)
Finds seen place piece Full = (more : List ℕ) → front_from seen place (piece ++ more) ≡ TooLong
Finds seen place piece (Goes later) = (more : List ℕ) → front_from seen place (piece ++ more) ≡ front_from (seen ++ piece) later more

-- the end of the head lies in the piece of so many bytes, behind its first, or there is room for more after it
abbrev pub IsInBounds : ℕ → ℕ → Searched → Type 0
IsInBounds seen n (Ended end) = (0 < end) × (end ≤ n)
IsInBounds seen n Full = Unit {0}
IsInBounds seen n (Goes place) = seen + n < 16384

-- the bytes were searched up to this place, whatever comes after them
pub record IsSearched (seen : List ℕ) (place : Place) : Type 0 where
  pub few : length seen < 16384
  pub goes_on : (more : List ℕ) → front (seen ++ more) ≡ front_from seen place more
