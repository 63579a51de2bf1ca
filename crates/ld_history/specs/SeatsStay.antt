-- The seat that an entry belongs to stays as the list grows.
use Rattle.std.proofs.Common.{◌≡◌, ℕ, zero, suc, ◌<◌, List, [], ◌∷◌, ◌++◌, length, slice_get, refl, arith}
use Rattle.std.proofs.lemmas.List.{take-append-le}
use Rattle.ld_history.specs.Legal.{Entries}
use Rattle.ld_history.specs.Seats.{seat_of}

get_stays : {A : Type 0} (xs ys : List A) (place : ℕ) → place < length xs → slice_get (xs ++ ys) place ≡ slice_get xs place
get_stays [] ys place lt = absurd (omega arith)
get_stays (x ∷ xs) ys zero lt = refl
get_stays (x ∷ xs) ys (suc place) lt = get_stays xs ys place (omega arith)

pub seat_stays : (xs ys : Entries) (place : ℕ) → place < length xs → seat_of (xs ++ ys) place ≡ seat_of xs place
seat_stays xs ys place lt = rw (take-append-le place xs ys (omega arith), get_stays xs ys place lt)
