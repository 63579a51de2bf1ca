-- The last mark is its seat's.
use Rattle.std.proofs.Common.{◌≡◌, ℕ, zero, suc, ◌<◌, ◌≤◌, List, [], ◌∷◌, ◌++◌, length, Option, Some, arith}
use Rattle.ld_turn.specs.History.{said_by}

pub said_by_last : {E : Type 0} (seat : E → Option ℕ) (xs : List E) (x : E) (i k : ℕ) → length xs ≤ i → i < length (xs ++ x ∷ []) → said_by seat (xs ++ x ∷ []) i ≡ Some k → seat x ≡ Some k
said_by_last seat [] x zero k le lt e = e
said_by_last seat [] x (suc i) k le lt e = absurd (omega (arith, lt))
said_by_last seat (y ∷ xs) x zero k le lt e = absurd (omega (arith, le))
said_by_last seat (y ∷ xs) x (suc i) k le lt e = said_by_last seat xs x i k (omega (arith, le)) (omega (arith, lt)) e
