-- A list of one.
use Rattle.std.proofs.Common.{ℕ, zero, suc, ◌<◌, ◌∷◌, [], All, arith}

pub All-one : {X : Type 0} (P : X → Type 0) (x : X) → P x → All P (x ∷ [])
All-one P x holds zero d inside = holds
All-one P x holds (suc k) d inside = absurd (grind (arith, inside))
