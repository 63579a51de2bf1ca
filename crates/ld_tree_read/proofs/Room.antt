-- The room on the stack.
use Rattle.std.proofs.Common.{◌≡◌, refl, ℕ, ◌<◌, ◌≤◌, List, [], ◌∷◌, length, arith, rules}
use Rattle.std.specs.Vec.{vec_len}
use Rattle.std.specs.declared.vec.Vec.{Vec}
use Rattle.std.specs.declared.alloc.Global.{Global}
use Rattle.ld_tree_read.specs.declared.frame.Frame.{Frame}

pub long : (v : Vec Frame Global) {n : ℕ} → n ≡ vec_len v → 128 ≤ n → 128 ≤ length v.items
long v e h = search rules

pub short : (v : Vec Frame Global) {n : ℕ} → n ≡ vec_len v → n < 128 → length v.items < 128
short v e h = search rules

pub nil_items : (v : Vec Frame Global) → vec_len v ≡ 0 → length v.items ≡ 0
nil_items v e = search rules

pub empty : {X : Type 0} (xs : List X) → length xs ≡ 0 → xs ≡ []
empty [] e = refl
empty (x ∷ xs) e = absurd (omega arith)
