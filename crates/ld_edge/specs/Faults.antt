-- Counts of failures.
use Rattle.std.specs.Prelude.{◌≡◌, ℕ, ◌+◌, ◌-◌, ◌^◌, ◌<◌, ◌≤◌, ◌⊎◌, min}

-- where each count stands still
abbrev pub last_count : ℕ
last_count = 2 ^ 63 - 1

-- how many calls of an object failed
pub record Count : Type 0 where
  pub number : ℕ
  pub in_range : number ≤ last_count

-- the number after one more failure
abbrev pub next_count : ℕ → ℕ
next_count n = min (n + 1) last_count

abbrev pub NeverFalls : ℕ → ℕ → Type 0
NeverFalls before after = before ≤ after

-- the number rose, or stands at its last value before and after
abbrev pub Rose : ℕ → ℕ → Type 0
Rose before after = (before < after) ⊎ ((before ≡ last_count) × (after ≡ last_count))

-- the failures of either of two sides, together
abbrev pub both_counts : ℕ → ℕ → ℕ
both_counts a b = min (a + b) last_count
