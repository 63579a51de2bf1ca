-- Sources and sinks over memory.
use Rattle.std.specs.Prelude.{ℕ, ◌+◌, ◌-◌, ◌^◌, min, List, Contains}
use Rattle.ld_edge.specs.Faults.{Count}

-- the calls so far, the numbers of those that fail, counted from 1, and the failures so far
pub record Plan : Type 0 where
  pub calls : ℕ
  pub fail_at : List ℕ
  pub faults : Count

-- the number of the call after n calls, which stands still at the last value of a `u64`
abbrev pub next_call : ℕ → ℕ
next_call n = min (n + 1) (2 ^ 64 - 1)

-- the next call is among those that fail
abbrev pub NextFails : Plan → Type 0
NextFails p = Contains p.fail_at (next_call p.calls)

-- the bytes given so far, those left, and the most that one call gives
pub record Reading : Type 0 where
  pub given : List ℕ
  pub left : List ℕ
  pub piece : ℕ
  pub plan : Plan

-- the bytes held, and the most that one call takes
pub record Writing : Type 0 where
  pub held : List ℕ
  pub piece : ℕ
  pub plan : Plan

-- the two sides of a link
pub record Ends : Type 0 where
  pub source : Reading
  pub sink : Writing
