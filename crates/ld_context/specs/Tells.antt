-- What a call of the algorithm does to `Runs` and answers, beside what comes of the definition.
use Rattle.std.specs.Prelude.{◌≡◌, ℕ, zero, suc, ◌+◌, ◌-◌, ◌^◌, min, List, ◌++◌, Result, Ok, Err}
use Rattle.ld_rec.specs.declared.stop.Stop.{Stop}
use Rattle.ld_rec.specs.declared.stop.Stop.TheVariants as stop
use Rattle.ld_rec.specs.Outcome.{Outcome}
use Rattle.ld_context.specs.declared.runs.Runs.{Runs}

-- a count after so many more, which stands still at 2^64 - 1
abbrev pub raised : ℕ → ℕ → ℕ
raised count zero = count
raised count (suc n) = min (count + suc n) (2 ^ 64 - 1)

abbrev pub grown : Runs → ℕ → List (List ℕ) → Runs
grown runs more reads = record { count = raised runs.count more; read = runs.read ++ reads }

-- a result, and what it took with what was taken before it
pub record Tally (A : Type 0) : Type 0 where
  pub runs : Runs
  pub result : Result A Stop

abbrev pub tallied : {A : Type 0} → Runs → Outcome A → Tally A
tallied runs o = record { runs = grown runs o.runs o.reads; result = o.result }

-- the call answers what the definition gives, and took what the definition takes; want of memory tells nothing
abbrev pub Tells : {A B : Type 0} → (A → B) → Runs → Result A Stop → Tally B → Type 0
Tells view runs (Ok a) t = t ≡ record { runs = runs; result = Ok (view a) }
Tells view runs (Err stop.NoMemory) t = Unit {0}
Tells view runs (Err e) t = t ≡ record { runs = runs; result = Err e }
