-- What comes of a call, beside what comes of the definition over each stock.
use Rattle.std.specs.Prelude.{◌≡◌, ℕ, List, [], Result, Ok, Err}
use Rattle.ld_rec.specs.declared.stop.Stop.{Stop}
use Rattle.ld_rec.specs.declared.stop.Stop.TheVariants as stop
use Rattle.ld_rec.specs.Outcome.{Answer, Outcome, Stock}

-- what comes of a question over each stock
abbrev pub Runs : Type 0 → Type 0
Runs A = Stock → Outcome A

-- over each stock the same comes of the two
abbrev pub Alike : {A : Type 0} → Runs A → Runs A → Type 0
Alike o o' = (stock : Stock) → o stock ≡ o' stock

-- a refusal without a question
abbrev pub refused : {A : Type 0} → Stop → Outcome A
refused e = record { runs = 0; reads = []; result = Err e }

-- the refusal is the definition's, or want of memory, which has no cause
abbrev pub Stops : {A : Type 0} → Stop → Runs A → Type 0
Stops stop.NoMemory o = Unit {0}
Stops e o = (stock : Stock) → o stock ≡ refused e

-- the definition goes on as `rest` says of the call's value
abbrev pub ComesOf : {A B : Type 0} → (A → Runs B) → Result A Stop → Runs B → Type 0
ComesOf rest (Ok a) o = Alike o (rest a)
ComesOf rest (Err e) o = Stops e o

abbrev pub Comes : {A B : Type 0} → (A → Answer B) → Result A Stop → Answer B → Type 0
Comes rest r o = ComesOf (λ a. (rest a).run) r o.run

abbrev pub Same : {A : Type 0} → Answer A → Answer A → Type 0
Same o o' = Alike o.run o'.run
