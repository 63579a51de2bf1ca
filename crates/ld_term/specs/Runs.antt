-- What is left of a definition between calls, and what a caller tells of a scoped context.
use Rattle.std.specs.Prelude.{◌≡◌, length, Result, Ok, Err}
use Rattle.ld_tree.specs.Names.{Sorted}
use Rattle.ld_tree.specs.declared.tree.Tree.{Tree}
use Rattle.ld_codes.specs.declared.code.Code.TheVariants.{InvalidScopedContext}
use Rattle.ld_rec.specs.declared.stop.Stop.{Stop}
use Rattle.ld_rec.specs.declared.stop.Stop.TheVariants as stop
use Rattle.ld_rec.specs.Outcome.{Answer, Outcome, Refuses, give, after}
use Rattle.ld_rec.specs.Records.{Context}
use Rattle.ld_rec.specs.Terms as terms
use Rattle.ld_rec.specs.Terms.{Made, Check}
use Rattle.ld_term.specs.declared.run.Next.{Next}
use Rattle.ld_term.specs.declared.run.Next.TheVariants as next
use Rattle.ld_term.specs.declared.run.Waiting.{Waiting}
use Rattle.ld_term.specs.declared.half.Step.TheVariants.{Check as ToCheck}
use Rattle.ld_term.specs.Waits.{from_stack}

-- what is left of a definition that waits for its scoped context, and of those that wait for it
abbrev pub from_waiting : Check → terms.Rest → Sorted Tree → Waiting → Made → Answer Made
from_waiting check rest local waiting made = from_stack check rest local (length local.0) waiting.stack.items (ToCheck waiting.ready) made

-- what is left after a call
abbrev pub from_next : Check → terms.Rest → Sorted Tree → Next → Made → Answer Made
from_next check rest local next.Done made = give made
from_next check rest local (next.Check waiting) made = from_waiting check rest local waiting made

-- what the caller tells is what the scoped context gives
abbrev pub Told : {A : Type 0} → Result A Stop → Result Context Stop → Type 0
Told (Ok a) r = (context : Context) × (r ≡ Ok context)
Told (Err e) r = Refuses e r

-- a code becomes `invalid scoped context`
abbrev pub scoped_stop : Stop → Stop
scoped_stop (stop.Code code) = stop.Code InvalidScopedContext
scoped_stop e = e

-- after what came of the scoped context the definition goes on as `rest` says of the call's value; want of memory has
-- no cause
abbrev pub Resumes : {A : Type 0} → (A → Outcome Made) → Result A Stop → Outcome Context → Outcome Made → Type 0
Resumes rest (Ok a) checked o = o ≡ after checked.runs checked.reads (rest a)
Resumes rest (Err stop.NoMemory) checked o = Unit {0}
Resumes rest (Err e) checked o = o ≡ record { runs = checked.runs; reads = checked.reads; result = Err e }
