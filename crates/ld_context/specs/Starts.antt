-- What a term's definition comes to over one stock. The words are closed, so that a goal that names one stays short.
use Rattle.std.specs.Prelude.{◌≡◌, List, ℕ, Result, Ok, Err}
use Rattle.ld_tree.specs.Names.{Sorted}
use Rattle.ld_tree.specs.declared.tree.Tree.{Tree}
use Rattle.ld_rec.specs.declared.stop.Stop.{Stop}
use Rattle.ld_rec.specs.declared.stop.Stop.TheVariants as stop
use Rattle.ld_rec.specs.Outcome.{Outcome, Stock}
use Rattle.ld_rec.specs.Terms.{Made, Check, Rest, defined}
use Rattle.ld_term.specs.Comes.{refused}
use Rattle.ld_term.specs.Runs.{from_next}
use Rattle.ld_term.specs.declared.run.Next.{Next}

unfoldable pub term_outcome : Check → Rest → Sorted Tree → List ℕ → Made → Stock → Outcome Made
term_outcome check rest local term made stock = (defined check rest local term made).run stock

-- what is left of it between calls
unfoldable pub left_outcome : Check → Rest → Sorted Tree → Next → Made → Stock → Outcome Made
left_outcome check rest local next made stock = (from_next check rest local next made).run stock

-- the call goes on as `rest` says of its value, or refuses without a question
abbrev pub Starts : {A B : Type 0} → (A → Outcome B) → Result A Stop → Outcome B → Type 0
Starts rest (Ok a) o = o ≡ rest a
Starts rest (Err stop.NoMemory) o = Unit {0}
Starts rest (Err e) o = o ≡ refused e
