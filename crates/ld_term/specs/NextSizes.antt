-- How much is left to do between calls.
use Rattle.std.specs.Prelude.{ℕ, ◌+◌, ◌*◌, ◌≤◌, Bool, List, length}
use Rattle.ld_tree.specs.Names.{Sorted}
use Rattle.ld_tree.specs.declared.tree.Tree.{Tree}
use Rattle.ld_term.specs.declared.run.Next.{Next}
use Rattle.ld_term.specs.declared.run.Next.TheVariants as next
use Rattle.ld_term.specs.declared.run.Waiting.{Waiting}
use Rattle.ld_term.specs.Sizes.{names_left, weights}

abbrev pub waiting_size : List (List ℕ × Tree) → Sorted Bool → Waiting → ℕ
waiting_size local table waiting = 13 * names_left local table + weights waiting.stack.items + 1

-- what is left to do after a call
abbrev pub next_size : List (List ℕ × Tree) → Sorted Bool → Next → ℕ
next_size local table next.Done = 0
next_size local table (next.Check waiting) = waiting_size local table waiting

-- the half-made definitions are of as many names that are in the table
abbrev pub WaitingFits : List (List ℕ × Tree) → Sorted Bool → Waiting → Type 0
WaitingFits local table waiting = length waiting.stack.items + 1 + names_left local table ≤ length local

abbrev pub NextFits : List (List ℕ × Tree) → Sorted Bool → Next → Type 0
NextFits local table next.Done = Unit {0}
NextFits local table (next.Check waiting) = WaitingFits local table waiting
