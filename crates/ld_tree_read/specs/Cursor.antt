-- The place that a reader has come to.
use Rattle.std.specs.Prelude.{◌≡◌, ℕ, List, drop, Option, Some}
use Rattle.ld_tree_read.specs.declared.cursor.Cursor.{Cursor}
use Rattle.ld_tree_read.specs.State.{Level}
use Rattle.ld_tree_read.specs.declared.refusal.ReadRefusal.{ReadRefusal}
use Rattle.ld_tree_read.specs.Refusals.{refusal}
use Rattle.ld_tree_read.specs.State.{Here}

-- the bytes that are left
abbrev pub left : Cursor → List ℕ
left c = drop c.at c.input.now

-- the first refusal in the bytes that are left
abbrev pub ahead : Cursor → List Level → Here → Option ReadRefusal
ahead c fs here = refusal c.at fs here (left c)

-- from one place to another no refusal is passed
abbrev pub Leads : Cursor → Here → Cursor → Here → Type 0
Leads c here d there = (fs : List Level) → ahead c fs here ≡ ahead d fs there

-- this is the first refusal
abbrev pub Stops : Cursor → Here → ReadRefusal → Type 0
Stops c here e = (fs : List Level) → ahead c fs here ≡ Some e
