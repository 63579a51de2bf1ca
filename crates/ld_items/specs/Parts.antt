-- What came of a head and of a body. `bytes` are those that were pending, and those that came; `after` are pending then.
use Rattle.std.specs.Prelude.{◌≡◌, ◌<◌, ℕ, false, List, ◌++◌, length}
use Rattle.ld_edge.specs.Faults.{Rose}
use Rattle.ld_edge.specs.Passing.{IsReadToEnd}
use Rattle.ld_edge.specs.Sides.{Incoming}
use Rattle.ld_head.specs.Dialogues.{front, is_due_at, Opens, Shuts, Stops, bad}
use Rattle.ld_head.specs.Dialogues as dialogues
use Rattle.ld_head.specs.Heads.{Accepts, Refuses, Says}
use Rattle.ld_items.specs.declared.body.Body.{Body}
use Rattle.ld_items.specs.declared.body.Body.TheVariants as body
use Rattle.ld_items.specs.declared.heading.Heading.{Heading}
use Rattle.ld_items.specs.declared.heading.Heading.TheVariants as heading

-- ---- a head

-- what a block says
abbrev pub ToldBy : List ℕ → Heading → Type 0
ToldBy block (heading.Whole h) = Says block (Accepts h)
ToldBy block (heading.Bad status was_head) = Says block (Refuses status was_head)
ToldBy block heading.NoMemory = Unit {0}
ToldBy block _ = ⊥

-- where it is whole or refused, it is so whatever comes after the bytes
abbrev pub Heads : (bytes after : List ℕ) → Heading → Type 0
Heads bytes after (heading.Whole h) = (block : List ℕ) × Says block (Accepts h) × ((more : List ℕ) → front (bytes ++ more) ≡ dialogues.Whole block (after ++ more))
Heads bytes after (heading.Bad status was_head) = (n : ℕ) (more : List ℕ) → Opens n (bytes ++ more) (Shuts (bad status was_head))
Heads bytes after (heading.Ended ending) = ((n : ℕ) → Opens n bytes (Stops ending)) × (is_due_at ending ≡ false)
Heads bytes after (heading.Fault ending) = ((n : ℕ) → Opens n bytes (Stops ending)) × (is_due_at ending ≡ false)
Heads bytes after heading.NoMemory = Unit {0}

abbrev pub HeadEnds : Incoming → Heading → Type 0
HeadEnds source (heading.Ended ending) = IsReadToEnd source
HeadEnds source _ = Unit {0}

abbrev pub HeadCounts : ℕ → ℕ → Heading → Type 0
HeadCounts before after (heading.Fault ending) = Rose before after
HeadCounts before after _ = after ≡ before

-- ---- a body

abbrev pub Bodies : (count : ℕ) → (bytes after : List ℕ) → Body → Type 0
Bodies count bytes after (body.Whole own) = (length own ≡ count) × (bytes ≡ own ++ after)
Bodies count bytes after body.Cut = length bytes < count
Bodies count bytes after body.Fault = length bytes < count
Bodies count bytes after body.NoMemory = Unit {0}

abbrev pub BodyEnds : Incoming → Body → Type 0
BodyEnds source body.Cut = IsReadToEnd source
BodyEnds source _ = Unit {0}

abbrev pub BodyCounts : ℕ → ℕ → Body → Type 0
BodyCounts before after body.Fault = Rose before after
BodyCounts before after _ = after ≡ before
