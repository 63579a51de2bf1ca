-- What the bytes that came so far say, in the words of a connection's dialogue.
use Rattle.std.specs.Prelude.{◌≡◌, ℕ, Bool, List, [], ◌∷◌, ◌++◌}
use Rattle.ld_head.specs.Dialogues.{Dialogue, IsDialogue, Marked, Speaks, is_due_at}
use Rattle.ld_head.specs.declared.dialogue.Ending.{Ending}
use Rattle.ld_items.specs.Taking.{Standing}

-- these items, and then what comes after them
abbrev pub after : List Marked → Dialogue → Dialogue
after items d = record { items = items ++ d.items; ending = d.ending }

-- what is said next has the interim text due
abbrev pub is_due_in : List Marked → Ending → Bool
is_due_in [] ending = is_due_at ending
is_due_in (item ∷ items) ending = item.marks.interim

abbrev pub is_due_next : Dialogue → Bool
is_due_next d = is_due_in d.items d.ending

-- The bytes that came say these items, whatever comes after them, and nothing else is said before what is read from here.
pub record HaveSaid (came : List ℕ) (items : List Marked) (p : Standing) : Type 0 where
  pub on : (more : List ℕ) (d : Dialogue) → Speaks p.items (p.pending ++ more) d → IsDialogue (came ++ more) (after items d)
  pub back : (more : List ℕ) (d : Dialogue) → IsDialogue (came ++ more) d → (later : Dialogue) × Speaks p.items (p.pending ++ more) later × (d ≡ after items later)
