-- What a reply that isn't written whole leaves.
use Rattle.std.specs.Prelude.{◌≡◌, ℕ, List, true, false}
use Rattle.ld_edge.specs.Faults.{Rose}
use Rattle.ld_edge.specs.Passing.{GoesInPart}
use Rattle.ld_edge.specs.Sides.{Outgoing}
use Rattle.ld_head.specs.declared.dialogue.Marks.{Marks}
use Rattle.ld_talk.specs.declared.sending.SendRefusal.{SendRefusal}
use Rattle.ld_talk.specs.declared.sending.SendRefusal.TheVariants as refusal

-- a write failed, and a front of the text went out; or there was no memory for it, and nothing did
abbrev pub IsUnsent : List ℕ → Outgoing → Outgoing → SendRefusal → Type 0
IsUnsent text sink sink' refusal.Failed = GoesInPart sink sink' text × Rose sink.faults sink'.faults
IsUnsent text sink sink' refusal.NoMemory = sink' ≡ sink

-- the marks of a reply that a connection ends with, whatever was asked
abbrev pub last_marks : Marks
last_marks = record { interim = false; closes = true; head_alone = false }
