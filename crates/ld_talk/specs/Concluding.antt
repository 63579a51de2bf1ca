-- What follows on an item.
use Rattle.std.specs.Prelude.{◌≡◌, ℕ, Option, Some, None, if◌then◌else◌, take}
use Rattle.ld_edge.specs.Faults.{NeverFalls}
use Rattle.ld_edge.specs.Passing.{Goes}
use Rattle.ld_edge.specs.Sides.{Outgoing}
use Rattle.ld_head.specs.Dialogues.{Marked}
use Rattle.ld_head.specs.declared.session_end.SessionEnd.{SessionEnd}
use Rattle.ld_head.specs.declared.session_end.SessionEnd.TheVariants as end
use Rattle.ld_talk.specs.Talking.{end_of_item, no_memory_text}
use Rattle.ld_talk.specs.declared.answering.Spoken.{Spoken}
use Rattle.ld_talk.specs.declared.answering.Spoken.TheVariants as spoken
use Rattle.ld_talk.specs.declared.sending.SendRefusal.{SendRefusal}
use Rattle.ld_talk.specs.declared.sending.SendRefusal.TheVariants as refusal

-- a front of the reply that needs no memory went out, or all of it
pub record GivesUp (sink sink' : Outgoing) (e : SessionEnd) : Type 0 where
  pub n : ℕ
  pub goes : Goes sink sink' (take n no_memory_text)
  pub count : NeverFalls sink.faults sink'.faults
  pub is : e ≡ end.NoMemory

abbrev pub IsEndOf : SendRefusal → Outgoing → Outgoing → SessionEnd → Type 0
IsEndOf refusal.Failed sink sink' e = (e ≡ end.WriteFault) × (sink' ≡ sink)
IsEndOf refusal.NoMemory sink sink' e = GivesUp sink sink' e

abbrev pub EndsAs : Option SessionEnd → (SessionEnd → Type 0) → Type 0
EndsAs None is = ⊥
EndsAs (Some e) is = is e

abbrev pub IsConcluded : Marked → Spoken → Outgoing → Outgoing → Option SessionEnd → Type 0
IsConcluded marked spoken.Sent sink sink' e = (e ≡ (if marked.marks.closes then Some (end_of_item marked.item) else None)) × (sink' ≡ sink)
IsConcluded marked (spoken.Full events) sink sink' e = (e ≡ Some (end.HistoryFull events)) × (sink' ≡ sink)
IsConcluded marked (spoken.Unsent refusal) sink sink' e = EndsAs e (IsEndOf refusal sink sink')
IsConcluded marked (spoken.FullUnsent events refusal) sink sink' e = EndsAs e (IsEndOf refusal sink sink')
