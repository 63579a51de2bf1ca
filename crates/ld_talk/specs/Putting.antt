-- What goes out for an item, and what follows on it.
use Rattle.std.specs.Prelude.{◌≡◌, ℕ, List, Option, Some, None, if◌then◌else◌, take}
use Rattle.ld_edge.specs.Faults.{NeverFalls, Rose}
use Rattle.ld_fits.specs.Play.{Stage}
use Rattle.ld_head.specs.Dialogues.{Marked}
use Rattle.ld_head.specs.declared.session_end.SessionEnd.{SessionEnd}
use Rattle.ld_head.specs.declared.session_end.SessionEnd.TheVariants as end
use Rattle.ld_talk.specs.Talking.{Moving, Answering, end_of_item, full_text, no_memory_text, reply_in}

-- The reply went out, or a front of it did, or there was no memory for it; or the history had no room, and the reply that
-- says so did likewise.
pub data Put (moves : Moving) (full : ℕ → Type 0) (marked : Marked) : Type 0 where
  Whole : (x : Answering moves marked) → Put moves full marked
  Cut : (x : Answering moves marked) (n : ℕ) → Put moves full marked
  Unsaid : (x : Answering moves marked) (n : ℕ) → Put moves full marked
  Full : (events : ℕ) → full events → ((stage : Stage) → moves stage stage) → Put moves full marked
  FullCut : (events : ℕ) → full events → ((stage : Stage) → moves stage stage) → (n : ℕ) → Put moves full marked
  FullUnsaid : (events : ℕ) → full events → ((stage : Stage) → moves stage stage) → (n : ℕ) → Put moves full marked

module _ (moves : Moving) (full : ℕ → Type 0) (marked : Marked) where
  abbrev pub text_put : Put moves full marked → List ℕ
  text_put (Whole x) = reply_in moves marked x
  text_put (Cut x n) = take n (reply_in moves marked x)
  text_put (Unsaid x n) = take n no_memory_text
  text_put (Full events is none) = full_text events
  text_put (FullCut events is none n) = take n (full_text events)
  text_put (FullUnsaid events is none n) = take n no_memory_text

  abbrev pub end_put : Put moves full marked → Option SessionEnd
  end_put (Whole x) = if marked.marks.closes then Some (end_of_item marked.item) else None
  end_put (Cut x n) = Some end.WriteFault
  end_put (Unsaid x n) = Some end.NoMemory
  end_put (Full events is none) = Some (end.HistoryFull events)
  end_put (FullCut events is none n) = Some end.WriteFault
  end_put (FullUnsaid events is none n) = Some end.NoMemory

  abbrev pub IsPut : (own : List ℕ) → Option SessionEnd → Type 0
  IsPut own e = (p : Put moves full marked) × (own ≡ text_put p) × (e ≡ end_put p)

-- whether the count of failed writes rose
abbrev pub SinkFaults : Option SessionEnd → (before after : ℕ) → Type 0
SinkFaults (Some end.WriteFault) before after = Rose before after
SinkFaults (Some end.NoMemory) before after = NeverFalls before after
SinkFaults _ before after = after ≡ before
