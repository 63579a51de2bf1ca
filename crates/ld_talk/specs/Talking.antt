-- How a connection is talked with: what each item's reply does, and how the talk ends.
use Rattle.std.specs.Prelude.{◌≡◌, ◌⊎◌, ℕ, true, List, [], ◌∷◌, ◌++◌, map, take, Option, Some, None, ◌==◌, ◌||◌, if◌then◌else◌, Bool}
use Rattle.ld_edge.specs.Faults.{NeverFalls, Rose}
use Rattle.ld_edge.specs.Passing.{Goes, IsReadToEnd}
use Rattle.ld_edge.specs.Sides.{Incoming, Outgoing}
use Rattle.ld_fits.specs.Asks.{Asked, Heard}
use Rattle.ld_fits.specs.Play.{Stage, Idle, idle, item_text}
use Rattle.ld_head.specs.Dialogues.{Ask, Bad, Dialogue, IsDialogue, Item, Marked, is_due_at}
use Rattle.ld_head.specs.Outcomes.{reply}
use Rattle.ld_head.specs.Replies.{interim_text, text_if}
use Rattle.ld_head.specs.declared.dialogue.Ending.{Ending}
use Rattle.ld_head.specs.declared.dialogue.Ending.TheVariants.{Between, Inside, Shut}
use Rattle.ld_head.specs.declared.dialogue.Marks.{Marks}
use Rattle.ld_head.specs.declared.outcome.Outcome.{Outcome}
use Rattle.ld_head.specs.declared.outcome.Outcome.TheVariants as outcome
use Rattle.ld_head.specs.declared.session_end.SessionEnd.{SessionEnd}
use Rattle.ld_head.specs.declared.session_end.SessionEnd.TheVariants as end
use Rattle.ld_items.specs.Saying.{after, is_due_next}
use Rattle.ld_talk.specs.Sending.{IsUnsent, last_marks}
use Rattle.ld_talk.specs.declared.answering.Spoken.{Spoken}
use Rattle.ld_talk.specs.declared.answering.Spoken.TheVariants as spoken
use Rattle.ld_talk.specs.declared.requests.Replied.{Replied}
use Rattle.ld_talk.specs.declared.requests.Replied.TheVariants as replied

-- from one stage of a session to another
abbrev pub Moving : Type 1
Moving = Stage → Stage → Type 0

-- ---- requests

-- from before a request to after it: the request's item comes first, whatever the items after it and the text before it
abbrev pub IsReplied : Moving → (full : ℕ → Type 0) → Asked → Replied → Type 0
IsReplied moves full asked (replied.Answered number version outcome) =
    (h : Heard) (items : List Heard) (text : List ℕ) → h.asked ≡ asked
    → moves (Idle (h ∷ items) text) (idle items (text ++ item_text (Some (number, version)) outcome h.marked.marks))
IsReplied moves full asked replied.Unmade = (stage : Stage) → moves stage stage
IsReplied moves full asked (replied.HistoryFull events) = full events × ((stage : Stage) → moves stage stage)

-- ---- an item

-- the item is answered with this reply
abbrev pub IsAnswered : Moving → Heard → (own : List ℕ) → Type 0
IsAnswered moves h own =
    (items : List Heard) (text : List ℕ) → moves (idle (h ∷ items) text) (idle items (text ++ (text_if h.marked.marks.interim interim_text ++ own)))

-- the item, with the reply that it is answered with
pub record Answering (moves : Moving) (marked : Marked) : Type 0 where
  pub heard : Heard
  pub is : heard.marked ≡ marked
  pub fields : Option (ℕ × ℕ)
  pub outcome_is : Outcome
  pub answered : IsAnswered moves heard (reply fields outcome_is marked.marks)

abbrev pub reply_in : (moves : Moving) → (marked : Marked) → Answering moves marked → List ℕ
reply_in moves marked a = reply a.fields a.outcome_is marked.marks

-- the reply of a request for which the history has no room, after so many events
abbrev pub full_text : ℕ → List ℕ
full_text events = reply None (outcome.HistoryFull events) last_marks

-- the reply that needs no memory
abbrev pub no_memory_text : List ℕ
no_memory_text = reply None outcome.NoMemory last_marks

-- what went out for an item: this reply
abbrev pub IsSaid : (own : List ℕ) → Outgoing → Outgoing → Spoken → Type 0
IsSaid own sink sink' spoken.Sent = Goes sink sink' own × (sink'.faults ≡ sink.faults)
IsSaid own sink sink' (spoken.Unsent refusal) = IsUnsent own sink sink' refusal
IsSaid own sink sink' _ = ⊥

-- or that of a history without room
abbrev pub IsSaidFull : (events : ℕ) → Outgoing → Outgoing → Spoken → Type 0
IsSaidFull events sink sink' (spoken.Full n) = (n ≡ events) × Goes sink sink' (full_text n) × (sink'.faults ≡ sink.faults)
IsSaidFull events sink sink' (spoken.FullUnsent n refusal) = (n ≡ events) × IsUnsent (full_text n) sink sink' refusal
IsSaidFull events sink sink' _ = ⊥

-- for a request that came to this
abbrev pub IsSaidOf : Replied → Marks → Outgoing → Outgoing → Spoken → Type 0
IsSaidOf (replied.Answered number version o) marks sink sink' s = IsSaid (reply (Some (number, version)) o marks) sink sink' s
IsSaidOf replied.Unmade marks sink sink' s = IsSaid (reply None outcome.NoMemory marks) sink sink' s
IsSaidOf (replied.HistoryFull events) marks sink sink' s = IsSaidFull events sink sink' s

-- what came of an item, and what went out after its interim text
abbrev pub IsSpoken : Moving → (full : ℕ → Type 0) → Marked → Outgoing → Outgoing → Spoken → Type 0
IsSpoken moves full marked sink sink' spoken.Sent = (a : Answering moves marked) × Goes sink sink' (reply_in moves marked a) × (sink'.faults ≡ sink.faults)
IsSpoken moves full marked sink sink' (spoken.Unsent refusal) = (a : Answering moves marked) × IsUnsent (reply_in moves marked a) sink sink' refusal
IsSpoken moves full marked sink sink' (spoken.Full events) =
    full events × ((stage : Stage) → moves stage stage) × Goes sink sink' (full_text events) × (sink'.faults ≡ sink.faults)
IsSpoken moves full marked sink sink' (spoken.FullUnsent events refusal) =
    full events × ((stage : Stage) → moves stage stage) × IsUnsent (full_text events) sink sink' refusal

-- ---- the talk

-- These items were answered, with this text.
pub record Told (moves : Moving) (heard : List Heard) (text : List ℕ) : Type 0 where
  pub moved : (items : List Heard) → moves (idle (heard ++ items) []) (idle items text)

abbrev pub marked_in : List Heard → List Marked
marked_in heard = map (λ h. h.marked) heard

-- the bytes say these items, and end so
abbrev pub SaysAll : (came : List ℕ) → List Heard → Ending → Type 0
SaysAll came heard ending = IsDialogue came (record { items = marked_in heard; ending = ending })

-- the bytes say these items first
abbrev pub SaysFirst : (came : List ℕ) → List Heard → Type 0
SaysFirst came heard = (d : Dialogue) → IsDialogue came d → (later : Dialogue) × (d ≡ after (marked_in heard) later)

-- and have the interim text due for what comes next
abbrev pub SaysDue : (came : List ℕ) → List Heard → Type 0
SaysDue came heard = (d : Dialogue) → IsDialogue came d → (later : Dialogue) × (d ≡ after (marked_in heard) later) × (is_due_next later ≡ true)

-- the interim text, where it was written for what comes next
abbrev pub IsInterim : (came : List ℕ) → List Heard → (interim : List ℕ) → Type 0
IsInterim came heard interim = (interim ≡ []) ⊎ ((interim ≡ interim_text) × SaysDue came heard)

-- a front of these bytes
abbrev pub IsFront : (went whole : List ℕ) → Type 0
IsFront went whole = (n : ℕ) × (went ≡ take n whole)

-- the text, or the text without the last item's reply
abbrev pub IsBase : List Heard → (base text : List ℕ) → Type 0
IsBase heard base text =
    (base ≡ text) ⊎ ((before : List Heard) × (h : Heard) × (heard ≡ before ++ h ∷ []) × ((fields : Option (ℕ × ℕ)) × (o : Outcome) × (text ≡ base ++ reply fields o h.marked.marks)))

-- how a connection ends where its input ends so
abbrev pub end_of_ending : Ending → SessionEnd
end_of_ending (Inside interim) = end.Truncated
end_of_ending Between = end.Closed
end_of_ending Shut = end.Closed

-- how a connection ends after an item that closes it: a head that was refused, if not for its path or its method, says so
abbrev pub end_of_item : Item → SessionEnd
end_of_item (Ask path body) = end.Closed
end_of_item (Bad status) = if (status == 404) || (status == 405) then end.Closed else end.BadHead status

-- the last item that was heard closed the connection so
abbrev pub IsShutBy : List Heard → SessionEnd → Type 0
IsShutBy heard e = (before : List Heard) × (h : Heard) × (heard ≡ before ++ h ∷ []) × (end_of_item h.marked.item ≡ e)

-- The talk ended so: these bytes came and went.
abbrev pub EndsSo : (full : ℕ → Type 0) → (came went : List ℕ) → Incoming → List Heard → (text : List ℕ) → SessionEnd → Type 0
EndsSo full came went source heard text end.Closed =
    (went ≡ text) × ((SaysAll came heard Between × IsReadToEnd source) ⊎ (SaysAll came heard Shut × IsShutBy heard end.Closed))
EndsSo full came went source heard text end.Truncated =
    (interim : Bool) × SaysAll came heard (Inside interim) × IsReadToEnd source × (went ≡ text ++ text_if interim interim_text)
EndsSo full came went source heard text (end.BadHead status) = (went ≡ text) × SaysAll came heard Shut × IsShutBy heard (end.BadHead status)
EndsSo full came went source heard text end.ReadFault =
    (ending : Ending) × SaysAll came heard ending × (went ≡ text ++ text_if (is_due_at ending) interim_text)
EndsSo full came went source heard text end.WriteFault =
    (interim : List ℕ) × IsInterim came heard interim
    × (IsFront went (text ++ interim) ⊎ ((events : ℕ) × full events × IsFront went (text ++ (interim ++ full_text events)))) × SaysFirst came heard
EndsSo full came went source heard text (end.HistoryFull events) =
    full events × ((interim : List ℕ) × IsInterim came heard interim × (went ≡ text ++ (interim ++ full_text events))) × SaysFirst came heard
EndsSo full came went source heard text end.NoMemory =
    (base interim : List ℕ) × IsBase heard base text × IsInterim came heard interim
    × ((n : ℕ) × (went ≡ base ++ (interim ++ take n no_memory_text))) × SaysFirst came heard

pub record Talked (moves : Moving) (full : ℕ → Type 0) (came went : List ℕ) (source : Incoming) (e : SessionEnd) : Type 0 where
  pub heard : List Heard
  pub text : List ℕ
  pub told : Told moves heard text
  pub ends : EndsSo full came went source heard text e

-- which side's count of failures rose
abbrev pub Faults : SessionEnd → (source source' sink sink' : ℕ) → Type 0
Faults end.ReadFault source source' sink sink' = Rose source source' × (sink' ≡ sink)
Faults end.WriteFault source source' sink sink' = (source' ≡ source) × Rose sink sink'
Faults end.NoMemory source source' sink sink' = (source' ≡ source) × NeverFalls sink sink'
Faults _ source source' sink sink' = (source' ≡ source) × (sink' ≡ sink)
