-- What a call took of the bytes of a connection, in the words of its dialogue, and what it wrote.
use Rattle.std.specs.Prelude.{◌≡◌, ◌⊎◌, ◌+◌, ◌<◌, ℕ, Bool, true, List, [], ◌++◌, length, take}
use Rattle.ld_edge.specs.Faults.{Rose}
use Rattle.ld_edge.specs.Passing.{IsReadToEnd}
use Rattle.ld_edge.specs.Sides.{Incoming, Outgoing}
use Rattle.ld_head.specs.Dialogues.{Item, Ask, Bad, Marked, Opening, Opens, Shuts, Stops, GoesOn, is_due_at, opened_by}
use Rattle.ld_head.specs.Replies.{interim_text, text_if}
use Rattle.ld_head.specs.declared.dialogue.Marks.{Marks}
use Rattle.ld_items.specs.declared.arrivals.Arrived.{Arrived}
use Rattle.ld_items.specs.declared.arrivals.Next.{Next}
use Rattle.ld_items.specs.declared.arrivals.Next.TheVariants as next
use Rattle.ld_items.specs.declared.arrivals.Received.{Received}
use Rattle.ld_items.specs.declared.arrivals.Received.TheVariants as received

-- how far a connection was read: so many items, and the bytes that came after them
pub record Standing : Type 0 where
  pub items : ℕ
  pub pending : List ℕ

abbrev pub start : Standing
start = record { items = 0; pending = [] }

-- ---- items that are owned

abbrev pub item_of : Received → Item
item_of (received.Ask path body) = Ask path body
item_of (received.Bad status) = Bad status

abbrev pub marked : Arrived → Marked
marked a = record { item = item_of a.item; marks = a.marks }

-- this item with these marks is given
abbrev pub Gives : Received → Marks → Next → Type 0
Gives item marks given = given ≡ next.Item (record { item = item; marks = marks })

-- ---- the interim text

-- it is due for what the bytes begin with
abbrev pub is_due : Opening → Bool
is_due (Stops ending) = is_due_at ending
is_due (Shuts item) = item.marks.interim
is_due (GoesOn item rest) = item.marks.interim

-- what the bytes so far begin with has it due
abbrev pub IsDue : ℕ → List ℕ → Type 0
IsDue n bytes = (opening : Opening) × Opens n bytes opening × (is_due opening ≡ true)

-- ---- a call

-- From item n on, the bytes that were pending and those that came are this item, whatever comes after them; or the input
-- ends so, or it stands so where a read failed. The interim text was written where it is due, or a front of it where that
-- failed.
abbrev pub Takes : ℕ → (bytes went : List ℕ) → Standing → Incoming → Next → Type 0
Takes n bytes went after source (next.Item a) =
    (after.items ≡ n + 1) × ((more : List ℕ) → Opens n (bytes ++ more) (opened_by (marked a) (after.pending ++ more))) × (went ≡ text_if a.marks.interim interim_text)
Takes n bytes went after source (next.Ended ending) = Opens n bytes (Stops ending) × (went ≡ text_if (is_due_at ending) interim_text) × IsReadToEnd source
Takes n bytes went after source (next.ReadFault ending) = Opens n bytes (Stops ending) × (went ≡ text_if (is_due_at ending) interim_text)
Takes n bytes went after source next.WriteFault = IsDue n bytes × ((k : ℕ) × (k < length interim_text) × (went ≡ take k interim_text))
Takes n bytes went after source next.NoMemory = (went ≡ []) ⊎ ((went ≡ interim_text) × IsDue n bytes)

-- a side's count rose where that side failed, and nowhere else
abbrev pub Counts : Incoming → Incoming → Outgoing → Outgoing → Next → Type 0
Counts source source' sink sink' (next.ReadFault ending) = Rose source.faults source'.faults × (sink'.faults ≡ sink.faults)
Counts source source' sink sink' next.WriteFault = (source'.faults ≡ source.faults) × Rose sink.faults sink'.faults
Counts source source' sink sink' _ = (source'.faults ≡ source.faults) × (sink'.faults ≡ sink.faults)
