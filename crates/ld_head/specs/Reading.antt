-- What the code answers, as the definitions see it.
use Rattle.std.specs.Prelude.{◌≡◌, ℕ, List, length, Result, Ok, Err}
use Rattle.ld_head.specs.declared.dialogue.Item.{Item as ItemSeen}
use Rattle.ld_head.specs.declared.dialogue.Item.TheVariants as seen
use Rattle.ld_head.specs.declared.front.Next.{Next}
use Rattle.ld_head.specs.declared.front.Next.TheVariants as next
use Rattle.ld_head.specs.declared.head.Head.{Head}
use Rattle.ld_head.specs.declared.whole.Summary.{Summary}
use Rattle.ld_head.specs.declared.seen.Refused.{Refused}
use Rattle.ld_head.specs.declared.seen.Seen.{Seen}
use Rattle.ld_head.specs.Dialogues.{Item, Ask, Bad, Dialogue, IsDialogue, Opening, Stops, Shuts, GoesOn}
use Rattle.ld_head.specs.Heads.{Verdict, Accepts, Refuses}

-- a head as it lies in its block
abbrev pub head_of : Seen → Head
head_of s = record { method = s.method.now; path = s.path.now; length = s.length; interim = s.interim; closes = s.closes }

abbrev pub verdict_of : Result Seen Refused → Verdict
verdict_of (Ok s) = Accepts (head_of s)
verdict_of (Err r) = Refuses r.status r.was_head

-- an item whose body is borrowed
abbrev pub item_of : ItemSeen → Item
item_of (seen.Ask path body) = Ask path body.now
item_of (seen.Bad status) = Bad status

abbrev pub opening_of : Next → Opening
opening_of (next.Ended ending) = Stops ending
opening_of (next.Last item marks) = Shuts (record { item = item_of item; marks = marks })
opening_of (next.Item item marks rest) = GoesOn (record { item = item_of item; marks = marks }) rest.now

-- a dialogue that the bytes say, in short
pub record IsOutline (bytes : List ℕ) (summary : Summary) : Type 0 where
  pub dialogue : Dialogue
  pub says : IsDialogue bytes dialogue
  pub items : length dialogue.items ≡ summary.items
  pub ending : dialogue.ending ≡ summary.ending
