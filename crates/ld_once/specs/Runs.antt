-- What a run of the program owes.
use Rattle.std.specs.Prelude.{◌≡◌, ℕ, ◌<◌, ◌≤◌, ◌⊎◌, IsTrue, Option, Some, None, option_map, IfSome, List, [], ◌∷◌, ◌++◌, length, take, codes, decimal}
use Rattle.std.specs.Io.KnownBytes.{append_known, prepend_known}
use Rattle.ld_edge.specs.Faults.{NeverFalls, Rose}
use Rattle.ld_edge.specs.Sides.{Incoming, Outgoing}
use Rattle.ld_edge.specs.declared.status.Status.{Status}
use Rattle.ld_edge.specs.declared.status.Status.TheVariants.{Done, Refused, Usage, ReadFault, WriteFault, LoadFault, NoMemory, InputTooLong}
use Rattle.ld_answer.specs.Bodies.{refusal_body}
use Rattle.ld_answer.specs.Envelopes.{IsAccepted, IsRefused}
use Rattle.ld_answer.specs.declared.envelope.Envelope.{Envelope}
use Rattle.ld_answer.specs.declared.op.Op.{Op}
use Rattle.ld_answer.specs.declared.op.Op.TheVariants.{Expand, Compact, Flatten}
use Rattle.ld_answer.specs.declared.refusal.EnvelopeRefusal.{EnvelopeRefusal}
use Rattle.ld_flight.specs.Loads.{Answer, Loading}
use Rattle.ld_script.specs.Scripts.{IsBadAt}
use Rattle.ld_script.specs.Printed.{IsOutput}
use Rattle.ld_soak.specs.Soaks.{AreSums, told}
use Rattle.ld_soak.specs.declared.sums.Sums.{Sums}
use Rattle.ld_once.specs.Loading.{answering, LoadsInPart}
use Rattle.ld_once.specs.Outcomes.{IsReached, body_line, line}
use Rattle.ld_once.specs.declared.command.Command.{Command}
use Rattle.ld_once.specs.declared.command.Command.TheVariants.{Document, Schedule}

-- the greatest length of an input, in bytes
abbrev pub input_limit : ℕ
input_limit = 4194304

-- the word of each command
abbrev pub word_of : Command → List ℕ
word_of (Document Expand) = codes "expand"
word_of (Document Compact) = codes "compact"
word_of (Document Flatten) = codes "flatten"
word_of Schedule = codes "schedule"

-- the words are this command's: its word, alone
abbrev pub IsFormOf : List (List ℕ) → Command → Type 0
IsFormOf words command = words ≡ word_of command ∷ []

-- the words of the commands that read an input
abbrev pub IsForm : List (List ℕ) → Type 0
IsForm words = (command : Command) × IsFormOf words command

-- the most documents of a soak
abbrev pub soak_limit : ℕ
soak_limit = 10000

-- the words ask for a soak of so many documents: `soak`, and the number in decimal
abbrev pub IsSoakOf : List (List ℕ) → ℕ → Type 0
IsSoakOf words count = (1 ≤ count) × (count ≤ soak_limit) × (words ≡ codes "soak" ∷ decimal count ∷ [])

abbrev pub IsSoak : List (List ℕ) → Type 0
IsSoak words = (count : ℕ) × IsSoakOf words count

abbrev pub usage : List ℕ
usage = line (codes "usage: expand | compact | flatten | schedule | soak <n> | serve <address> <workers> <connections> <every>")

abbrev pub input_too_long : List ℕ
input_too_long = line (codes "{\"own\":\"input too long\"}")

-- the line of this number is none of a script
abbrev pub bad_line : ℕ → List ℕ
bad_line number = line (codes "{\"line\":" ++ decimal number ++ codes ",\"own\":\"script\"}")

-- the input is an envelope, which was answered over the contexts that were loaded for it
pub record IsAnswered (op : Op) (bytes : List ℕ) (loader loader' : Loading) (status : Status) (out : List ℕ) : Type 0 where
  pub envelope : Envelope
  pub accepted : IsAccepted op bytes envelope
  pub reached : IsReached (answering op envelope) loader loader' status out

-- the input is no envelope, and nothing was loaded
pub record IsNoEnvelope (op : Op) (bytes : List ℕ) (loader loader' : Loading) (status : Status) (out : List ℕ) : Type 0 where
  pub refusal : EnvelopeRefusal
  pub refused : IsRefused op bytes refusal
  pub body : option_map body_line (refusal_body refusal) ≡ Some out
  pub status_is : status ≡ Refused
  pub unasked : loader' ≡ loader

-- a script, or its first bad line
abbrev pub IsPrinted : List ℕ → Status → List ℕ → Type 0
IsPrinted bytes Done out = IsOutput bytes out
IsPrinted bytes Refused out = (number : ℕ) × IsBadAt bytes number × (out ≡ bad_line number)
IsPrinted bytes _ out = ⊥

-- what a command makes of a whole input within the limit
abbrev pub IsReply : Command → List ℕ → (loader loader' : Loading) → Status → List ℕ → Type 0
IsReply (Document op) bytes loader loader' status out = IsNoEnvelope op bytes loader loader' status out ⊎ IsAnswered op bytes loader loader' status out
IsReply Schedule bytes loader loader' status out = IsPrinted bytes status out × (loader' ≡ loader)

-- what is due for these words and this whole input, over what was loaded
abbrev pub Due : List (List ℕ) → List ℕ → (loader loader' : Loading) → Status → List ℕ → Type 0
Due words bytes loader loader' Usage out = (IsForm words → ⊥) × (IsSoak words → ⊥) × (out ≡ usage) × (loader' ≡ loader)
Due words bytes loader loader' InputTooLong out = IsForm words × (input_limit < length bytes) × (out ≡ input_too_long) × (loader' ≡ loader)
Due words bytes loader loader' status out = (command : Command) × IsFormOf words command × (length bytes ≤ input_limit) × IsReply command bytes loader loader' status out

-- these bytes were read, and no read was counted as failed: where bytes are told, those given gained them and those left lost them
abbrev pub Reads : Incoming → Incoming → List ℕ → Type 0
Reads source source' bytes =
    (source'.given ≡ append_known source.given bytes) × (source.left ≡ prepend_known bytes source'.left) × (source'.faults ≡ source.faults)

-- the source was read to its end: where it tells, no byte is left
abbrev pub IsReadToEnd : Incoming → Type 0
IsReadToEnd source = IsTrue source.is_ended × IfSome source.left (λ rest. rest ≡ [])

-- what was read for what is due: all bytes that are answered, enough to see that they are too many, or nothing at all
abbrev pub IsReadFor : Status → Incoming → Incoming → List ℕ → Type 0
IsReadFor Usage source source' bytes = source' ≡ source
IsReadFor InputTooLong source source' bytes = Reads source source' bytes
IsReadFor _ source source' bytes = Reads source source' bytes × IsReadToEnd source'

-- the text was written whole, and no write was counted as failed
abbrev pub Writes : Outgoing → Outgoing → List ℕ → Type 0
Writes sink sink' out = (sink'.held ≡ append_known sink.held out) × (sink'.faults ≡ sink.faults)

-- a write failed behind a front of the text, which isn't all of it
abbrev pub WritesFront : Outgoing → Outgoing → List ℕ → Type 0
WritesFront sink sink' out = Rose sink.faults sink'.faults × ((n : ℕ) × (n < length out) × (sink'.held ≡ append_known sink.held (take n out)))

-- memory was wanting: before anything was loaded, or while contexts were loaded for an envelope
pub data IsCutShort (words : List (List ℕ)) (source source' : Incoming) (loader loader' : Loading) : Type 0 where
  unasked : loader' ≡ loader → IsCutShort words source source' loader loader'
  in_part : (op : Op) (bytes : List ℕ) (envelope : Envelope) → IsFormOf words (Document op) → Reads source source' bytes → IsAccepted op bytes envelope
      → LoadsInPart (answering op envelope) loader loader' → NeverFalls loader.faults loader'.faults → IsCutShort words source source' loader loader'

-- the line of a soak of so many documents
abbrev pub IsSoakLine : ℕ → List ℕ → Type 0
IsSoakLine count out = (sums : Sums) × AreSums count sums × (out ≡ line (told sums))

-- how a soak ended: its line was written, or a front of it, or memory was wanting
abbrev pub IsSoaked : ℕ → Outgoing → Outgoing → Status → Type 0
IsSoaked count sink sink' Done = (out : List ℕ) × IsSoakLine count out × Writes sink sink' out
IsSoaked count sink sink' WriteFault = (out : List ℕ) × IsSoakLine count out × WritesFront sink sink' out
IsSoaked count sink sink' NoMemory = sink' ≡ sink
IsSoaked count sink sink' _ = ⊥

-- how a run ended, from what is told of the source, the sink and the loader before and after it
pub data Ended (words : List (List ℕ)) (source source' : Incoming) (sink sink' : Outgoing) (loader loader' : Loading) : Status → Type 0 where
  -- what is due for the bytes that were read was written
  written : (status : Status) (bytes out : List ℕ) → Due words bytes loader loader' status out → IsReadFor status source source' bytes → Writes sink sink' out
      → Ended words source source' sink sink' loader loader' status
  -- a front of it was
  write_failed : (status : Status) (bytes out : List ℕ) → Due words bytes loader loader' status out → IsReadFor status source source' bytes → WritesFront sink sink' out
      → Ended words source source' sink sink' loader loader' WriteFault
  -- the words are a command's, and a read failed
  read_failed : IsForm words → Rose source.faults source'.faults → sink' ≡ sink → loader' ≡ loader → Ended words source source' sink sink' loader loader' ReadFault
  -- the words are a command's, and no read or write failed
  no_memory : IsForm words → source'.faults ≡ source.faults → sink' ≡ sink → IsCutShort words source source' loader loader'
      → Ended words source source' sink sink' loader loader' NoMemory
  -- the words ask for a soak, and nothing was read or loaded
  soaked : (status : Status) (count : ℕ) → IsSoakOf words count → source' ≡ source → loader' ≡ loader → IsSoaked count sink sink' status
      → Ended words source source' sink sink' loader loader' status

-- the status is this one, unless an object failed or memory was wanting
abbrev pub IsUnlessFailed : Status → Status → Incoming → Incoming → Outgoing → Outgoing → Type 0
IsUnlessFailed due status source source' sink sink' =
    (status ≡ due) ⊎ ((status ≡ ReadFault) × Rose source.faults source'.faults) ⊎ ((status ≡ WriteFault) × Rose sink.faults sink'.faults) ⊎ (status ≡ NoMemory)

-- the loader tells its answers to come, for each IRI
abbrev pub IsTelling : Loading → Type 0
IsTelling loader = (iri : List ℕ) → (answers : List Answer) × (loader.held iri ≡ Some answers)

-- the status is this one, unless an object failed, a load failed or memory was wanting
abbrev pub IsUnlessLoadFailed : Status → Status → Incoming → Incoming → Outgoing → Outgoing → Loading → Loading → Type 0
IsUnlessLoadFailed due status source source' sink sink' loader loader' =
    IsUnlessFailed due status source source' sink sink' ⊎ ((status ≡ LoadFault) × Rose loader.faults loader'.faults)

-- nothing is due to be loaded
abbrev pub IsUnloading : Status → Loading → Loading → Type 0
IsUnloading due loader after = (due ≡ LoadFault → ⊥) × (after.given ≡ loader.given)
