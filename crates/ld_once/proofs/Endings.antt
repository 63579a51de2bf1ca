-- How a run ends, from what its parts did.
use Rattle.std.proofs.Common.{◌≡◌, ℕ, ◌≤◌, ◌⊎◌, inl, inr, List, length, refl, sym, subst}
use Rattle.std.specs.Prelude.{Result, Ok, Err}
use Rattle.ld_edge.specs.Sides.{Incoming, Outgoing}
use Rattle.ld_edge.specs.declared.status.Status.{Status}
use Rattle.ld_edge.specs.declared.status.Status.TheVariants.{Done, Refused, Usage, ReadFault, WriteFault, LoadFault, TooMany, NoMemory, InputTooLong}
use Rattle.ld_flight.specs.Loads.{Loading}
use Rattle.ld_rec.specs.declared.stop.Stop.{Stop}
use Rattle.ld_tree.specs.declared.tree.Tree.{Tree}
use Rattle.ld_once.specs.declared.command.Command.{Command}
use Rattle.ld_once.specs.declared.command.Command.TheVariants.{Document, Schedule}
use Rattle.ld_once.specs.Outcomes.{IsAnswer, IsSettled, settled, too_many, load_fault}
use Rattle.ld_once.specs.Runs.{input_limit, IsFormOf, IsPrinted, IsReply, Due, Reads, IsReadToEnd, IsReadFor, Writes, WritesFront, Ended, written, write_failed, IsCutShort, unasked, in_part}
use Rattle.ld_once.specs.Replies.{IsUnfinished}

-- an input that is answered is answered with one of these
abbrev pub IsReplied : Status → Type 0
IsReplied Usage = ⊥
IsReplied InputTooLong = ⊥
IsReplied status = Unit {0}

settled_is : (r : Result Tree Stop) (status : Status) (out : List ℕ) → IsSettled r status out → IsReplied status
settled_is (Ok tree) Usage out h = h
settled_is (Err e) Usage out h = h
settled_is (Ok tree) InputTooLong out h = h
settled_is (Err e) InputTooLong out h = h
settled_is r Done out h = tt
settled_is r Refused out h = tt
settled_is r ReadFault out h = tt
settled_is r WriteFault out h = tt
settled_is r LoadFault out h = tt
settled_is r TooMany out h = tt
settled_is r NoMemory out h = tt

answer_is : (loader loader' : Loading) (count : ℕ) (r : Result Tree Stop) (status : Status) (out : List ℕ) → IsAnswer loader loader' count r status out → IsReplied status
answer_is loader loader' count r s o (settled status out h same) = settled_is r status out h
answer_is loader loader' count r s o (too_many iri is many same) = tt
answer_is loader loader' count r s o (load_fault iri is few rose) = tt

printed_is : (bytes : List ℕ) (status : Status) (out : List ℕ) → IsPrinted bytes status out → IsReplied status
printed_is bytes Usage out h = h
printed_is bytes InputTooLong out h = h
printed_is bytes Done out h = tt
printed_is bytes Refused out h = tt
printed_is bytes ReadFault out h = tt
printed_is bytes WriteFault out h = tt
printed_is bytes LoadFault out h = tt
printed_is bytes TooMany out h = tt
printed_is bytes NoMemory out h = tt

pub reply_is : (command : Command) (bytes : List ℕ) (loader loader' : Loading) (status : Status) (out : List ℕ) → IsReply command bytes loader loader' status out → IsReplied status
reply_is (Document op) bytes loader loader' status out (inl none) = subst IsReplied (sym none.status_is) tt
reply_is (Document op) bytes loader loader' status out (inr answered) = answer_is _ _ _ _ status out answered.reached.answer
reply_is Schedule bytes loader loader' status out h = printed_is bytes status out h.0

module _ (command : Command) (words : List (List ℕ)) (bytes out : List ℕ) (loader loader' : Loading) where
  pub Due-reply : (status : Status) → IsReplied status → IsFormOf words command → length bytes ≤ input_limit → IsReply command bytes loader loader' status out → Due words bytes loader loader' status out
  Due-reply Usage is form short reply = absurd is
  Due-reply InputTooLong is form short reply = absurd is
  Due-reply Done is form short reply = (command, form, short, reply)
  Due-reply Refused is form short reply = (command, form, short, reply)
  Due-reply ReadFault is form short reply = (command, form, short, reply)
  Due-reply WriteFault is form short reply = (command, form, short, reply)
  Due-reply LoadFault is form short reply = (command, form, short, reply)
  Due-reply TooMany is form short reply = (command, form, short, reply)
  Due-reply NoMemory is form short reply = (command, form, short, reply)

pub IsReadFor-reply : (status : Status) (source source' : Incoming) (bytes : List ℕ) → IsReplied status → Reads source source' bytes → IsReadToEnd source' → IsReadFor status source source' bytes
IsReadFor-reply Usage source source' bytes is reads end = absurd is
IsReadFor-reply InputTooLong source source' bytes is reads end = absurd is
IsReadFor-reply Done source source' bytes is reads end = (reads, end)
IsReadFor-reply Refused source source' bytes is reads end = (reads, end)
IsReadFor-reply ReadFault source source' bytes is reads end = (reads, end)
IsReadFor-reply WriteFault source source' bytes is reads end = (reads, end)
IsReadFor-reply LoadFault source source' bytes is reads end = (reads, end)
IsReadFor-reply TooMany source source' bytes is reads end = (reads, end)
IsReadFor-reply NoMemory source source' bytes is reads end = (reads, end)

module _ (words : List (List ℕ)) (source source' : Incoming) (sink sink' : Outgoing) (loader loader' : Loading) where
  pub finished : (status result : Status) (bytes out : List ℕ) → Due words bytes loader loader' status out → IsReadFor status source source' bytes
      → ((result ≡ status) × Writes sink sink' out) ⊎ ((result ≡ WriteFault) × WritesFront sink sink' out)
      → Ended words source source' sink sink' loader loader' result
  finished status result bytes out due reads (inl whole) = subst (λ s. Ended words source source' sink sink' loader loader' s) (sym whole.0) (written status bytes out due reads whole.1)
  finished status result bytes out due reads (inr front) = subst (λ s. Ended words source source' sink sink' loader loader' s) (sym front.0) (write_failed status bytes out due reads front.1)

-- memory was wanting behind the input
pub cut : (words : List (List ℕ)) (command : Command) (source source' : Incoming) (bytes : List ℕ) (loader loader' : Loading) → IsFormOf words command → Reads source source' bytes
    → IsUnfinished command bytes loader loader' → IsCutShort words source source' loader loader'
cut words command source source' bytes loader loader' form reads (inl same) = unasked same
cut words command source source' bytes loader loader' form reads (inr h) =
    in_part h.op bytes h.envelope (subst (λ c. IsFormOf words c) h.command_is form) reads h.accepted h.in_part h.never_falls
