-- What an accepted envelope comes to.
use Rattle.std.specs.Prelude.{◌≡◌, ℕ, ◌+◌, ◌<◌, Option, Some, None, option_map, Result, Ok, Err, List, [], ◌∷◌, ◌++◌, length}
use Rattle.ld_edge.specs.Faults.{Rose}
use Rattle.ld_edge.specs.declared.status.Status.{Status}
use Rattle.ld_edge.specs.declared.status.Status.TheVariants.{Done, Refused, LoadFault, TooMany}
use Rattle.ld_answer.specs.Bodies.{code_body, load_fault_body, own_body, too_many_body}
use Rattle.ld_ctx.specs.Stocks.{stock_of}
use Rattle.ld_flight.specs.Loads.{Loading}
use Rattle.ld_flight.specs.declared.given.Given.{Given}
use Rattle.ld_rec.specs.declared.stop.Stop.{Stop}
use Rattle.ld_rec.specs.declared.stop.Stop.TheVariants as stop
use Rattle.ld_tree.specs.CompactText.{text}
use Rattle.ld_tree.specs.declared.tree.Tree.{Tree}
use Rattle.ld_once.specs.Loading.{Answering, Held, Loads, held_limit}
use Rattle.ld_once.specs.declared.reply.Outcome.{Outcome}
use Rattle.ld_once.specs.declared.reply.Outcome.TheVariants as outcome

-- a text, and a line feed
abbrev pub line : List ℕ → List ℕ
line bytes = bytes ++ 10 ∷ []

-- a body, and a line feed
abbrev pub body_line : Tree → List ℕ
body_line body = line (text body)

-- why a document has no result: a code, or a refusal of this profile's own
abbrev pub body_of : Stop → Option Tree
body_of (stop.Code code) = Some (code_body code)
body_of (stop.Own own) = Some (own_body own)
body_of _ = None

-- a result, or why there is none
abbrev pub IsSettled : Result Tree Stop → Status → List ℕ → Type 0
IsSettled (Ok tree) Done out = out ≡ body_line tree
IsSettled (Err e) Refused out = option_map body_line (body_of e) ≡ Some out
IsSettled _ status out = ⊥

-- what is answered for what the algorithms give over so many loaded documents
pub data IsAnswer (loader loader' : Loading) (count : ℕ) (result : Result Tree Stop) : Status → List ℕ → Type 0 where
  settled : (status : Status) (out : List ℕ) → IsSettled result status out → loader'.faults ≡ loader.faults → IsAnswer loader loader' count result status out
  -- no more contexts may be held, and one is missing
  too_many : (iri : List ℕ) → result ≡ Err (stop.Missing iri) → count ≡ held_limit → loader'.faults ≡ loader.faults
      → IsAnswer loader loader' count result TooMany (body_line (too_many_body iri))
  -- the load of the one that is missing failed
  load_fault : (iri : List ℕ) → result ≡ Err (stop.Missing iri) → count < held_limit → Rose loader.faults loader'.faults
      → IsAnswer loader loader' count result LoadFault (body_line (load_fault_body iri (count + 1) loader.faults loader'.faults))

-- what is answered once these documents were loaded, each because it was missing
pub record IsReached (answering : Answering) (loader loader' : Loading) (status : Status) (out : List ℕ) : Type 0 where
  pub given : List Given
  pub documents : List Held
  pub loads : Loads answering loader loader' given documents
  pub answer : IsAnswer loader loader' (length given) (answering (stock_of documents)) status out

-- as far as the code has it: a reply, or what is missing
abbrev pub IsOutcome : Result Tree Stop → Outcome → Type 0
IsOutcome result (outcome.Settled reply) = IsSettled result reply.status reply.text.items
IsOutcome result (outcome.Missing iri) = result ≡ Err (stop.Missing iri)
