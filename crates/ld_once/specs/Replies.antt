-- The parts of a reply.
use Rattle.std.specs.Prelude.{◌≡◌, ◌⊎◌, ℕ, List, Option, Some, option_map}
use Rattle.ld_edge.specs.Faults.{NeverFalls}
use Rattle.ld_edge.specs.declared.status.Status.{Status}
use Rattle.ld_edge.specs.declared.status.Status.TheVariants.{Refused}
use Rattle.ld_tree.specs.declared.tree.Tree.{Tree}
use Rattle.ld_answer.specs.Envelopes.{IsAccepted}
use Rattle.ld_answer.specs.declared.op.Op.{Op}
use Rattle.ld_answer.specs.declared.envelope.Envelope.{Envelope}
use Rattle.ld_flight.specs.Loads.{Loading}
use Rattle.ld_once.specs.Loading.{answering, LoadsInPart}
use Rattle.ld_once.specs.Outcomes.{body_line}
use Rattle.ld_once.specs.declared.command.Command.{Command}
use Rattle.ld_once.specs.declared.command.Command.TheVariants.{Document, Schedule}
use Rattle.ld_once.specs.declared.reply.Outcome.{Outcome}
use Rattle.ld_once.specs.declared.reply.Outcome.TheVariants as outcome

-- a refusal with this text
abbrev pub IsRefusal : List ℕ → Status → List ℕ → Type 0
IsRefusal body status out = (status ≡ Refused) × (out ≡ body)

-- a refusal with this body, where there is one
abbrev pub IsRefusalOf : Option Tree → Status → List ℕ → Type 0
IsRefusalOf body status out = (status ≡ Refused) × (option_map body_line body ≡ Some out)

-- a reply with this status and this text
abbrev pub IsSettledAs : Outcome → Status → List ℕ → Type 0
IsSettledAs (outcome.Settled reply) status out = (reply.status ≡ status) × (reply.text.items ≡ out)
IsSettledAs (outcome.Missing iri) status out = ⊥

-- memory was wanting while contexts were loaded for the envelope
pub record IsLoadingCut (command : Command) (bytes : List ℕ) (loader loader' : Loading) : Type 0 where
  pub op : Op
  pub command_is : command ≡ Document op
  pub envelope : Envelope
  pub accepted : IsAccepted op bytes envelope
  pub in_part : LoadsInPart (answering op envelope) loader loader'
  pub never_falls : NeverFalls loader.faults loader'.faults

-- memory was wanting
abbrev pub IsUnfinished : Command → List ℕ → (loader loader' : Loading) → Type 0
IsUnfinished command bytes loader loader' = (loader' ≡ loader) ⊎ IsLoadingCut command bytes loader loader'
