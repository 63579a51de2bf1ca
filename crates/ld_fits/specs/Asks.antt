-- What the items of a connection come to, once their bodies are read.
use Rattle.std.specs.Prelude.{◌≡◌, ℕ, List, Option, Some, None}
use Rattle.ld_answer.specs.Bodies.{refusal_body}
use Rattle.ld_answer.specs.Envelopes.{IsAccepted, IsRefused}
use Rattle.ld_answer.specs.Targets.{IsTarget, IsNoTarget}
use Rattle.ld_answer.specs.declared.envelope.Envelope.{Envelope}
use Rattle.ld_answer.specs.declared.op.Op.{Op}
use Rattle.ld_answer.specs.declared.op.Op.TheVariants as op
use Rattle.ld_answer.specs.declared.refusal.EnvelopeRefusal.{EnvelopeRefusal}
use Rattle.ld_head.specs.Dialogues.{Item, Ask, Bad, Marked}
use Rattle.ld_head.specs.declared.outcome.Outcome.{Outcome}
use Rattle.ld_head.specs.declared.outcome.Outcome.TheVariants as outcome
use Rattle.ld_head.specs.declared.path.Path.{Path}
use Rattle.ld_head.specs.declared.path.Path.TheVariants.{Expand, Compact, Flatten, Revise, Evict}

pub data Asked : Type 0 where
  -- what the algorithms give for a document (JSON-LD 1.1 API, 9.1)
  Evaluation : Op → Envelope → Asked
  -- that the stored context of this IRI is loaded anew, or goes out
  Revision : (iri : List ℕ) → Asked
  Eviction : (iri : List ℕ) → Asked
  -- the item is no request: it stands in no history, and is answered so
  Unrecorded : Outcome → Asked

-- the paths of evaluation
abbrev pub operation : Path → Option Op
operation Expand = Some op.Expand
operation Compact = Some op.Compact
operation Flatten = Some op.Flatten
operation _ = None

-- why the body isn't what its path takes
abbrev pub IsRefusedAt : Path → List ℕ → EnvelopeRefusal → Type 0
IsRefusedAt Expand body e = IsRefused op.Expand body e
IsRefusedAt Compact body e = IsRefused op.Compact body e
IsRefusedAt Flatten body e = IsRefused op.Flatten body e
IsRefusedAt Revise body e = IsNoTarget body e
IsRefusedAt Evict body e = IsNoTarget body e

-- A body that isn't what its path takes is answered with its refusal, and one for which there was no memory before the
-- request's first pin is answered so.
abbrev pub IsLeftOut : Path → List ℕ → Outcome → Type 0
IsLeftOut path body (outcome.BadBody tree) = (e : EnvelopeRefusal) × IsRefusedAt path body e × (refusal_body e ≡ Some tree)
IsLeftOut path body outcome.NoMemory = Unit {0}
IsLeftOut path body _ = ⊥

abbrev pub IsAskedAt : Path → List ℕ → Asked → Type 0
IsAskedAt path body (Evaluation op envelope) = (operation path ≡ Some op) × IsAccepted op body envelope
IsAskedAt path body (Revision iri) = (path ≡ Revise) × IsTarget body iri
IsAskedAt path body (Eviction iri) = (path ≡ Evict) × IsTarget body iri
IsAskedAt path body (Unrecorded outcome) = IsLeftOut path body outcome

-- the outcome is that of an item that the checks of its head refuse with this status
abbrev pub IsBad : ℕ → Outcome → Type 0
IsBad status (outcome.Bad own) = own ≡ status
IsBad status _ = ⊥

abbrev pub IsBadAsked : ℕ → Asked → Type 0
IsBadAsked status (Unrecorded outcome) = IsBad status outcome
IsBadAsked status _ = ⊥

-- the item comes to this
abbrev pub IsAsked : Item → Asked → Type 0
IsAsked (Ask path body) asked = IsAskedAt path body asked
IsAsked (Bad status) asked = IsBadAsked status asked

-- an item with its marks, and what it comes to
pub record Heard : Type 0 where
  pub marked : Marked
  pub asked : Asked
  pub is : IsAsked marked.item asked
