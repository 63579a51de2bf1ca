-- What an envelope is answered over a stock of documents.
use Rattle.std.specs.Prelude.{◌≡◌, ℕ, Bool, List, Option, Result, Ok, Err}
use Rattle.ld_codes.specs.declared.code.Code.{Code}
use Rattle.ld_compact.specs.Compaction.{compacted}
use Rattle.ld_nodes.specs.Flat.{flattened}
use Rattle.ld_tree.specs.declared.tree.Tree.{Tree}
use Rattle.ld_rec.specs.Expansion.{expanded}
use Rattle.ld_rec.specs.Iris.{or_else}
use Rattle.ld_rec.specs.Kinds.{null}
use Rattle.ld_rec.specs.Outcome.{Stock}
use Rattle.ld_rec.specs.declared.stop.Stop.{Stop}
use Rattle.ld_rec.specs.declared.stop.Stop.TheVariants as stop
use Rattle.ld_answer.specs.declared.answer.Answer.{Answer}
use Rattle.ld_answer.specs.declared.answer.Answer.TheVariants as answer
use Rattle.ld_answer.specs.declared.envelope.Envelope.{Envelope}
use Rattle.ld_answer.specs.declared.op.Op.{Op}
use Rattle.ld_answer.specs.declared.op.Op.TheVariants.{Expand, Compact, Flatten}

abbrev pub and_then : Result Tree Stop → (Tree → Result Tree Stop) → Result Tree Stop
and_then (Ok tree) f = f tree
and_then (Err e) f = Err e

-- flattening gives a tree, or its code
abbrev pub refused_by : Result Tree Code → Result Tree Stop
refused_by (Ok tree) = Ok tree
refused_by (Err code) = Err (stop.Code code)

-- an expanded document in the form of the operation (JSON-LD 1.1 API, 9.1, `expand`, `compact` and `flatten`); where no
-- context is there to compact with, it is null
abbrev pub formed : Stock → Op → (context : Option Tree) → (base : Option (List ℕ)) → (arrays : Bool) → Tree → Result Tree Stop
formed stock Expand context base arrays expanded = Ok expanded
formed stock Compact context base arrays expanded = (compacted stock expanded (or_else context null) base arrays).result
formed stock Flatten context base arrays expanded = refused_by (flattened expanded)

-- the document is expanded first
abbrev pub answered_of : Stock → Op → Tree → (context : Option Tree) → (base : Option (List ℕ)) → (arrays : Bool) → Result Tree Stop
answered_of stock op document context base arrays = and_then (expanded stock base document).result (formed stock op context base arrays)

abbrev pub answered : Stock → Op → Envelope → Result Tree Stop
answered stock op envelope = answered_of stock op envelope.document envelope.context envelope.base envelope.arrays

-- the answer says just that; want of memory has no cause
abbrev pub Tells : Answer → Result Tree Stop → Type 0
Tells (answer.Result tree) r = r ≡ Ok tree
Tells (answer.Code code) r = r ≡ Err (stop.Code code)
Tells (answer.Own own) r = r ≡ Err (stop.Own own)
Tells (answer.Missing iri) r = r ≡ Err (stop.Missing iri)
Tells answer.NoMemory r = Unit {0}
