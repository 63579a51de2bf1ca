-- What an answer lacks isn't there.
use Rattle.std.proofs.Common.{◌≡◌, ◌∙◌, refl, ℕ, Bool, List, Option, None}
use Rattle.std.specs.Prelude.{Result, Ok, Err}
use Rattle.ld_codes.specs.declared.code.Code.{Code}
use Rattle.ld_nodes.specs.Flat.{flattened}
use Rattle.ld_rec.proofs.Staying.{missing_last}
use Rattle.ld_rec.specs.Expansion.{expanded, expansion}
use Rattle.ld_rec.specs.Outcome.{Stock}
use Rattle.ld_rec.specs.Outcome.{Answer as Question}
use Rattle.ld_rec.specs.Iris.{or_else}
use Rattle.ld_rec.specs.Kinds.{null}
use Rattle.ld_compact.specs.Compaction.{compaction}
use Rattle.ld_rec.specs.declared.stop.Stop.{Stop}
use Rattle.ld_rec.specs.declared.stop.Stop.TheVariants as stop
use Rattle.ld_tree.specs.Maps.{find}
use Rattle.ld_tree.specs.declared.tree.Tree.{Tree}
use Rattle.ld_answer.specs.Answers.{and_then, answered, formed, refused_by}
use Rattle.ld_answer.specs.declared.envelope.Envelope.{Envelope}
use Rattle.ld_answer.specs.declared.op.Op.{Op}
use Rattle.ld_answer.specs.declared.op.Op.TheVariants.{Expand, Compact, Flatten}

missing_code : (r : Result Tree Code) (iri : List ℕ) → refused_by r ≡ Err (stop.Missing iri) → ⊥
missing_code (Ok tree) iri e = cc
missing_code (Err code) iri e = cc

missing_compacted : (stock : Stock) (o : Question Tree) (iri : List ℕ) → (o.run stock).result ≡ Err (stop.Missing iri) → find stock iri ≡ None
missing_compacted stock o iri is = (missing_last stock o iri is).3

missing_formed : (stock : Stock) (op : Op) (context : Option Tree) (base : Option (List ℕ)) (arrays : Bool) (tree : Tree) (iri : List ℕ)
    → formed stock op context base arrays tree ≡ Err (stop.Missing iri) → find stock iri ≡ None
missing_formed stock Expand context base arrays tree iri e = cc
missing_formed stock Compact context base arrays tree iri e = missing_compacted stock (compaction tree (or_else context null) base arrays) iri e
missing_formed stock Flatten context base arrays tree iri e = absurd (missing_code (flattened tree) iri e)

missing_after : (stock : Stock) (o : Question Tree) (r : Result Tree Stop) (then : Tree → Result Tree Stop) (iri : List ℕ) → (o.run stock).result ≡ r → and_then r then ≡ Err (stop.Missing iri)
    → ((tree : Tree) → then tree ≡ Err (stop.Missing iri) → find stock iri ≡ None) → find stock iri ≡ None
missing_after stock o (Ok tree) then iri is e later = later tree e
missing_after stock o (Err stop) then iri is e later = missing_compacted stock o iri (is ∙ e)

pub missing_not_there : (stock : Stock) (op : Op) (envelope : Envelope) (iri : List ℕ) → answered stock op envelope ≡ Err (stop.Missing iri) → find stock iri ≡ None
missing_not_there stock op envelope iri lacks =
    missing_after stock (expansion envelope.base envelope.document) (expanded stock envelope.base envelope.document).result (formed stock op envelope.context envelope.base envelope.arrays) iri refl lacks
    (λ tree e. missing_formed stock op envelope.context envelope.base envelope.arrays tree iri e)
