-- A document that an answer names as missing isn't in the stock: it is the last one that was asked for.
use Rattle.std.proofs.Common.{◌≡◌, ℕ, Bool, List, refl, ◌∙◌}
use Rattle.std.specs.Prelude.{Option, None, Result, Ok, Err}
use Rattle.ld_codes.specs.declared.code.Code.{Code}
use Rattle.ld_compact.specs.Compaction.{compaction}
use Rattle.ld_nodes.specs.Flat.{flattened}
use Rattle.ld_tree.specs.declared.tree.Tree.{Tree}
use Rattle.ld_tree.specs.Maps.{find}
use Rattle.ld_rec.specs.Expansion.{expansion, expanded}
use Rattle.ld_rec.specs.Iris.{or_else}
use Rattle.ld_rec.specs.Kinds.{null}
use Rattle.ld_rec.specs.Outcome.{Answer, Stock}
use Rattle.ld_rec.specs.declared.stop.Stop.{Stop}
use Rattle.ld_rec.specs.declared.stop.Stop.TheVariants as stop
use Rattle.ld_rec.proofs.Staying.{missing_last}
use Rattle.ld_answer.specs.Answers.{and_then, answered, formed, refused_by}
use Rattle.ld_answer.specs.declared.envelope.Envelope.{Envelope}
use Rattle.ld_answer.specs.declared.op.Op.{Op}
use Rattle.ld_answer.specs.declared.op.Op.TheVariants.{Expand, Compact, Flatten}

module _ (stock : Stock) (iri : List ℕ) where
  lacked_by : (o : Answer Tree) → (o.run stock).result ≡ Err (stop.Missing iri) → find stock iri ≡ None
  lacked_by o is = (missing_last stock o iri is).3

  -- flattening asks for nothing
  lacked_flat : (r : Result Tree Code) → refused_by r ≡ Err (stop.Missing iri) → find stock iri ≡ None
  lacked_flat (Ok tree) is = absurd (cc)
  lacked_flat (Err code) is = absurd (cc)

  lacked_formed : (op : Op) (context : Option Tree) (base : Option (List ℕ)) (arrays : Bool) (tree : Tree) → formed stock op context base arrays tree ≡ Err (stop.Missing iri) → find stock iri ≡ None
  lacked_formed Expand context base arrays tree is = absurd (cc)
  lacked_formed Compact context base arrays tree is = lacked_by (compaction tree (or_else context null) base arrays) is
  lacked_formed Flatten context base arrays tree is = lacked_flat (flattened tree) is

  pub lacked : (op : Op) (envelope : Envelope) → answered stock op envelope ≡ Err (stop.Missing iri) → find stock iri ≡ None
  lacked op envelope = go (expanded stock envelope.base envelope.document).result refl
    where
      go : (r : Result Tree Stop) → (expanded stock envelope.base envelope.document).result ≡ r
          → and_then r (formed stock op envelope.context envelope.base envelope.arrays) ≡ Err (stop.Missing iri) → find stock iri ≡ None
      go (Ok tree) e is = lacked_formed op envelope.context envelope.base envelope.arrays tree is
      go (Err stopped) e is = lacked_by (expansion envelope.base envelope.document) (e ∙ is)
