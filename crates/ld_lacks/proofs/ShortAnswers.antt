-- A document that an answer names as missing has a short IRI: nothing else was asked for.
use Rattle.std.proofs.Common.{◌≡◌, ◌≤◌, ℕ, Bool, List, length, refl, subst, ◌∙◌}
use Rattle.std.specs.Prelude.{Option, Result, Ok, Err}
use Rattle.ld_codes.specs.declared.code.Code.{Code}
use Rattle.ld_nodes.specs.Flat.{flattened}
use Rattle.ld_tree.specs.declared.tree.Tree.{Tree}
use Rattle.ld_rec.specs.Expansion.{expanded}
use Rattle.ld_rec.specs.Iris.{or_else}
use Rattle.ld_rec.specs.Kinds.{null}
use Rattle.ld_rec.specs.Outcome.{Answer, Stock}
use Rattle.ld_rec.specs.declared.stop.Stop.{Stop}
use Rattle.ld_rec.specs.declared.stop.Stop.TheVariants as stop
use Rattle.ld_answer.specs.Answers.{and_then, answered, formed, refused_by}
use Rattle.ld_answer.specs.declared.envelope.Envelope.{Envelope}
use Rattle.ld_answer.specs.declared.op.Op.{Op}
use Rattle.ld_answer.specs.declared.op.Op.TheVariants.{Expand, Compact, Flatten}
use Rattle.ld_lacks.proofs.Short.{AsksShort, NamesShort}
use Rattle.ld_lacks.proofs.ShortExpansion.{expansion_short}
use Rattle.ld_lacks.proofs.ShortCompaction.{compaction_short}

module _ (stock : Stock) (iri : List ℕ) where
  short_by : (o : Answer Tree) → AsksShort o → (o.run stock).result ≡ Err (stop.Missing iri) → length iri ≤ 2048
  short_by o h is = subst NamesShort is (h.over stock)

  -- flattening asks for nothing
  short_flat : (r : Result Tree Code) → refused_by r ≡ Err (stop.Missing iri) → length iri ≤ 2048
  short_flat (Ok tree) is = absurd (cc)
  short_flat (Err code) is = absurd (cc)

  short_formed : (op : Op) (context : Option Tree) (base : Option (List ℕ)) (arrays : Bool) (tree : Tree) → formed stock op context base arrays tree ≡ Err (stop.Missing iri) → length iri ≤ 2048
  short_formed Expand context base arrays tree is = absurd (cc)
  short_formed Compact context base arrays tree is = short_by _ (compaction_short tree (or_else context null) base arrays) is
  short_formed Flatten context base arrays tree is = short_flat (flattened tree) is

  pub short : (op : Op) (envelope : Envelope) → answered stock op envelope ≡ Err (stop.Missing iri) → length iri ≤ 2048
  short op envelope = go (expanded stock envelope.base envelope.document).result refl
    where
      go : (r : Result Tree Stop) → (expanded stock envelope.base envelope.document).result ≡ r
          → and_then r (formed stock op envelope.context envelope.base envelope.arrays) ≡ Err (stop.Missing iri) → length iri ≤ 2048
      go (Ok tree) e is = short_formed op envelope.context envelope.base envelope.arrays tree is
      go (Err stopped) e is = short_by _ (expansion_short envelope.base envelope.document) (e ∙ is)
