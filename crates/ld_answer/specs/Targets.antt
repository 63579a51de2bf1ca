-- What the body of a revision or of an eviction is, and why a JSON text is none (own). It names one context.
use Rattle.std.specs.Prelude.{◌≡◌, ℕ, Bool, not, List, Option, Some, None, option_and_then, if◌then◌else◌, codes}
use Rattle.std.specs.Str.{bytes_eq}
use Rattle.ld_iri.specs.Words.{is_iri}
use Rattle.ld_tree.specs.Maps.{find as value_at}
use Rattle.ld_tree.specs.Names.{Sorted}
use Rattle.ld_tree.specs.Reading.{reads}
use Rattle.ld_tree.specs.declared.tree.Tree.{Tree, out-Tree}
use Rattle.ld_tree.specs.declared.tree.Tree.TheOpen.{Tree-F}
use Rattle.ld_rec.specs.Words.{text_of}
use Rattle.ld_answer.specs.declared.refusal.EnvelopeRefusal.{EnvelopeRefusal}
use Rattle.ld_answer.specs.declared.refusal.EnvelopeRefusal.TheVariants as refusal
use Rattle.ld_answer.specs.Envelopes.{first_name, IsRefusedBy}

-- its one field
abbrev pub is_other : List ℕ × Tree → Bool
is_other e = not (bytes_eq e.0 (codes "iri"))

abbrev pub iri_fault : Tree-F Tree → Option EnvelopeRefusal
iri_fault (Tree-F.Text text) = if is_iri text then None else Some (refusal.WrongKind (codes "iri"))
iri_fault _ = Some (refusal.WrongKind (codes "iri"))

-- what stands under the field, and the least other name
abbrev pub fields_fault : Option Tree → Option (List ℕ) → Option EnvelopeRefusal
fields_fault None other = Some refusal.NotAnEnvelope
fields_fault (Some value) (Some name) = Some (refusal.UnknownField name)
fields_fault (Some value) None = iri_fault (out-Tree value)

-- the field is missing, else the least name that is no field, else the field is no IRI
abbrev pub target_fault_in : Tree-F Tree → Option EnvelopeRefusal
target_fault_in (Tree-F.Map entries) = fields_fault (value_at entries (codes "iri")) (first_name is_other entries.0)
target_fault_in _ = Some refusal.NotAnEnvelope

abbrev pub target_fault : Tree → Option EnvelopeRefusal
target_fault tree = target_fault_in (out-Tree tree)

-- the IRI that it names
abbrev pub target_in : Tree-F Tree → Option (List ℕ)
target_in (Tree-F.Map entries) = option_and_then text_of (value_at entries (codes "iri"))
target_in _ = None

-- the bytes are a JSON text without a fault, and this is the IRI that it names
abbrev pub IsTarget : List ℕ → List ℕ → Type 0
IsTarget bytes iri = (tree : Tree) × reads bytes tree × (target_fault tree ≡ None) × (target_in (out-Tree tree) ≡ Some iri)

-- why the bytes name none
abbrev pub IsNoTarget : List ℕ → EnvelopeRefusal → Type 0
IsNoTarget bytes e = IsRefusedBy target_fault bytes e
