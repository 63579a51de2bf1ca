-- What an envelope is, and why a JSON text is none (own).
use Rattle.std.specs.Prelude.{◌≡◌, ℕ, Bool, true, false, not, ◌&&◌, List, [], ◌∷◌, find, Option, Some, None, option_map, option_and_then, if◌then◌else◌, codes}
use Rattle.std.specs.Str.{bytes_eq}
use Rattle.ld_iri.specs.Words.{is_iri}
use Rattle.ld_tree.specs.Maps.{find as value_at}
use Rattle.ld_tree.specs.Names.{Sorted}
use Rattle.ld_tree.specs.Reading.{reads}
use Rattle.ld_tree.specs.declared.tree.Tree.{Tree, out-Tree}
use Rattle.ld_tree.specs.declared.tree.Tree.TheOpen.{Tree-F}
use Rattle.ld_tree_read.specs.declared.refusal.ReadRefusal.{ReadRefusal}
use Rattle.ld_tree_read.specs.Refusals.{first_refusal}
use Rattle.ld_rec.specs.Words.{is_among, has, text_of}
use Rattle.ld_answer.specs.declared.op.Op.{Op}
use Rattle.ld_answer.specs.declared.op.Op.TheVariants.{Expand, Compact, Flatten}
use Rattle.ld_answer.specs.declared.envelope.Envelope.{Envelope}
use Rattle.ld_answer.specs.declared.refusal.EnvelopeRefusal.{EnvelopeRefusal}
use Rattle.ld_answer.specs.declared.refusal.EnvelopeRefusal.TheVariants as refusal

-- ---- the fields

-- those that an envelope of the operation may have
abbrev pub fields : Op → List (List ℕ)
fields Compact = codes "base" ∷ codes "compactArrays" ∷ codes "context" ∷ codes "document" ∷ []
fields _ = codes "base" ∷ codes "document" ∷ []

-- and those that it has to have
abbrev pub has_required : Op → Sorted Tree → Bool
has_required Compact entries = has entries (codes "document") && has entries (codes "context")
has_required _ entries = has entries (codes "document")

-- null, or an IRI
abbrev pub is_base_in : Tree-F Tree → Bool
is_base_in Tree-F.Null = true
is_base_in (Tree-F.Text text) = is_iri text
is_base_in _ = false

abbrev pub is_bool_in : Tree-F Tree → Bool
is_bool_in (Tree-F.Bool b) = true
is_bool_in _ = false

-- the field's value is of its kind
abbrev pub is_of_kind : List ℕ × Tree → Bool
is_of_kind e =
    if bytes_eq e.0 (codes "base") then is_base_in (out-Tree e.1)
    else if bytes_eq e.0 (codes "compactArrays") then is_bool_in (out-Tree e.1)
    else true

-- ---- an envelope

abbrev pub bool_in : Tree-F Tree → Option Bool
bool_in (Tree-F.Bool b) = Some b
bool_in _ = None

abbrev pub bool_of : Tree → Option Bool
bool_of tree = bool_in (out-Tree tree)

-- the context to compact with is there for compaction alone
abbrev pub context_for : Op → Sorted Tree → Option Tree
context_for Compact entries = value_at entries (codes "context")
context_for _ entries = None

abbrev pub or_true : Option Bool → Bool
or_true (Some b) = b
or_true None = true

-- what its fields say: no base is the same as null, and arrays are compacted unless it is said that they aren't
pub record IsEnvelopeOf (op : Op) (entries : Sorted Tree) (envelope : Envelope) : Type 0 where
  pub document : value_at entries (codes "document") ≡ Some envelope.document
  pub context : envelope.context ≡ context_for op entries
  pub base : envelope.base ≡ option_and_then text_of (value_at entries (codes "base"))
  pub arrays : envelope.arrays ≡ or_true (option_and_then bool_of (value_at entries (codes "compactArrays")))

-- ---- why there is none

-- the name of the first entry of which this is so; names stand in code point order
abbrev pub first_name : (List ℕ × Tree → Bool) → List (List ℕ × Tree) → Option (List ℕ)
first_name p entries = option_map (λ (e : List ℕ × Tree). e.0) (find p entries)

abbrev pub is_unknown : Op → List ℕ × Tree → Bool
is_unknown op e = not (is_among (fields op) e.0)

abbrev pub is_of_wrong_kind : List ℕ × Tree → Bool
is_of_wrong_kind e = not (is_of_kind e)

abbrev pub kind_fault : Option (List ℕ) → Option EnvelopeRefusal
kind_fault (Some name) = Some (refusal.WrongKind name)
kind_fault None = None

abbrev pub name_fault : Option (List ℕ) → Option (List ℕ) → Option EnvelopeRefusal
name_fault (Some name) wrong = Some (refusal.UnknownField name)
name_fault None wrong = kind_fault wrong

abbrev pub entries_fault : Op → Sorted Tree → Option EnvelopeRefusal
entries_fault op entries = if has_required op entries then name_fault (first_name (is_unknown op) entries.0) (first_name is_of_wrong_kind entries.0) else Some refusal.NotAnEnvelope

-- a field that has to be there is missing, else the least name that is no field, else the least field of a wrong kind
abbrev pub fault_in : Op → Tree-F Tree → Option EnvelopeRefusal
fault_in op (Tree-F.Map entries) = entries_fault op entries
fault_in op _ = Some refusal.NotAnEnvelope

abbrev pub fault_of : Op → Tree → Option EnvelopeRefusal
fault_of op tree = fault_in op (out-Tree tree)

-- ---- from bytes

abbrev pub IsEnvelopeIn : Op → Tree-F Tree → Envelope → Type 0
IsEnvelopeIn op (Tree-F.Map entries) envelope = IsEnvelopeOf op entries envelope
IsEnvelopeIn op _ envelope = ⊥

-- the bytes are a JSON text without a fault, and this is its envelope
abbrev pub IsAccepted : Op → List ℕ → Envelope → Type 0
IsAccepted op bytes envelope = (tree : Tree) × reads bytes tree × (fault_of op tree ≡ None) × IsEnvelopeIn op (out-Tree tree) envelope

-- the bytes are no JSON text (RFC 8259), for this reason
abbrev pub IsUnread : List ℕ → ReadRefusal → Type 0
IsUnread bytes e = (first_refusal bytes ≡ Some e) × ((tree : Tree) → reads bytes tree → ⊥)

-- Why the bytes are refused: they are no JSON text, or this is the text's fault. Want of memory has no cause.
abbrev pub IsRefusedBy : (fault : Tree → Option EnvelopeRefusal) → List ℕ → EnvelopeRefusal → Type 0
IsRefusedBy fault bytes (refusal.Json e) = IsUnread bytes e
IsRefusedBy fault bytes refusal.NoMemory = Unit {0}
IsRefusedBy fault bytes e = (tree : Tree) × reads bytes tree × (fault tree ≡ Some e)

-- why the bytes are no envelope
abbrev pub IsRefused : Op → List ℕ → EnvelopeRefusal → Type 0
IsRefused op bytes e = IsRefusedBy (fault_of op) bytes e
