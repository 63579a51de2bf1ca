-- Bytes are one envelope at most, and not both an envelope and none.
use Rattle.std.proofs.Common.{◌≡◌, ◌∙◌, ℕ, List, Option, Some, None, refl, sym, ap, subst}
use Rattle.std.specs.Prelude.{Result}
use Rattle.ld_tree.specs.Reading.{reads}
use Rattle.ld_tree.specs.Names.{Sorted}
use Rattle.ld_tree.specs.declared.tree.Tree.{Tree, out-Tree}
use Rattle.ld_tree.specs.declared.tree.Tree.TheOpen.{Tree-F}
use Rattle.ld_tree.proofs.Once.{read_once}
use Rattle.ld_rec.specs.Outcome.{Stock}
use Rattle.ld_rec.specs.declared.stop.Stop.{Stop}
use Rattle.ld_answer.specs.Answers.{answered, answered_of}
use Rattle.ld_answer.specs.Envelopes.{IsAccepted, IsEnvelopeIn, IsEnvelopeOf, IsRefused, fault_of}
use Rattle.ld_answer.specs.declared.envelope.Envelope.{Envelope}
use Rattle.ld_answer.specs.declared.op.Op.{Op}
use Rattle.ld_answer.specs.declared.op.Op.TheVariants.{Expand, Compact, Flatten}
use Rattle.ld_answer.specs.declared.refusal.EnvelopeRefusal.{EnvelopeRefusal}
use Rattle.ld_answer.specs.declared.refusal.EnvelopeRefusal.TheVariants as refusal

ap₄ : {A B C D E : Type 0} (f : A → B → C → D → E) {a a' : A} {b b' : B} {c c' : C} {d d' : D} → a ≡ a' → b ≡ b' → c ≡ c' → d ≡ d' → f a b c d ≡ f a' b' c' d'
ap₄ f p q r s = λ i. f (p i) (q i) (r i) (s i)

none_some : {A : Type 0} (a : A) → None ≡ Some a → ⊥
none_some a e = cc

some_once : {A : Type 0} (a b : A) → Some a ≡ Some b → a ≡ b
some_once a b e = cc

-- an envelope that is accepted isn't refused, but for want of memory
module _ (op : Op) (bytes : List ℕ) (envelope : Envelope) (accepted : IsAccepted op bytes envelope) where
  at_fault : (e : EnvelopeRefusal) → (tree : Tree) × reads bytes tree × (fault_of op tree ≡ Some e) → ⊥
  at_fault e h = none_some e (sym accepted.2 ∙ ap (fault_of op) (read_once bytes accepted.0 h.0 accepted.1 h.1) ∙ h.2)

  refused_for_memory : (e : EnvelopeRefusal) → IsRefused op bytes e → (e ≡ refusal.NoMemory → ⊥) → ⊥
  refused_for_memory (refusal.Json e) h k = h.1 accepted.0 accepted.1
  refused_for_memory refusal.NotAnEnvelope h k = at_fault refusal.NotAnEnvelope h
  refused_for_memory (refusal.UnknownField name) h k = at_fault (refusal.UnknownField name) h
  refused_for_memory (refusal.WrongKind name) h k = at_fault (refusal.WrongKind name) h
  refused_for_memory refusal.NoMemory h k = k refl

pub accepted_or_refused : (op : Op) (bytes : List ℕ) (envelope : Envelope) (e : EnvelopeRefusal) → IsAccepted op bytes envelope → IsRefused op bytes e → (e ≡ refusal.NoMemory → ⊥) → ⊥
accepted_or_refused op bytes envelope e accepted refused = refused_for_memory op bytes envelope accepted e refused

same_fields : (stock : Stock) (op : Op) (a b : Envelope) → a.document ≡ b.document → a.context ≡ b.context → a.base ≡ b.base → a.arrays ≡ b.arrays → answered stock op a ≡ answered stock op b
same_fields stock op a b document context base arrays = ap₄ (answered_of stock op) document context base arrays

same_entries : (op : Op) (y : Tree-F Tree) (a b : Envelope) (stock : Stock) → IsEnvelopeIn op y a → IsEnvelopeIn op y b → answered stock op a ≡ answered stock op b
same_entries op (Tree-F.Map entries) a b stock h k =
    same_fields stock op a b (some_once a.document b.document (sym h.document ∙ k.document)) (h.context ∙ sym k.context) (h.base ∙ sym k.base) (h.arrays ∙ sym k.arrays)
same_entries op _ a b stock h k = absurd h

-- two envelopes of the same bytes are answered alike
pub answered_once : (op : Op) (bytes : List ℕ) (stock : Stock) (a b : Envelope) → IsAccepted op bytes a → IsAccepted op bytes b → answered stock op a ≡ answered stock op b
answered_once op bytes stock a b h k =
    same_entries op (out-Tree k.0) a b stock (subst (λ tree. IsEnvelopeIn op (out-Tree tree) a) (read_once bytes h.0 k.0 h.1 k.1) h.3) k.3
