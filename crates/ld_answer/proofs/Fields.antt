-- What stands under a field of an envelope.
use Rattle.std.proofs.Common.{◌≡◌, ℕ, List, [], ◌∷◌, Option, Some, None, Bool, true, false, not, cond, refl, sym, ap, ap₂, ◌∙◌, subst, find, option_map, option_and_then, is_some, ◌&&◌}
use Rattle.std.specs.Ordering.{is_eq}
use Rattle.std.specs.Map.{keys_of, lookup, remove_entry}
use Rattle.std.specs.BTreeMap.{is_at}
use Rattle.std.proofs.lemmas.Map.Text.{is_eq-slice_cmp}
use Rattle.std.proofs.lemmas.Slice.Eq.{bytes_eq-Decides}
use Rattle.std.specs.Prelude.{codes, if◌then◌else◌}
use Rattle.ld_iri.specs.Words.{is_iri}
use Rattle.ld_tree.specs.Names.{name_cmp, Sorted}
use Rattle.ld_tree.specs.Maps.{find as value_at}
use Rattle.ld_tree.specs.declared.tree.Tree.{Tree, out-Tree}
use Rattle.ld_tree.specs.declared.tree.Tree.TheOpen.{Tree-F}
use Rattle.ld_rec.specs.Words.{text_in, text_of}
use Rattle.ld_answer.specs.declared.op.Op.{Op}
use Rattle.ld_answer.specs.declared.op.Op.TheVariants.{Expand, Compact, Flatten}
use Rattle.ld_answer.specs.declared.refusal.EnvelopeRefusal.{EnvelopeRefusal}
use Rattle.ld_answer.specs.declared.refusal.EnvelopeRefusal.TheVariants as refusal
use Rattle.ld_answer.specs.Envelopes.{entries_fault, first_name, has_required, is_base_in, is_of_wrong_kind, is_unknown, name_fault}

same_name : (a b : List ℕ) → is_eq (name_cmp a b) ≡ true → a ≡ b
same_name a b h = (bytes_eq-Decides a b).0 (sym (is_eq-slice_cmp a b) ∙ h)

some_or : {A : Type 0} (b : Bool) (x v : A) (other : Option A) → b ≡ true → cond b (Some x) other ≡ Some v → x ≡ v
some_or true x v other h k = cc
some_or false x v other h k = cc

other_or : {A : Type 0} (b : Bool) (x : A) (other o : Option A) → b ≡ false → cond b (Some x) other ≡ o → other ≡ o
other_or false x other o h k = k
other_or true x other o h k = cc

not_first : {A : Type 0} (b : Bool) (x : A) (other : Option A) → cond b (Some x) other ≡ None → b ≡ false
not_first false x other k = refl
not_first true x other k = cc

none_mapped : {A B : Type 0} (f : A → B) (o : Option A) → option_map f o ≡ None → o ≡ None
none_mapped f None h = refl
none_mapped f (Some x) h = cc

-- where no entry is of a wrong kind, what stands under a name is of its kind
right_at : (name : List ℕ) (v : Tree) (es : List (List ℕ × Tree)) → find is_of_wrong_kind es ≡ None → lookup (is_at (name_cmp name)) es ≡ Some v → is_of_wrong_kind (name, v) ≡ false
right_at name v [] h k = cc
right_at name v (e ∷ es) h k = go (is_eq (name_cmp name e.0)) refl (λ none found. right_at name v es none found)
  where
    right : is_of_wrong_kind e ≡ false
    right = not_first (is_of_wrong_kind e) e (find is_of_wrong_kind es) h

    here : is_eq (name_cmp name e.0) ≡ true → ◌≡◌ {A = List ℕ × Tree} e (name, v)
    here t = ap₂ (λ (a : List ℕ) (b : Tree). (a, b)) (sym (same_name name e.0 t)) (some_or _ e.1 v _ t k)

    go : (t : Bool) → is_eq (name_cmp name e.0) ≡ t → (find is_of_wrong_kind es ≡ None → lookup (is_at (name_cmp name)) es ≡ Some v → is_of_wrong_kind (name, v) ≡ false) → is_of_wrong_kind (name, v) ≡ false
    go true t later = subst (λ x. is_of_wrong_kind x ≡ false) (here t) right
    go false t later = later (other_or (is_of_wrong_kind e) e _ None right h) (other_or _ e.1 _ (Some v) t k)

not_false : (b : Bool) → not b ≡ false → b ≡ true
not_false true h = refl
not_false false h = cc

text_is_iri : (v : Tree) (y : Tree-F Tree) (text : List ℕ) → is_base_in y ≡ true → text_in y ≡ Some text → is_iri text ≡ true
text_is_iri v (Tree-F.Text t) text h is = let same : t ≡ text = cc in subst (λ x. is_iri x ≡ true) same h
text_is_iri v Tree-F.Null text h is = cc
text_is_iri v (Tree-F.Bool b) text h is = cc
text_is_iri v (Tree-F.Num n) text h is = cc
text_is_iri v (Tree-F.List l) text h is = cc
text_is_iri v (Tree-F.Map m) text h is = cc

some_base : (entries : Sorted Tree) (found : Option Tree) (text : List ℕ) → first_name is_of_wrong_kind entries.0 ≡ None → value_at entries (codes "base") ≡ found → option_and_then text_of found ≡ Some text → is_iri text ≡ true
some_base entries (Some v) text h k is = text_is_iri v (out-Tree v) text (not_false (is_base_in (out-Tree v)) (right_at (codes "base") v entries.0 (none_mapped _ _ h) k)) is
some_base entries None text h k is = cc

-- where no entry is of a wrong kind, a base is an IRI
pub base_is_iri : (entries : Sorted Tree) (text : List ℕ) → first_name is_of_wrong_kind entries.0 ≡ None → option_and_then text_of (value_at entries (codes "base")) ≡ Some text → is_iri text ≡ true
base_is_iri entries text h is = some_base entries (value_at entries (codes "base")) text h refl is

none_wrong : (op : Op) (entries : Sorted Tree) (b : Bool) (unknown wrong : Option (List ℕ)) → (if b then name_fault unknown wrong else Some refusal.NotAnEnvelope) ≡ None → wrong ≡ None
none_wrong op entries true None None h = refl
none_wrong op entries true None (Some name) h = cc
none_wrong op entries true (Some name) wrong h = cc
none_wrong op entries false unknown wrong h = cc

-- an envelope without a fault has no field of a wrong kind
pub no_wrong_kind : (op : Op) (entries : Sorted Tree) → entries_fault op entries ≡ None → first_name is_of_wrong_kind entries.0 ≡ None
no_wrong_kind op entries h = none_wrong op entries (has_required op entries) (first_name (is_unknown op) entries.0) (first_name is_of_wrong_kind entries.0) h

has_both : (a b : Option Tree) → (is_some a && is_some b) ≡ true → a ≡ None → ⊥
has_both (Some x) b h k = cc
has_both None b h k = cc

has_one : (a : Option Tree) → is_some a ≡ true → a ≡ None → ⊥
has_one (Some x) h k = cc
has_one None h k = cc

needs_document : (op : Op) (entries : Sorted Tree) → has_required op entries ≡ true → value_at entries (codes "document") ≡ None → ⊥
needs_document Compact entries h k = has_both _ _ h k
needs_document Expand entries h k = has_one _ h k
needs_document Flatten entries h k = has_one _ h k

needed : (b : Bool) (fault : Option EnvelopeRefusal) → (if b then fault else Some refusal.NotAnEnvelope) ≡ None → b ≡ true
needed true fault h = refl
needed false fault h = cc

-- and it has a document
pub has_document : (op : Op) (entries : Sorted Tree) → entries_fault op entries ≡ None → value_at entries (codes "document") ≡ None → ⊥
has_document op entries h k = needs_document op entries (needed (has_required op entries) (name_fault (first_name (is_unknown op) entries.0) (first_name is_of_wrong_kind entries.0)) h) k

-- what stands under another name stays
take_beside : (name other : List ℕ) (es : List (List ℕ × Tree)) → is_eq (name_cmp other name) ≡ false
    → lookup (is_at (name_cmp other)) (remove_entry (is_at (name_cmp name)) es) ≡ lookup (is_at (name_cmp other)) es
take_beside name other [] n = refl
take_beside name other (e ∷ es) n = go (is_eq (name_cmp name e.0)) refl (take_beside name other es n)
  where
    apart : is_eq (name_cmp name e.0) ≡ true → is_eq (name_cmp other e.0) ≡ false
    apart t = subst (λ x. is_eq (name_cmp other x) ≡ false) (same_name name e.0 t) n

    go : (t : Bool) → is_eq (name_cmp name e.0) ≡ t → lookup (is_at (name_cmp other)) (remove_entry (is_at (name_cmp name)) es) ≡ lookup (is_at (name_cmp other)) es
        → lookup (is_at (name_cmp other)) (cond t es (e ∷ remove_entry (is_at (name_cmp name)) es)) ≡ lookup (is_at (name_cmp other)) (e ∷ es)
    go true t later = sym (ap (λ b. cond b (Some e.1) (lookup (is_at (name_cmp other)) es)) (apart t))
    go false t later = ap (cond (is_eq (name_cmp other e.0)) (Some e.1)) later

pub document_stays : (entries rest : Sorted Tree) → rest.0 ≡ remove_entry (is_at (name_cmp (codes "context"))) entries.0 → value_at rest (codes "document") ≡ value_at entries (codes "document")
document_stays entries rest is = ap (lookup (is_at (name_cmp (codes "document")))) is ∙ take_beside (codes "context") (codes "document") entries.0 refl
