-- What stands in a map once a value was put there, and in a stock once a document came to it.
use Rattle.std.proofs.Common.{◌≡◌, ◌∙◌, refl, sym, ap, subst, ℕ, Bool, true, false, List, [], ◌∷◌, ◌++◌, Option, Some, None}
use Rattle.std.specs.Prelude.{cond}
use Rattle.std.specs.BTreeMap.{insert_entry, is_at}
use Rattle.std.specs.Cmp.Lexicographic.{same_text}
use Rattle.std.specs.Map.{lookup}
use Rattle.std.specs.Ordering.{is_eq, match_ordering}
use Rattle.std.specs.Str.{bytes_eq}
use Rattle.std.specs.declared.cmp.Ordering.{Ordering}
use Rattle.std.specs.declared.cmp.Ordering.TheVariants.{Less, Equal, Greater}
use Rattle.std.proofs.lemmas.List.Sums.{fold-append}
use Rattle.std.proofs.lemmas.Map.Text.{is_eq-slice_cmp}
use Rattle.std.proofs.lemmas.Slice.Eq.{bytes_eq-Decides}
use Rattle.ld_ctx.specs.Stocks.{stock_of, with_document}
use Rattle.ld_tree.specs.Maps.{empty, find}
use Rattle.ld_tree.specs.Names.{name_cmp}
use Rattle.ld_once.specs.Loading.{Held}

abbrev at_name : {T : Type 0} → List ℕ → List (List ℕ × T) → Option T
at_name name es = lookup (is_at (name_cmp name)) es

same_key : (a b : List ℕ) → name_cmp a b ≡ Equal → a ≡ b
same_key a b is = same_text a b (sym (sym (is_eq-slice_cmp a b) ∙ ap is_eq is))

module _ {T : Type 0} where
  -- what is put is found, and what stands under other names stays
  found_new : (name : List ℕ) (value : T) (es : List (List ℕ × T)) → bytes_eq name name ≡ true → at_name name (insert_entry name_cmp es name value) ≡ Some value
  found_new name value [] same = ap (λ (b : Bool). cond b (Some value) None) (is_eq-slice_cmp name name ∙ same)
  found_new name value (x ∷ xs) same =
      elim (name_cmp name x.0) as (λ o. name_cmp name x.0 ≡ o → at_name name (match_ordering o ((name, value) ∷ x ∷ xs) ((x.0, value) ∷ xs) (x ∷ insert_entry name_cmp xs name value)) ≡ Some value) [
        | Less ↦ λ e. ap (λ (b : Bool). cond b (Some value) (at_name name (x ∷ xs))) (is_eq-slice_cmp name name ∙ same)
        | Equal ↦ λ e. ap (λ (o : Ordering). cond (is_eq o) (Some value) (at_name name xs)) e
        | Greater ↦ λ e. ap (λ (o : Ordering). cond (is_eq o) (Some x.1) (at_name name (insert_entry name_cmp xs name value))) e ∙ found_new name value xs same
      ] refl

  found_other : (text name : List ℕ) (value : T) → bytes_eq text name ≡ false → (es : List (List ℕ × T)) → at_name text (insert_entry name_cmp es name value) ≡ at_name text es
  found_other text name value other [] = ap (λ (b : Bool). cond b (Some value) None) (is_eq-slice_cmp text name ∙ other)
  found_other text name value other (x ∷ xs) =
      elim (name_cmp name x.0) as (λ o. name_cmp name x.0 ≡ o → at_name text (match_ordering o ((name, value) ∷ x ∷ xs) ((x.0, value) ∷ xs) (x ∷ insert_entry name_cmp xs name value)) ≡ at_name text (x ∷ xs)) [
        | Less ↦ λ e. ap (λ (b : Bool). cond b (Some value) (at_name text (x ∷ xs))) (is_eq-slice_cmp text name ∙ other)
        | Equal ↦ λ e. let none : is_eq (name_cmp text x.0) ≡ false = ap (λ (n : List ℕ). is_eq (name_cmp text n)) (sym (same_key name x.0 e)) ∙ is_eq-slice_cmp text name ∙ other in
            ap (λ (b : Bool). cond b (Some value) (at_name text xs)) none ∙ sym (ap (λ (b : Bool). cond b (Some x.1) (at_name text xs)) none)
        | Greater ↦ λ e. ap (λ (o : Option T). cond (is_eq (name_cmp text x.0)) (Some x.1) o) (found_other text name value other xs)
      ] refl

no_some : {A : Type 0} (a : A) → Some a ≡ None → ⊥
no_some a e = cc

-- the stock once the document came to it
grown : (documents : List Held) (document : Held) → stock_of (documents ++ document ∷ []) ≡ with_document (stock_of documents) document
grown documents document = fold-append with_document empty documents (document ∷ [])

by_name : (same : Bool) (iri : List ℕ) (documents : List Held) (document : Held) → bytes_eq iri document.0 ≡ same → find (stock_of (documents ++ document ∷ [])) iri ≡ None
    → (bytes_eq iri document.0 ≡ false) × (find (stock_of documents) iri ≡ None)
by_name true iri documents document is none =
    let here = (bytes_eq-Decides iri document.0).0 is in
    let found = found_new document.0 document.1 (stock_of documents).0 ((bytes_eq-Decides document.0 document.0).1 refl) in
    absurd (no_some document.1 (sym found ∙ ap (λ s. find s document.0) (sym (grown documents document)) ∙ ap (λ i. find (stock_of (documents ++ document ∷ [])) i) (sym here) ∙ none))
by_name false iri documents document is none =
    (is, sym (found_other iri document.0 document.1 is (stock_of documents).0) ∙ ap (λ s. find s iri) (sym (grown documents document)) ∙ none)

-- what isn't there then wasn't there before, and is another
pub not_there : (iri : List ℕ) (documents : List Held) (document : Held) → find (stock_of (documents ++ document ∷ [])) iri ≡ None
    → (bytes_eq iri document.0 ≡ false) × (find (stock_of documents) iri ≡ None)
not_there iri documents document none = by_name (bytes_eq iri document.0) iri documents document refl none
