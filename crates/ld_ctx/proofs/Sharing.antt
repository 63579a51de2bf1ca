-- Maps of mapped values, and of shared ones.
use Rattle.std.proofs.Common.{◌≡◌, ℕ, List, [], ◌∷◌, map, refl, sym, ap, ◌∙◌, Some, Bool, true, false, cond}
use Rattle.std.specs.Prelude.{option_map, fold}
use Rattle.std.specs.Arc.{arc_value}
use Rattle.std.specs.declared.sync.Arc.{Arc}
use Rattle.std.specs.declared.alloc.Global.{Global}
use Rattle.std.specs.declared.cmp.Ordering.TheVariants.{Less, Equal, Greater}
use Rattle.std.specs.Ordering.{match_ordering}
use Rattle.std.specs.Map.{lookup}
use Rattle.std.specs.BTreeMap.{insert_entry, is_at}
use Rattle.ld_tree.specs.Names.{name_cmp, Sorted, same_sorted}
use Rattle.ld_tree.specs.Maps.{empty, find, put}
use Rattle.ld_tree.specs.formers.entries.Entries.{on_value}
use Rattle.ld_rec.specs.declared.doc.Doc.{Doc}
use Rattle.ld_ctx.specs.Shares.{value_in, values_of_shared}
use Rattle.ld_ctx.specs.Stocks.{with_document, stock_of, shared_entries}

module _ {S T : Type 0} (h : S → T) where
  pub lookup_mapped : (test : List ℕ → Bool) (es : List (List ℕ × S)) → lookup test (map (on_value h) es) ≡ option_map h (lookup test es)
  lookup_mapped test [] = refl
  lookup_mapped test (e ∷ es) = elim (test e.0) as (λ b. cond b (Some (h e.1)) (lookup test (map (on_value h) es)) ≡ option_map h (cond b (Some e.1) (lookup test es))) [ true ↦ refl | false ↦ lookup_mapped test es ]

  pub insert_mapped : (name : List ℕ) (value : S) (es : List (List ℕ × S)) → map (on_value h) (insert_entry name_cmp es name value) ≡ insert_entry name_cmp (map (on_value h) es) name (h value)
  insert_mapped name value [] = refl
  insert_mapped name value (e ∷ es) =
      elim (name_cmp name e.0) as (λ o. map (on_value h) (match_ordering o ((name, value) ∷ e ∷ es) ((e.0, value) ∷ es) (e ∷ insert_entry name_cmp es name value))
      ≡ match_ordering o ((name, h value) ∷ on_value h e ∷ map (on_value h) es) ((e.0, h value) ∷ map (on_value h) es) (on_value h e ∷ insert_entry name_cmp (map (on_value h) es) name (h value))) [
        | Less ↦ refl
        | Equal ↦ refl
        | Greater ↦ ap (λ l. on_value h e ∷ l) (insert_mapped name value es)
      ]

module _ {T : Type 0} where
  pub find_shared : (m : Sorted (Arc T Global)) (name : List ℕ) → find (values_of_shared m) name ≡ option_map value_in (lookup (is_at (name_cmp name)) m.0)
  find_shared m name = lookup_mapped value_in (is_at (name_cmp name)) m.0

  pub put_shared : (m : Sorted (Arc T Global)) (name : List ℕ) (value : Arc T Global) → values_of_shared (put m name value) ≡ put (values_of_shared m) name (arc_value value)
  put_shared m name value = same_sorted _ _ (insert_mapped value_in name value m.0)

-- the stock of what came so far, and of what is still to come
pub stock_begun : (docs : Sorted (Arc Doc Global)) (now all : List (List ℕ × Arc Doc Global)) → docs ≡ empty → now ≡ all → fold with_document (values_of_shared docs) (shared_entries now) ≡ stock_of (shared_entries all)
stock_begun docs now all none same =
    ap (λ (s : Sorted (Arc Doc Global)). fold with_document (values_of_shared s) (shared_entries now)) none
    ∙ ap (λ (s : Sorted Doc). fold with_document s (shared_entries now)) (same_sorted (values_of_shared empty) empty refl) ∙ ap (λ l. stock_of (shared_entries l)) same

pub stock_next : (docs new : Sorted (Arc Doc Global)) (iri : List ℕ) (doc : Arc Doc Global) (all now rest : List (List ℕ × Arc Doc Global)) → new ≡ put docs iri doc → now ≡ (iri, doc) ∷ rest
    → fold with_document (values_of_shared docs) (shared_entries now) ≡ stock_of (shared_entries all) → fold with_document (values_of_shared new) (shared_entries rest) ≡ stock_of (shared_entries all)
stock_next docs new iri doc all now rest is comes h =
    ap (λ (s : Sorted (Arc Doc Global)). fold with_document (values_of_shared s) (shared_entries rest)) is
    ∙ ap (λ (s : Sorted Doc). fold with_document s (shared_entries rest)) (put_shared docs iri doc)
    ∙ ap (λ l. fold with_document (values_of_shared docs) (shared_entries l)) (sym comes) ∙ h
