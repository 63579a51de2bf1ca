-- What was put at a new key and taken out again leaves the entries as they were.
use Rattle.std.proofs.Common.{◌≡◌, ◌∙◌, refl, sym, ap, List, [], ◌∷◌, ℕ, Bool, Some, None, cond, is_some, not}
use Rattle.std.specs.Prelude.{if◌then◌else◌}
use Rattle.std.specs.declared.cmp.Ordering.{Ordering}
use Rattle.std.specs.declared.cmp.Ordering.TheVariants.{Less, Equal, Greater}
use Rattle.std.specs.Ordering.{is_eq, match_ordering, ordering_reverse}
use Rattle.std.specs.Cmp.Lexicographic.{nat_list_cmp_total, same_text}
use Rattle.std.proofs.lemmas.Map.Text.{is_eq-slice_cmp}
use Rattle.ld_tree.specs.Names.{name_cmp}
use Rattle.ld_history.specs.Words.{at_iri}
use Rattle.ld_history.specs.After.{put_iri, take_iri, named}

own_reverse : (o : Ordering) → o ≡ ordering_reverse o → o ≡ Equal
own_reverse Less h = cc
own_reverse Equal h = cc
own_reverse Greater h = cc

pub same_name : (iri : List ℕ) → name_cmp iri iri ≡ Equal
same_name iri = own_reverse _ (nat_list_cmp_total.antisymm iri iri)

module _ {X : Type 0} (iri : List ℕ) (value : X) where
  step : (e : List ℕ × X) (es : List (List ℕ × X)) → cond (is_eq (name_cmp iri e.0)) (Some e.1) (at_iri es iri) ≡ None
      → (at_iri es iri ≡ None → take_iri (put_iri es iri value) iri ≡ es)
      → take_iri (match_ordering (name_cmp iri e.0) ((iri, value) ∷ e ∷ es) ((e.0, value) ∷ es) (e ∷ put_iri es iri value)) iri ≡ e ∷ es
  step e es none rest =
      elim (name_cmp iri e.0) as (λ o. name_cmp iri e.0 ≡ o → cond (is_eq o) (Some e.1) (at_iri es iri) ≡ None
      → take_iri (match_ordering o ((iri, value) ∷ e ∷ es) ((e.0, value) ∷ es) (e ∷ put_iri es iri value)) iri ≡ e ∷ es) [
        | Less ↦ λ is h. ap (λ o. cond (is_eq o) (e ∷ es) ((iri, value) ∷ take_iri (e ∷ es) iri)) (same_name iri)
        | Equal ↦ λ is h. cc
        | Greater ↦ λ is h. ap (λ o. cond (is_eq o) (put_iri es iri value) (e ∷ take_iri (put_iri es iri value) iri)) is ∙ ap (λ l. e ∷ l) (rest h)
      ] refl none

  pub take-put : (es : List (List ℕ × X)) → at_iri es iri ≡ None → take_iri (put_iri es iri value) iri ≡ es
  take-put [] none = ap (λ o. cond (is_eq o) [] ((iri, value) ∷ [])) (same_name iri)
  take-put (e ∷ es) none = step e es none (take-put es)

-- the same over the entries that a map had, then and after
pub undone : {X : Type 0} (iri : List ℕ) (value : X) (es put taken : List (List ℕ × X)) → put ≡ put_iri es iri value → taken ≡ take_iri put iri → at_iri es iri ≡ None → taken ≡ es
undone iri value es put taken is_put is_taken none = is_taken ∙ ap (λ l. take_iri l iri) is_put ∙ take-put iri value es none

-- and where it was put only if it was new
pub unnamed : (iri : List ℕ) (es put taken : List (List ℕ × List ℕ)) (first : Bool) → put ≡ named es iri → first ≡ not (is_some (at_iri es iri))
    → taken ≡ (if first then take_iri put iri else put) → taken ≡ es
unnamed iri es put taken first is_put is_first is_taken =
    elim (at_iri es iri) as (λ o. at_iri es iri ≡ o → put ≡ (if is_some o then es else put_iri es iri []) → first ≡ not (is_some o) → taken ≡ es) [
      | None ↦ λ none p f. undone iri [] es put taken p (is_taken ∙ ap (λ b. if b then take_iri put iri else put) f) none
      | Some turns ↦ λ some p f. is_taken ∙ ap (λ b. if b then take_iri put iri else put) f ∙ p
    ] refl is_put is_first

-- a name that is found by its order is the same text
pub same_key : (a b : List ℕ) → name_cmp a b ≡ Equal → a ≡ b
same_key a b is = same_text a b (sym (sym (is_eq-slice_cmp a b) ∙ ap is_eq is))
