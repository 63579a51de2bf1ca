-- Entries by their names.
use Rattle.std.proofs.Common.{◌≡◌, ℕ, zero, suc, ◌<◌, ◌≤◌, List, [], ◌∷◌, length, get_or, set, refl, sym, ap, ◌∙◌, arith, Some, None, true, false}
use Rattle.std.specs.declared.cmp.Ordering.TheVariants.{Less, Equal, Greater}
use Rattle.std.specs.Ordering.{is_eq, match_ordering}
use Rattle.std.specs.List.{insert, remove}
use Rattle.std.specs.Prelude.{cond}
use Rattle.std.specs.Map.{keys_of, lookup, remove_entry}
use Rattle.std.specs.BTreeMap.{insert_entry, is_at}
use Rattle.std.proofs.lemmas.Map.Entries.{lookup_head, lookup_tail, length-keys_of}
use Rattle.ld_tree.specs.Names.{AreInOrder, name_cmp, IsAt, IsPlace}
use Rattle.ld_tree.proofs.Order.{after_found}
pub use Rattle.ld_tree.specs.InOrder.{in_order_insert, in_order_remove}

module _ {T : Type 0} where
  -- the name of the entry at i
  pub key_at : (es : List (List ℕ × T)) (i : ℕ) (e : List ℕ × T) → i < length es → e ≡ get_or es i e → get_or (keys_of es) i [] ≡ e.0
  key_at [] i e lt is = absurd (omega arith)
  key_at (x ∷ xs) zero e lt is = ap (λ y. y.0) (sym is)
  key_at (x ∷ xs) (suc i) e lt is = key_at xs i e (omega arith) is

module _ {T : Type 0} (name : List ℕ) where
  pub lookup_found : (es : List (List ℕ × T)) (i : ℕ) (e : List ℕ × T) → i < length es → e ≡ get_or es i e
      → ((k : ℕ) → k < i → name_cmp name (get_or (keys_of es) k []) ≡ Greater) → name_cmp name e.0 ≡ Equal → lookup (is_at (name_cmp name)) es ≡ Some e.1
  lookup_found [] i e lt is after eq = absurd (omega arith)
  lookup_found (x ∷ xs) zero e lt is after eq =
      lookup_head (is_at (name_cmp name)) x xs (ap is_eq (ap (λ y. name_cmp name y.0) (sym is) ∙ eq)) ∙ ap (λ y. Some y.1) (sym is)
  lookup_found (x ∷ xs) (suc i) e lt is after eq =
      lookup_tail (is_at (name_cmp name)) x xs (ap is_eq (after 0 (omega arith))) ∙ lookup_found xs i e (omega arith) is (λ k below. after (suc k) (omega arith)) eq

  pub lookup_none : (es : List (List ℕ × T)) (i : ℕ) → ((k : ℕ) → k < i → name_cmp name (get_or (keys_of es) k []) ≡ Greater)
      → ((k : ℕ) → i ≤ k → k < length (keys_of es) → name_cmp name (get_or (keys_of es) k []) ≡ Less) → lookup (is_at (name_cmp name)) es ≡ None
  lookup_none [] i after before = refl
  lookup_none (x ∷ xs) zero after before =
      lookup_tail (is_at (name_cmp name)) x xs (ap is_eq (before 0 (omega arith) (omega arith))) ∙ lookup_none xs zero (λ k lt. absurd (omega arith)) (λ k le lt. before (suc k) (omega arith) (omega arith))
  lookup_none (x ∷ xs) (suc i) after before =
      lookup_tail (is_at (name_cmp name)) x xs (ap is_eq (after 0 (omega arith))) ∙ lookup_none xs i (λ k lt. after (suc k) (omega arith)) (λ k le lt. before (suc k) (omega arith) (omega arith))

  pub remove_found : (es : List (List ℕ × T)) (i : ℕ) (e : List ℕ × T) → i < length es → e ≡ get_or es i e
      → ((k : ℕ) → k < i → name_cmp name (get_or (keys_of es) k []) ≡ Greater) → name_cmp name e.0 ≡ Equal → remove_entry (is_at (name_cmp name)) es ≡ remove es i
  remove_found [] i e lt is after eq = absurd (omega arith)
  remove_found (x ∷ xs) zero e lt is after eq = ap (λ b. cond b xs (x ∷ remove_entry (is_at (name_cmp name)) xs)) (ap is_eq (ap (λ y. name_cmp name y.0) (sym is) ∙ eq))
  remove_found (x ∷ xs) (suc i) e lt is after eq =
      ap (λ b. cond b xs (x ∷ remove_entry (is_at (name_cmp name)) xs)) (ap is_eq (after 0 (omega arith)))
      ∙ ap (λ l. x ∷ l) (remove_found xs i e (omega arith) is (λ k below. after (suc k) (omega arith)) eq)

  pub remove_none : (es : List (List ℕ × T)) → lookup (is_at (name_cmp name)) es ≡ None → es ≡ remove_entry (is_at (name_cmp name)) es
  remove_none [] h = refl
  remove_none (x ∷ xs) h = elim (is_at (name_cmp name) x.0) as (λ b. cond b (Some x.1) (lookup (is_at (name_cmp name)) xs) ≡ None → x ∷ xs ≡ cond b xs (x ∷ remove_entry (is_at (name_cmp name)) xs)) [
    | true ↦ λ g. cc
    | false ↦ λ g. ap (λ l. x ∷ l) (remove_none xs g)
  ] h

  module _ (value : T) where
    pub insert_found : (es : List (List ℕ × T)) (i : ℕ) (e : List ℕ × T) → i < length es → e ≡ get_or es i e
        → ((k : ℕ) → k < i → name_cmp name (get_or (keys_of es) k []) ≡ Greater) → name_cmp name e.0 ≡ Equal → insert_entry name_cmp es name value ≡ set es i (e.0, value)
    insert_found [] i e lt is after eq = absurd (omega arith)
    insert_found (x ∷ xs) zero e lt is after eq =
        ap (λ o. match_ordering o ((name, value) ∷ x ∷ xs) ((x.0, value) ∷ xs) (x ∷ insert_entry name_cmp xs name value)) (ap (λ y. name_cmp name y.0) (sym is) ∙ eq)
        ∙ ap (λ y. (y.0, value) ∷ xs) (sym is)
    insert_found (x ∷ xs) (suc i) e lt is after eq =
        ap (λ o. match_ordering o ((name, value) ∷ x ∷ xs) ((x.0, value) ∷ xs) (x ∷ insert_entry name_cmp xs name value)) (after 0 (omega arith))
        ∙ ap (λ l. x ∷ l) (insert_found xs i e (omega arith) is (λ k below. after (suc k) (omega arith)) eq)

    pub insert_new : (es : List (List ℕ × T)) (i : ℕ) → i ≤ length es → ((k : ℕ) → k < i → name_cmp name (get_or (keys_of es) k []) ≡ Greater)
        → ((k : ℕ) → i ≤ k → k < length (keys_of es) → name_cmp name (get_or (keys_of es) k []) ≡ Less) → insert_entry name_cmp es name value ≡ insert es i (name, value)
    insert_new [] zero le after before = refl
    insert_new [] (suc i) le after before = absurd (omega arith)
    insert_new (x ∷ xs) zero le after before =
        ap (λ o. match_ordering o ((name, value) ∷ x ∷ xs) ((x.0, value) ∷ xs) (x ∷ insert_entry name_cmp xs name value)) (before 0 (omega arith) (omega arith))
    insert_new (x ∷ xs) (suc i) le after before =
        ap (λ o. match_ordering o ((name, value) ∷ x ∷ xs) ((x.0, value) ∷ xs) (x ∷ insert_entry name_cmp xs name value)) (after 0 (omega arith))
        ∙ ap (λ l. x ∷ l) (insert_new xs i (omega arith) (λ k lt. after (suc k) (omega arith)) (λ k from lt. before (suc k) (omega arith) (omega arith)))

-- what a search has told
module _ {T : Type 0} (name : List ℕ) (es : List (List ℕ × T)) (i : ℕ) where
  module _ (e : List ℕ × T) (sorted : AreInOrder (keys_of es)) (at : IsAt name (keys_of es) i) (is : e ≡ get_or es i e) where
    within_found : i < length es
    within_found = omega (arith, at.0, length-keys_of es)

    equal_found : name_cmp name e.0 ≡ Equal
    equal_found = ap (name_cmp name) (sym (key_at es i e within_found is)) ∙ at.1

    pub found : lookup (is_at (name_cmp name)) es ≡ Some e.1
    found = lookup_found name es i e within_found is (after_found name (keys_of es) sorted i at) equal_found

    pub taken_found : remove es i ≡ remove_entry (is_at (name_cmp name)) es
    taken_found = sym (remove_found name es i e within_found is (after_found name (keys_of es) sorted i at) equal_found)

    pub put_found : (value : T) → set es i (e.0, value) ≡ insert_entry name_cmp es name value
    put_found value = sym (insert_found name value es i e within_found is (after_found name (keys_of es) sorted i at) equal_found)

  pub none_found : IsPlace name (keys_of es) i → lookup (is_at (name_cmp name)) es ≡ None
  none_found h = lookup_none name es i h.after h.before

  pub put_new : (value : T) → IsPlace name (keys_of es) i → insert es i (name, value) ≡ insert_entry name_cmp es name value
  put_new value h = sym (insert_new name value es i (omega (arith, h.within, length-keys_of es)) h.after h.before)
