-- Entries by texts, read as entries by names.
use Rattle.std.proofs.Common.{◌≡◌, ℕ, Ordering, List, [], ◌∷◌, ◌++◌, refl, sym, ap, subst, ◌∙◌, Some, None, true, false}
use Rattle.std.specs.Prelude.{cond, string_bytes, string_cmp, Result, Ok, Err, OnOk, OnErr}
use Rattle.std.specs.declared.string.String.{String}
use Rattle.std.specs.declared.cmp.Ordering.TheVariants.{Less, Equal, Greater}
use Rattle.std.specs.Ordering.{match_ordering, is_eq, nat_cmp}
use Rattle.std.specs.Cmp.Lexicographic.{slice_cmp, nat_list_cmp_total}
use Rattle.std.specs.List.{AllByRecursion}
use Rattle.std.specs.Map.{keys_of, lookup, remove_entry, set_value}
use Rattle.std.specs.BTreeMap.{insert_entry, is_at}
use Rattle.std.proofs.lemmas.Map.{lookup-none}
use Rattle.std.proofs.lemmas.Map.Entries.{none_below_head}
use Rattle.std.proofs.lemmas.Map.Keys.{sorted_head, sorted_tail}
use Rattle.ld_tree.specs.Names.{AreInOrder, name_cmp, Sorted}
use Rattle.ld_tree.specs.Maps.{put}
use Rattle.ld_tree.specs.InOrder.{in_order_insert}
use Rattle.ld_tree.specs.Texts.{named}
use Rattle.ld_tree.proofs.Order.{greater_from_less}

-- the order of a name and a text
abbrev pub text_cmp : {A : Type 0} → List ℕ → String A → Ordering
text_cmp name k = slice_cmp nat_cmp name (string_bytes k)

module _ {A T : Type 0} where
  pub lookup_named : (name : List ℕ) (es : List (String A × T)) → lookup (is_at (text_cmp name)) es ≡ lookup (is_at (name_cmp name)) (named es)
  lookup_named name [] = refl
  lookup_named name (e ∷ es) = ap (λ l. cond (is_at (text_cmp name) e.0) (Some e.1) l) (lookup_named name es)

  pub remove_named : (name : List ℕ) (es : List (String A × T)) → named (remove_entry (is_at (text_cmp name)) es) ≡ remove_entry (is_at (name_cmp name)) (named es)
  remove_named name [] = refl
  remove_named name (e ∷ es) =
      elim (is_at (text_cmp name) e.0) as (λ b. named (cond b es (e ∷ remove_entry (is_at (text_cmp name)) es)) ≡ cond b (named es) ((string_bytes e.0, e.1) ∷ remove_entry (is_at (name_cmp name)) (named es))) [
        | true ↦ refl
        | false ↦ ap (λ l. (string_bytes e.0, e.1) ∷ l) (remove_named name es)
      ]

  module _ (value : T) where
    pub set_named : (name : List ℕ) (es : List (String A × T)) → named (set_value (is_at (text_cmp name)) es value) ≡ set_value (is_at (name_cmp name)) (named es) value
    set_named name [] = refl
    set_named name (e ∷ es) =
        elim (is_at (text_cmp name) e.0) as (λ b. named (cond b ((e.0, value) ∷ es) (e ∷ set_value (is_at (text_cmp name)) es value)) ≡ cond b ((string_bytes e.0, value) ∷ named es) ((string_bytes e.0, e.1) ∷ set_value (is_at (name_cmp name)) (named es) value)) [
          | true ↦ refl
          | false ↦ ap (λ l. (string_bytes e.0, e.1) ∷ l) (set_named name es)
        ]

    pub insert_named : (k : String A) (es : List (String A × T)) → named (insert_entry string_cmp es k value) ≡ insert_entry name_cmp (named es) (string_bytes k) value
    insert_named k [] = refl
    insert_named k (e ∷ es) =
        elim (string_cmp k e.0) as (λ o. named (match_ordering o ((k, value) ∷ e ∷ es) ((e.0, value) ∷ es) (e ∷ insert_entry string_cmp es k value))
        ≡ match_ordering o ((string_bytes k, value) ∷ (string_bytes e.0, e.1) ∷ named es) ((string_bytes e.0, value) ∷ named es) ((string_bytes e.0, e.1) ∷ insert_entry name_cmp (named es) (string_bytes k) value)) [
          | Less ↦ refl
          | Equal ↦ refl
          | Greater ↦ ap (λ l. (string_bytes e.0, e.1) ∷ l) (insert_named k es)
        ]

    -- what an insertion leaves, whether or not it found memory
    pub in_order_put : {X E : Type 0} (r : Result X E) (k : String A) (es new : List (String A × T)) → AreInOrder (keys_of (named es))
        → OnOk r (new ≡ insert_entry string_cmp es k value) → OnErr r (new ≡ es) → AreInOrder (keys_of (named new))
    in_order_put (Ok x) k es new h is _ = subst (λ l. AreInOrder (keys_of l)) (sym (ap named is ∙ insert_named k es)) (in_order_insert (string_bytes k) value (named es) h)
    in_order_put (Err e) k es new h _ is = subst (λ l. AreInOrder (keys_of (named l))) (sym is) h

-- a value put in the place of one that is there
module _ {T : Type 0} (name : List ℕ) (value : T) where
  none_is_some : (old : T) → None ≡ Some old → ⊥
  none_is_some old e = cc

  none_below : (e : List ℕ × T) (es : List (List ℕ × T)) → AreInOrder (keys_of (e ∷ es)) → name_cmp name e.0 ≡ Less → lookup (is_at (name_cmp name)) (e ∷ es) ≡ None
  none_below e es h is = lookup-none (is_at (name_cmp name)) (e ∷ es) (none_below_head nat_list_cmp_total name e es h is)

  pub set_is_put : (es : List (List ℕ × T)) (old : T) → AreInOrder (keys_of es) → lookup (is_at (name_cmp name)) es ≡ Some old
      → set_value (is_at (name_cmp name)) es value ≡ insert_entry name_cmp es name value
  set_is_put [] old h found = absurd (none_is_some old found)
  set_is_put (e ∷ es) old h found =
      elim (name_cmp name e.0) as (λ o. name_cmp name e.0 ≡ o → cond (is_eq o) (Some e.1) (lookup (is_at (name_cmp name)) es) ≡ Some old
      → cond (is_eq o) ((e.0, value) ∷ es) (e ∷ set_value (is_at (name_cmp name)) es value) ≡ match_ordering o ((name, value) ∷ e ∷ es) ((e.0, value) ∷ es) (e ∷ insert_entry name_cmp es name value)) [
        | Less ↦ λ is there. absurd (none_is_some old (sym (none_below e es h is) ∙ found))
        | Equal ↦ λ is there. refl
        | Greater ↦ λ is there. ap (λ l. e ∷ l) (set_is_put es old (sorted_tail name_cmp e.0 (keys_of es) h) there)
      ] refl found

  pub in_order_set : (es : List (List ℕ × T)) (old : T) → AreInOrder (keys_of es) → lookup (is_at (name_cmp name)) es ≡ Some old → AreInOrder (keys_of (set_value (is_at (name_cmp name)) es value))
  in_order_set es old h found = subst (λ l. AreInOrder (keys_of l)) (sym (set_is_put es old h found)) (in_order_insert name value es h)

  -- an entry put where all names are before it is the last
  pub put_last : (es rest : List (List ℕ × T)) → AreInOrder (keys_of (es ++ (name, value) ∷ rest)) → insert_entry name_cmp es name value ≡ es ++ (name, value) ∷ []
  put_last [] rest h = refl
  put_last (e ∷ es) rest h =
      ap (λ o. match_ordering o ((name, value) ∷ e ∷ es) ((e.0, value) ∷ es) (e ∷ insert_entry name_cmp es name value)) (greater_from_less name e.0 (before e.0 es (sorted_head name_cmp e.0 (keys_of (es ++ (name, value) ∷ rest)) h)))
      ∙ ap (λ l. e ∷ l) (put_last es rest (sorted_tail name_cmp e.0 (keys_of (es ++ (name, value) ∷ rest)) h))
    where
      before : (key : List ℕ) (es : List (List ℕ × T)) → AllByRecursion (λ y. name_cmp key y ≡ Less) (keys_of (es ++ (name, value) ∷ rest)) → name_cmp key name ≡ Less
      before key [] a = a.0
      before key (x ∷ xs) a = before key xs a.1

  -- the same where the entries come in turn
  pub put_next : (m new all : Sorted T) (rest : List (List ℕ × T)) → new ≡ put m name value → m.0 ++ (name, value) ∷ rest ≡ all.0 → new.0 ++ rest ≡ all.0
  put_next m new all rest is e =
      ap (λ (s : Sorted T). s.0 ++ rest) is ∙ ap (λ l. l ++ rest) (put_last m.0 rest (subst (λ l. AreInOrder (keys_of l)) (sym e) all.1))
      ∙ moved m.0 ∙ e
    where
      moved : (es : List (List ℕ × T)) → (es ++ (name, value) ∷ []) ++ rest ≡ es ++ (name, value) ∷ rest
      moved [] = refl
      moved (x ∷ xs) = ap (λ l. x ∷ l) (moved xs)
