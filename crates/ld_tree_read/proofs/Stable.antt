-- A stable sort by name leaves what the members make, and members in order are the entries.
use Rattle.std.proofs.Common.{◌≡◌, ◌∙◌, refl, sym, ap, subst, Bool, true, false, cond, not, ◌&&◌, ℕ, List, [], ◌∷◌, Option, Some, None, inl}
use Rattle.std.specs.declared.cmp.Ordering.{Ordering}
use Rattle.std.specs.declared.cmp.Ordering.TheVariants.{Less, Equal, Greater}
use Rattle.std.specs.Ordering.{is_eq, is_lt, match_ordering, ordering_reverse}
use Rattle.std.specs.Cmp.Lexicographic.{nat_list_cmp_total}
use Rattle.std.specs.List.{filter}
use Rattle.std.specs.List.Sorted.{IsStableBy, ties}
use Rattle.std.specs.Map.{keys_of, lookup}
use Rattle.std.specs.BTreeMap.{insert_entry, is_at}
use Rattle.std.proofs.lemmas.Map.Lookups.{exact_bytes}
use Rattle.std.proofs.Common.{ap₂, suc, ◌+◌, ◌-◌, ◌<◌, ◌≤◌, inr, ◌++◌, length, get_or, append-nil, append_assoc, arith}
use Rattle.std.proofs.lemmas.Map.{lookup-none}
use Rattle.std.proofs.lemmas.Map.Entries.{lookup_head, lookup_tail, none_below_head}
use Rattle.std.specs.List.{AllByRecursion}
use Rattle.std.specs.List.Sorted.{IsStrictlySortedBy}
use Rattle.ld_tree.specs.Names.{AreInOrder, name_cmp}
use Rattle.ld_tree.specs.Reading.{put_all}
use Rattle.std.proofs.lemmas.Bool.{cases_lt}
use Rattle.ld_tree.proofs.Search.{in_order_insert, key_at}
use Rattle.ld_tree.proofs.Order.{in_order_none, greater_from_less}

self : (q : List ℕ) → name_cmp q q ≡ Equal
self q = go (name_cmp q q) (nat_list_cmp_total.antisymm q q)
  where
    go : (o : Ordering) → o ≡ ordering_reverse o → o ≡ Equal
    go Less h = cc
    go Equal h = refl
    go Greater h = cc

pub put_more : {X : Type 0} (es xs : List (List ℕ × X)) (k : List ℕ) (v : X) → put_all es (xs ++ (k, v) ∷ []) ≡ insert_entry name_cmp (put_all es xs) k v
put_more es [] k v = refl
put_more es (x ∷ xs) k v = put_more (insert_entry name_cmp es x.0 x.1) xs k v

module _ {X : Type 0} where
  -- what is below the first is not there
  below : (q : List ℕ) (e : List ℕ × X) (es : List (List ℕ × X)) → AreInOrder (keys_of (e ∷ es)) → name_cmp q e.0 ≡ Less → lookup (is_at (name_cmp q)) (e ∷ es) ≡ None
  below q e es s l = lookup-none (is_at (name_cmp q)) (e ∷ es) (none_below_head nat_list_cmp_total q e es s l)

  tail_order : (e : List ℕ × X) (es : List (List ℕ × X)) → AreInOrder (keys_of (e ∷ es)) → AreInOrder (keys_of es)
  unfolding IsStrictlySortedBy
  tail_order e es s = s.1

  head_order : (e : List ℕ × X) (es : List (List ℕ × X)) → AreInOrder (keys_of (e ∷ es)) → AllByRecursion (λ y. name_cmp e.0 y ≡ Less) (keys_of es)
  unfolding IsStrictlySortedBy
  head_order e es s = s.0

  -- the first name is not further on
  once : (k : List ℕ) (es : List (List ℕ × X)) → AllByRecursion (λ y. name_cmp k y ≡ Less) (keys_of es) → lookup (is_at (name_cmp k)) es ≡ None
  once k [] h = refl
  once k (e ∷ es) h = lookup_tail (is_at (name_cmp k)) e es (ap is_eq h.0) ∙ once k es h.1

  found_first : (q : List ℕ) (e : List ℕ × X) (es : List (List ℕ × X)) → q ≡ e.0 → lookup (is_at (name_cmp q)) (e ∷ es) ≡ Some e.1
  found_first q e es same = lookup_head (is_at (name_cmp q)) e es (ap is_eq (ap (name_cmp q) (sym same) ∙ self q))

  -- entries in order are one list, if they have the same at each name
  same_lookups : (es fs : List (List ℕ × X)) → AreInOrder (keys_of es) → AreInOrder (keys_of fs) → ((q : List ℕ) → lookup (is_at (name_cmp q)) es ≡ lookup (is_at (name_cmp q)) fs) → es ≡ fs
  same_lookups [] [] s t h = refl
  same_lookups [] (f ∷ fs) s t h = let w : None ≡ Some f.1 = h f.0 ∙ found_first f.0 f fs refl in cc
  same_lookups (e ∷ es) [] s t h = let w : Some e.1 ≡ None = sym (found_first e.0 e es refl) ∙ h e.0 in cc
  same_lookups (e ∷ es) (f ∷ fs) s t h = go (name_cmp e.0 f.0) refl (same_lookups es fs (tail_order e es s) (tail_order f fs t))
    where
      rest : e.0 ≡ f.0 → (q : List ℕ) → lookup (is_at (name_cmp q)) es ≡ lookup (is_at (name_cmp q)) fs
      rest same q = at (is_eq (name_cmp q e.0)) (name_cmp q e.0) refl refl
        where
          at : (b : Bool) (o : Ordering) → b ≡ is_eq o → o ≡ name_cmp q e.0 → lookup (is_at (name_cmp q)) es ≡ lookup (is_at (name_cmp q)) fs
          at false o b is =
              let past_e = lookup_tail (is_at (name_cmp q)) e es (ap is_eq (sym is) ∙ sym b) in
              let past_f = lookup_tail (is_at (name_cmp q)) f fs (ap (λ k. is_eq (name_cmp q k)) (sym same) ∙ ap is_eq (sym is) ∙ sym b) in
              sym past_e ∙ h q ∙ past_f
          at true Equal b is =
              let here : e.0 ≡ q = sym (exact_bytes q e.0 (sym is)) in
              subst (λ q. lookup (is_at (name_cmp q)) es ≡ lookup (is_at (name_cmp q)) fs) here
              (once e.0 es (head_order e es s) ∙ sym (subst (λ k. lookup (is_at (name_cmp k)) fs ≡ None) (sym same) (once f.0 fs (head_order f fs t))))
          at true Less b is = cc
          at true Greater b is = cc

      go : (o : Ordering) → name_cmp e.0 f.0 ≡ o → (((q : List ℕ) → lookup (is_at (name_cmp q)) es ≡ lookup (is_at (name_cmp q)) fs) → es ≡ fs) → e ∷ es ≡ f ∷ fs
      go Less l ih = let w : Some e.1 ≡ None = sym (found_first e.0 e es refl) ∙ h e.0 ∙ below e.0 f fs t l in cc
      go Greater l ih = let w : Some f.1 ≡ None = sym (found_first f.0 f fs refl) ∙ sym (h f.0) ∙ below f.0 e es s (nat_list_cmp_total.antisymm f.0 e.0 ∙ ap ordering_reverse l) in cc
      go Equal l ih =
          let same = exact_bytes e.0 f.0 l in
          let w : Some e.1 ≡ Some f.1 = sym (found_first e.0 e es refl) ∙ h e.0 ∙ found_first e.0 f fs same in
          let value : e.1 ≡ f.1 = cc in
          ap₂ (λ x xs. x ∷ xs) (ap₂ (λ k v. (k, v)) same value) (ih (rest same))

  module _ (q : List ℕ) where
    lookup_put : (es : List (List ℕ × X)) (k : List ℕ) (v : X) → lookup (is_at (name_cmp q)) (insert_entry name_cmp es k v) ≡ cond (is_eq (name_cmp q k)) (Some v) (lookup (is_at (name_cmp q)) es)
    lookup_put [] k v = refl
    lookup_put (e ∷ es) k v = go (name_cmp k e.0) refl (lookup_put es k v)
      where
        go : (o : Ordering) → name_cmp k e.0 ≡ o → lookup (is_at (name_cmp q)) (insert_entry name_cmp es k v) ≡ cond (is_eq (name_cmp q k)) (Some v) (lookup (is_at (name_cmp q)) es) → lookup (is_at (name_cmp q)) (match_ordering o ((k, v) ∷ e ∷ es) ((e.0, v) ∷ es) (e ∷ insert_entry name_cmp es k v))
            ≡ cond (is_eq (name_cmp q k)) (Some v) (cond (is_eq (name_cmp q e.0)) (Some e.1) (lookup (is_at (name_cmp q)) es))
        go Less h ih = refl
        go Equal h ih =
            let same : k ≡ e.0 = exact_bytes k e.0 h in
            subst (λ k. cond (is_eq (name_cmp q e.0)) (Some v) (lookup (is_at (name_cmp q)) es) ≡ cond (is_eq (name_cmp q k)) (Some v) (cond (is_eq (name_cmp q e.0)) (Some e.1) (lookup (is_at (name_cmp q)) es))) (sym same)
            (twice (is_eq (name_cmp q e.0)))
          where
            twice : (b : Bool) → cond b (Some v) (lookup (is_at (name_cmp q)) es) ≡ cond b (Some v) (cond b (Some e.1) (lookup (is_at (name_cmp q)) es))
            twice true = refl
            twice false = refl
        go Greater h ih =
            ap (λ o. cond (is_eq (name_cmp q e.0)) (Some e.1) o) ih
            ∙ swap (is_eq (name_cmp q e.0)) (is_eq (name_cmp q k)) (name_cmp q e.0) (name_cmp q k) refl refl refl refl
          where
            swap : (a b : Bool) (x y : Ordering) → a ≡ is_eq x → b ≡ is_eq y → x ≡ name_cmp q e.0 → y ≡ name_cmp q k → cond a (Some e.1) (cond b (Some v) (lookup (is_at (name_cmp q)) es)) ≡ cond b (Some v) (cond a (Some e.1) (lookup (is_at (name_cmp q)) es))
            swap false b x y p p' r r' = refl
            swap true false x y p p' r r' = refl
            swap true true Equal Equal p p' r r' =
                let first : q ≡ e.0 = exact_bytes q e.0 (sym r) in
                let second : q ≡ k = exact_bytes q k (sym r') in
                let bad : Equal ≡ Greater = r ∙ ap (λ z. name_cmp z e.0) second ∙ h in cc
            swap true true Less y p p' r r' = cc
            swap true true Greater y p p' r r' = cc
            swap true true x Less p p' r r' = cc
            swap true true x Greater p p' r r' = cc

    -- the last of q's values, or o
    last_or : Option X → List (List ℕ × X) → Option X
    last_or o [] = o
    last_or o (x ∷ xs) = last_or (cond (is_eq (name_cmp q x.0)) (Some x.1) o) xs

    lookup_all : (es xs : List (List ℕ × X)) → lookup (is_at (name_cmp q)) (put_all es xs) ≡ last_or (lookup (is_at (name_cmp q)) es) xs
    unfolding last_or
    lookup_all es [] = refl
    lookup_all es (x ∷ xs) = lookup_all (insert_entry name_cmp es x.0 x.1) xs ∙ ap (λ o. last_or o xs) (lookup_put es x.0 x.1)

    last_filter : (p : List ℕ × X → Bool) → ((x : List ℕ × X) → p x ≡ is_eq (name_cmp q x.0)) → (o : Option X) (xs : List (List ℕ × X)) → last_or o (filter p xs) ≡ last_or o xs
    unfolding last_or
    last_filter p h o [] = refl
    last_filter p h o (x ∷ xs) = go (p x) (h x) (λ o. last_filter p h o xs)
      where
        go : (b : Bool) → b ≡ is_eq (name_cmp q x.0) → ((o : Option X) → last_or o (filter p xs) ≡ last_or o xs) → last_or o (cond b (x ∷ filter p xs) (filter p xs)) ≡ last_or (cond (is_eq (name_cmp q x.0)) (Some x.1) o) xs
        go true e ih = ih (cond (is_eq (name_cmp q x.0)) (Some x.1) o)
        go false e ih = ih o ∙ ap (λ b. last_or (cond b (Some x.1) o) xs) e

  abbrev pub before : List ℕ × X → List ℕ × X → Bool
  before x y = is_lt (name_cmp x.0 y.0)

  ties_are : (x y : List ℕ × X) → ties before x y ≡ is_eq (name_cmp x.0 y.0)
  ties_are x y = go (name_cmp x.0 y.0) (name_cmp y.0 x.0) (nat_list_cmp_total.antisymm y.0 x.0)
    where
      go : (o r : Ordering) → r ≡ ordering_reverse o → not (is_lt o) && not (is_lt r) ≡ is_eq o
      go Less r e = refl
      go Equal r e = ap (λ r. not (is_lt r)) e
      go Greater r e = ap (λ r. not (is_lt r)) e

  in_order_all : (es xs : List (List ℕ × X)) → AreInOrder (keys_of es) → AreInOrder (keys_of (put_all es xs))
  in_order_all es [] h = h
  in_order_all es (x ∷ xs) h = in_order_all (insert_entry name_cmp es x.0 x.1) xs (in_order_insert x.0 x.1 es h)

  pub stable_same : (some : X) (xs ys : List (List ℕ × X)) → IsStableBy before xs ys → put_all [] ys ≡ put_all [] xs
  stable_same some xs ys stable = same_lookups (put_all [] ys) (put_all [] xs) (in_order_all [] ys in_order_none) (in_order_all [] xs in_order_none)
      (λ q. lookup_all q [] ys ∙ sym (last_filter q (ties before (q, some)) (ties_are (q, some)) None ys) ∙ ap (last_or q None) (stable (q, some)) ∙ last_filter q (ties before (q, some)) (ties_are (q, some)) None xs ∙ sym (lookup_all q [] xs))

  -- the name after entries in order
  later : (k : List ℕ) (es : List (List ℕ × X)) (m : List ℕ × X) (ms : List (List ℕ × X)) → AllByRecursion (λ y. name_cmp k y ≡ Less) (keys_of (es ++ m ∷ ms)) → name_cmp k m.0 ≡ Less
  later k [] m ms h = h.0
  later k (e ∷ es) m ms h = later k es m ms h.1

  put_last : (es : List (List ℕ × X)) (m : List ℕ × X) (ms : List (List ℕ × X)) → AreInOrder (keys_of (es ++ m ∷ ms)) → insert_entry name_cmp es m.0 m.1 ≡ es ++ m ∷ []
  put_last [] m ms h = refl
  put_last (e ∷ es) m ms h =
      ap (λ o. match_ordering o (m ∷ e ∷ es) ((e.0, m.1) ∷ es) (e ∷ insert_entry name_cmp es m.0 m.1)) (greater_from_less m.0 e.0 (later e.0 es m ms (head_order e (es ++ m ∷ ms) h)))
      ∙ ap (λ l. e ∷ l) (put_last es m ms (tail_order e (es ++ m ∷ ms) h))

  put_rest : (es ms : List (List ℕ × X)) → AreInOrder (keys_of (es ++ ms)) → put_all es ms ≡ es ++ ms
  put_rest es [] h = sym (append-nil es)
  put_rest es (m ∷ ms) h =
      ap (λ es. put_all es ms) (put_last es m ms h)
      ∙ put_rest (es ++ m ∷ []) ms (subst (λ l. AreInOrder (keys_of l)) (sym (append_assoc es (m ∷ []) ms)) h) ∙ append_assoc es (m ∷ []) ms

  pub put_in_order : (ms : List (List ℕ × X)) → AreInOrder (keys_of ms) → put_all [] ms ≡ ms
  put_in_order ms h = put_rest [] ms h

  -- each name is before the next
  pub order_step : (ms : List (List ℕ × X)) → ((j k : ℕ) → k ≡ suc j → k < length ms → name_cmp (get_or (keys_of ms) j []) (get_or (keys_of ms) k []) ≡ Less) → AreInOrder (keys_of ms)
  unfolding IsStrictlySortedBy
  order_step [] h = tt
  order_step (m ∷ []) h = (tt, tt)
  order_step (m ∷ n ∷ ms) h =
      let rest = order_step (n ∷ ms) (λ j k e lt. h (suc j) (suc k) (ap suc e) (omega arith)) in
      let first = h 0 1 refl (omega arith) in
      ((first, all_less m.0 n.0 (keys_of ms) first rest.0), rest)
    where
      all_less : (a b : List ℕ) (names : List (List ℕ)) → name_cmp a b ≡ Less → AllByRecursion (λ y. name_cmp b y ≡ Less) names → AllByRecursion (λ y. name_cmp a y ≡ Less) names
      all_less a b [] e h = tt
      all_less a b (x ∷ xs) e h = (nat_list_cmp_total.trans a b x e h.0, all_less a b xs e h.1)

  pub order_next : (ms : List (List ℕ × X)) (i : ℕ) (a b : List ℕ × X) → 1 ≤ i → i < length ms → a ≡ get_or ms (i - 1) a → b ≡ get_or ms i b → name_cmp a.0 b.0 ≡ Less
      → ((j k : ℕ) → k ≡ suc j → k < i → name_cmp (get_or (keys_of ms) j []) (get_or (keys_of ms) k []) ≡ Less)
      → (j k : ℕ) → k ≡ suc j → k < i + 1 → name_cmp (get_or (keys_of ms) j []) (get_or (keys_of ms) k []) ≡ Less
  order_next ms i a b low lt is is' less before j k e up = elim (cases_lt k i) [
    | inl below ↦ before j k e below
    | inr past ↦
        let here : k ≡ i = omega arith in
        let former : j ≡ i - 1 = omega arith in
        rw (here, former, key_at ms (i - 1) a (omega arith) is, key_at ms i b lt is') less
  ]
