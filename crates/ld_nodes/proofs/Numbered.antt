-- What stands under a number: in a list, in lists by number, and in a table of numbered names.
use Rattle.std.proofs.Common.{◌≡◌, ◌∙◌, ◌<◌, ◌++◌, refl, sym, ap, ap₂, ℕ, zero, suc, Bool, true, false, List, [], ◌∷◌, length, get_or, set, replicate, map, eqb, append_assoc, append-nil, ◌⊎◌, inl, inr, ◌≢◌, Option, Some, arith, length-set, rules}
use Rattle.std.specs.Prelude.{cond}
use Rattle.std.proofs.lemmas.Bool.Decides.{eqb_tells}
use Rattle.std.proofs.lemmas.List.{get_or-set_same, get_or-set_other, length-replicate}
use Rattle.std.proofs.lemmas.Cmp.{nat_list_cmp_total}
use Rattle.std.proofs.lemmas.Map.Lookups.{exact_bytes, exact_unsigned}
use Rattle.std.specs.Cmp.{IsTotalOrder, nat_cmp_is}
use Rattle.std.specs.Cmp.Rules.{comparing}
use Rattle.std.specs.List.{AllByRecursion}
use Rattle.std.specs.List.Sorted.{IsStrictlySortedBy}
use Rattle.std.specs.Map.{keys_of, lookup}
use Rattle.std.specs.BTreeMap.{insert_entry, is_at}
use Rattle.std.specs.Ordering.{is_eq, match_ordering, nat_cmp, ordering_reverse, ordering_then}
use Rattle.std.specs.declared.cmp.Ordering.{Ordering}
use Rattle.std.specs.declared.cmp.Ordering.TheVariants.{Less, Equal, Greater}
use Rattle.ld_group.specs.Groups.{add_at, grouped}
use Rattle.ld_tree.specs.Names.{name_cmp}
use Rattle.ld_nodes.specs.Names.{Name}
use Rattle.ld_nodes.specs.NodeMap.{with_name}
use Rattle.ld_nodes.specs.Tables.{Table}
use Rattle.ld_nodes.specs.Walks.{Key, key_cmp}

-- ---- lists by number

module _ {X : Type 0} where
  -- the items of a number
  abbrev pub items_with : ℕ → List (ℕ × X) → List X
  items_with n [] = []
  items_with n (e ∷ es) = cond (eqb e.0 n) (e.1 ∷ items_with n es) (items_with n es)

  added_at : (groups : List (List X)) (n k : ℕ) (x : X) (rest : List X) → n < length groups
      → get_or (set groups k (get_or groups k [] ++ x ∷ [])) n [] ++ rest ≡ get_or groups n [] ++ cond (eqb k n) (x ∷ rest) rest
  added_at groups n k x rest inside = elim (eqb_tells k n) [
    | inl same ↦
        let here : k < length groups = omega (arith, same.1, inside) in
        ap (λ (m : ℕ). get_or (set groups k (get_or groups k [] ++ x ∷ [])) m [] ++ rest) (sym same.1)
        ∙ ap (λ (l : List X). l ++ rest) (get_or-set_same groups k (get_or groups k [] ++ x ∷ []) [] here)
        ∙ append_assoc (get_or groups k []) (x ∷ []) rest
        ∙ ap (λ (m : ℕ). get_or groups m [] ++ x ∷ rest) same.1
        ∙ ap (λ (b : Bool). get_or groups n [] ++ cond b (x ∷ rest) rest) (sym same.0)
    | inr other ↦
        ap (λ (l : List X). l ++ rest) (get_or-set_other groups k n (get_or groups k [] ++ x ∷ []) [] (λ e. other.1 (sym e)))
        ∙ ap (λ (b : Bool). get_or groups n [] ++ cond b (x ∷ rest) rest) (sym other.0)
  ]

  -- the list of a number
  pub grouped_at : (groups : List (List X)) (es : List (ℕ × X)) (n : ℕ) → n < length groups → get_or (grouped groups es) n [] ≡ get_or groups n [] ++ items_with n es
  grouped_at groups [] n inside = sym (append-nil (get_or groups n []))
  grouped_at groups (e ∷ es) n inside =
      let longer = length-set groups e.0 (get_or groups e.0 [] ++ e.1 ∷ []) in
      grouped_at (add_at groups e.0 e.1) es n (omega (arith, inside, longer)) ∙ added_at groups n e.0 e.1 (items_with n es) inside

  abbrev nobody : List X
  nobody = []

  none_at : (k n : ℕ) → get_or (replicate k nobody) n nobody ≡ nobody
  none_at zero n = refl
  none_at (suc k) zero = refl
  none_at (suc k) (suc n) = none_at k n

  pub grouped_items : (k : ℕ) (es : List (ℕ × X)) (n : ℕ) → n < k → get_or (grouped (replicate k nobody) es) n [] ≡ items_with n es
  grouped_items k es n inside =
      let long = length-replicate k nobody in
      grouped_at (replicate k nobody) es n (omega (arith, inside, long)) ∙ ap (λ (l : List X). l ++ items_with n es) (none_at k n)

-- ---- tables of numbered names

pub key_total : IsTotalOrder key_cmp
key_total = search (rules, comparing)

nat_self : (n : ℕ) → nat_cmp n n ≡ Equal
nat_self n = sym (nat_cmp_is n n Equal refl)

pub name_self : (name : Name) → name_cmp name name ≡ Equal
name_self name = self_by (name_cmp name name) (nat_list_cmp_total.antisymm name name)
  where
    self_by : (o : Ordering) → o ≡ ordering_reverse o → o ≡ Equal
    self_by Less e = cc
    self_by Equal e = refl
    self_by Greater e = cc

-- keys of one number go by the name
pub by_name : (k j : ℕ) (x y : Name) → j ≡ k → key_cmp (k, x) (j, y) ≡ name_cmp x y
by_name k j x y e = ap (λ o. ordering_then o (name_cmp x y)) (ap (nat_cmp k) e ∙ nat_self k)

pub key_self : (key : Key) → key_cmp key key ≡ Equal
key_self key = by_name key.0 key.0 key.1 key.1 refl ∙ name_self key.1

then_equal : (a b : Ordering) → ordering_then a b ≡ Equal → (a ≡ Equal) × (b ≡ Equal)
then_equal Less b e = absurd (let bad : Less ≡ Equal = e in cc)
then_equal Equal b e = (refl, e)
then_equal Greater b e = absurd (let bad : Greater ≡ Equal = e in cc)

-- keys that compare as equal are the same
pub same_key : (a b : Key) → key_cmp a b ≡ Equal → (a.0 ≡ b.0) × (a.1 ≡ b.1)
same_key a b e = let parts = then_equal (nat_cmp a.0 b.0) (name_cmp a.1 b.1) e in (exact_unsigned a.0 b.0 parts.0, exact_bytes a.1 b.1 parts.1)

module _ {K : Type 0} {cmp : K → K → Ordering} (total : IsTotalOrder cmp) where
  abbrev pub IsBelow : K → List K → Type 0
  IsBelow key keys = AllByRecursion (λ y. cmp key y ≡ Less) keys

  pub below_more : (a b : K) (ks : List K) → cmp a b ≡ Less → IsBelow b ks → IsBelow a ks
  below_more a b [] p h = tt
  below_more a b (k ∷ ks) p h = (total.trans a b k p h.0, below_more a b ks p h.1)

  module _ (key : K) (v : ℕ) where
    below_insert : (k : K) (es : Table K) → cmp k key ≡ Less → IsBelow k (keys_of es) → IsBelow k (keys_of (insert_entry cmp es key v))
    below_insert k [] p h = (p, tt)
    below_insert k (x ∷ xs) p h =
        elim (cmp key x.0) as (λ o. IsBelow k (keys_of (match_ordering o ((key, v) ∷ x ∷ xs) ((x.0, v) ∷ xs) (x ∷ insert_entry cmp xs key v)))) [
          | Less ↦ (p, h)
          | Equal ↦ h
          | Greater ↦ (h.0, below_insert k xs p h.1)
        ]

    pub sorted_insert : (es : Table K) → IsStrictlySortedBy cmp (keys_of es) → IsStrictlySortedBy cmp (keys_of (insert_entry cmp es key v))
    unfolding IsStrictlySortedBy
    sorted_insert [] h = (tt, tt)
    sorted_insert (x ∷ xs) h =
        elim (cmp key x.0) as (λ o. cmp key x.0 ≡ o → IsStrictlySortedBy cmp (keys_of (match_ordering o ((key, v) ∷ x ∷ xs) ((x.0, v) ∷ xs) (x ∷ insert_entry cmp xs key v)))) [
          | Less ↦ λ e. ((e, below_more key x.0 (keys_of xs) e h.0), h)
          | Equal ↦ λ e. h
          | Greater ↦ λ e. (below_insert x.0 xs (total.antisymm x.0 key ∙ ap ordering_reverse e) h.0, sorted_insert xs h.1)
        ] refl

-- ---- tables of numbered names

-- the names of a number, as they stand in a table
abbrev pub names_with : ℕ → Table Key → List Name
names_with n [] = []
names_with n (e ∷ es) = cond (eqb e.0.0 n) (e.0.1 ∷ names_with n es) (names_with n es)

abbrev pub IsSorted : Table Key → Type 0
IsSorted es = IsStrictlySortedBy key_cmp (keys_of es)

pub sorted_none : IsSorted []
unfolding IsStrictlySortedBy
sorted_none = tt

module _ (k : ℕ) (name : Name) (v : ℕ) where
  abbrev key : Key
  key = (k, name)

  -- a name that is before the others goes first
  goes_first : (es : Table Key) → IsBelow key_total key (keys_of es) → with_name name (names_with k es) ≡ name ∷ names_with k es
  goes_first [] h = refl
  goes_first (e ∷ es) h = elim (eqb_tells e.0.0 k) [
    | inl same ↦
        let less = sym (by_name k e.0.0 name e.0.1 same.1) ∙ h.0 in
        ap (λ (b : Bool). with_name name (cond b (e.0.1 ∷ names_with k es) (names_with k es))) same.0
        ∙ ap (λ o. match_ordering o (name ∷ e.0.1 ∷ names_with k es) (e.0.1 ∷ names_with k es) (e.0.1 ∷ with_name name (names_with k es))) less
        ∙ ap (λ (b : Bool). name ∷ cond b (e.0.1 ∷ names_with k es) (names_with k es)) (sym same.0)
    | inr other ↦
        ap (λ (b : Bool). with_name name (cond b (e.0.1 ∷ names_with k es) (names_with k es))) other.0 ∙ goes_first es h.1
        ∙ ap (λ (b : Bool). name ∷ cond b (e.0.1 ∷ names_with k es) (names_with k es)) (sym other.0)
  ]

  self_first : (rest : List Name) → cond (eqb k k) (name ∷ rest) rest ≡ name ∷ rest
  self_first rest = elim (eqb_tells k k) [
    | inl same ↦ ap (λ (b : Bool). cond b (name ∷ rest) rest) same.0
    | inr other ↦ absurd (other.1 refl)
  ]

  module _ (e : Key × ℕ) (es : Table Key) where
    abbrev names : List Name
    names = names_with k es

    less_case : key_cmp key e.0 ≡ Less → IsBelow key_total e.0 (keys_of es) → names_with k ((key, v) ∷ e ∷ es) ≡ with_name name (names_with k (e ∷ es))
    less_case o below = self_first (names_with k (e ∷ es)) ∙ sym (goes_first (e ∷ es) (o, below_more key_total key e.0 (keys_of es) o below))

    equal_case : key_cmp key e.0 ≡ Equal → names_with k ((e.0, v) ∷ es) ≡ with_name name (names_with k (e ∷ es))
    equal_case o =
        let same = same_key key e.0 o in
        elim (eqb_tells e.0.0 k) [
          | inl alike ↦
              ap (λ (b : Bool). cond b (e.0.1 ∷ names) names) alike.0
              ∙ ap (λ o. match_ordering o (name ∷ e.0.1 ∷ names) (e.0.1 ∷ names) (e.0.1 ∷ with_name name names)) (sym (sym (by_name k e.0.0 name e.0.1 alike.1) ∙ o))
              ∙ ap (λ (b : Bool). with_name name (cond b (e.0.1 ∷ names) names)) (sym alike.0)
          | inr unlike ↦ absurd (unlike.1 (sym same.0))
        ]

    greater_case : key_cmp key e.0 ≡ Greater → names_with k (insert_entry key_cmp es key v) ≡ with_name name names
        → names_with k (e ∷ insert_entry key_cmp es key v) ≡ with_name name (names_with k (e ∷ es))
    greater_case o rest = elim (eqb_tells e.0.0 k) [
      | inl alike ↦
          ap (λ (b : Bool). cond b (e.0.1 ∷ names_with k (insert_entry key_cmp es key v)) (names_with k (insert_entry key_cmp es key v))) alike.0
          ∙ ap (λ (l : List Name). e.0.1 ∷ l) rest
          ∙ ap (λ o. match_ordering o (name ∷ e.0.1 ∷ names) (e.0.1 ∷ names) (e.0.1 ∷ with_name name names)) (sym (sym (by_name k e.0.0 name e.0.1 alike.1) ∙ o))
          ∙ ap (λ (b : Bool). with_name name (cond b (e.0.1 ∷ names) names)) (sym alike.0)
      | inr unlike ↦
          ap (λ (b : Bool). cond b (e.0.1 ∷ names_with k (insert_entry key_cmp es key v)) (names_with k (insert_entry key_cmp es key v))) unlike.0
          ∙ rest ∙ ap (λ (b : Bool). with_name name (cond b (e.0.1 ∷ names) names)) (sym unlike.0)
    ]

    head_case : (o : Ordering) → key_cmp key e.0 ≡ o → IsBelow key_total e.0 (keys_of es) → names_with k (insert_entry key_cmp es key v) ≡ with_name name names
        → names_with k (match_ordering o ((key, v) ∷ e ∷ es) ((e.0, v) ∷ es) (e ∷ insert_entry key_cmp es key v)) ≡ with_name name (names_with k (e ∷ es))
    head_case Less o below rest = less_case o below
    head_case Equal o below rest = equal_case o
    head_case Greater o below rest = greater_case o rest

  -- the names of its number have the name
  names_same : (es : Table Key) → IsSorted es → names_with k (insert_entry key_cmp es key v) ≡ with_name name (names_with k es)
  unfolding IsStrictlySortedBy
  names_same [] h = self_first []
  names_same (e ∷ es) h = head_case e es (key_cmp key e.0) refl h.0 (names_same es h.1)

  module _ (n : ℕ) (unlike : eqb k n ≡ false) where
    other_head : (e : Key × ℕ) (es : Table Key) (o : Ordering) → names_with n (insert_entry key_cmp es key v) ≡ names_with n es
        → names_with n (match_ordering o ((key, v) ∷ e ∷ es) ((e.0, v) ∷ es) (e ∷ insert_entry key_cmp es key v)) ≡ names_with n (e ∷ es)
    other_head e es Less rest = ap (λ (b : Bool). cond b (name ∷ names_with n (e ∷ es)) (names_with n (e ∷ es))) unlike
    other_head e es Equal rest = refl
    other_head e es Greater rest = ap (λ (l : List Name). cond (eqb e.0.0 n) (e.0.1 ∷ l) l) rest

    names_other : (es : Table Key) → names_with n (insert_entry key_cmp es key v) ≡ names_with n es
    names_other [] = ap (λ (b : Bool). cond b (name ∷ []) []) unlike
    names_other (e ∷ es) = other_head e es (key_cmp key e.0) (names_other es)

  -- the names of a number once a key was put
  pub names_put : (es : Table Key) → IsSorted es → (n : ℕ) → names_with n (insert_entry key_cmp es key v) ≡ cond (eqb k n) (with_name name (names_with n es)) (names_with n es)
  names_put es h n = elim (eqb_tells k n) [
    | inl alike ↦
        ap (λ (m : ℕ). names_with m (insert_entry key_cmp es key v)) (sym alike.1) ∙ names_same es h ∙ ap (λ (m : ℕ). with_name name (names_with m es)) alike.1
        ∙ ap (λ (b : Bool). cond b (with_name name (names_with n es)) (names_with n es)) (sym alike.0)
    | inr unlike ↦ names_other n unlike.0 es ∙ ap (λ (b : Bool). cond b (with_name name (names_with n es)) (names_with n es)) (sym unlike.0)
  ]

-- ---- each entry of a table in order is the one that its key finds

abbrev pub AreFound : Table Key → Table Key → Type 0
AreFound table es = AllByRecursion (λ (e : Key × ℕ). lookup (is_at (key_cmp e.0)) table ≡ Some e.1) es

found_past : (h : Key × ℕ) (table es : Table Key) → IsBelow key_total h.0 (keys_of es) → AreFound table es → AreFound (h ∷ table) es
found_past h table [] below found = tt
found_past h table (e ∷ es) below found = (
  ap (λ o. cond (is_eq o) (Some h.1) (lookup (is_at (key_cmp e.0)) table)) (key_total.antisymm e.0 h.0 ∙ ap ordering_reverse below.0) ∙ found.0,
  found_past h table es below.1 found.1,
)

pub all_found : (es : Table Key) → IsSorted es → AreFound es es
unfolding IsStrictlySortedBy
all_found [] h = tt
all_found (e ∷ es) h = (ap (λ o. cond (is_eq o) (Some e.1) (lookup (is_at (key_cmp e.0)) es)) (key_self e.0), found_past e es es h.0 (all_found es h.1))

module _ {X : Type 0} (F : Key × ℕ → X) (h : Name → X) (n : ℕ) where
  abbrev pub made_of : Key × ℕ → ℕ × X
  made_of e = (e.0.0, F e)

  abbrev rest_of : Table Key → List X
  rest_of es = items_with n (map made_of es)

  -- what is made of the entries of a number, by their names
  pub assembled : (es : Table Key) → AllByRecursion (λ (e : Key × ℕ). e.0.0 ≡ n → F e ≡ h e.0.1) es → items_with n (map made_of es) ≡ map h (names_with n es)
  assembled [] all = refl
  assembled (e ∷ es) all = elim (eqb_tells e.0.0 n) [
    | inl alike ↦
        ap (λ (b : Bool). cond b (F e ∷ rest_of es) (rest_of es)) alike.0 ∙ ap₂ (λ (x : X) (xs : List X). x ∷ xs) (all.0 alike.1) (assembled es all.1)
        ∙ ap (λ (b : Bool). map h (cond b (e.0.1 ∷ names_with n es) (names_with n es))) (sym alike.0)
    | inr unlike ↦
        ap (λ (b : Bool). cond b (F e ∷ rest_of es) (rest_of es)) unlike.0 ∙ assembled es all.1 ∙ ap (λ (b : Bool). map h (cond b (e.0.1 ∷ names_with n es) (names_with n es))) (sym unlike.0)
  ]
