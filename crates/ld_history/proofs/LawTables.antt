-- Entries in order: what is found, how many there are, and that the order stays, after a put or a take.
use Rattle.std.proofs.Common.{◌≡◌, suc, List, [], ◌∷◌, length, refl, sym, ap, ◌∙◌, subst, Some, None, Bool, true, false, cond}
use Rattle.std.specs.declared.cmp.Ordering.{Ordering}
use Rattle.std.specs.declared.cmp.Ordering.TheVariants.{Less, Equal, Greater}
use Rattle.std.specs.Ordering.{is_eq, match_ordering, ordering_reverse}
use Rattle.std.specs.Cmp.{IsTotalOrder, tied_itself, alike_right, eq_by_cmp_equiv}
use Rattle.std.specs.List.{AllByRecursion}
use Rattle.std.specs.List.Sorted.{IsStrictlySortedBy}
use Rattle.std.specs.Map.{keys_of, lookup, remove_entry, set_value}
use Rattle.std.specs.BTreeMap.{insert_entry, is_at}
use Rattle.std.proofs.lemmas.Map.{lookup-none, lookup-remove_entry, keys-set_value}
use Rattle.std.proofs.lemmas.Map.Entries.{none_below_head}
use Rattle.std.proofs.lemmas.Map.Keys.{IsDistinct-from_sorted}

turned_greater : (r s : Ordering) → r ≡ Greater → s ≡ ordering_reverse r → s ≡ Less
turned_greater r s p q = q ∙ ap ordering_reverse p

pub equal_from : (r : Ordering) → is_eq r ≡ true → r ≡ Equal
equal_from Less h = cc
equal_from Equal h = refl
equal_from Greater h = cc

module _ {K X : Type 0} {R : K → K → Ordering} (o : IsTotalOrder R) where
  module _ (k : K) (v : X) where
    pub put_same : (es : List (K × X)) → lookup (is_at (R k)) (insert_entry R es k v) ≡ Some v
    put_same [] = ap (λ r. cond (is_eq r) (Some v) None) (tied_itself o k)
    put_same (e ∷ es) =
        elim (R k e.0) as (λ r. R k e.0 ≡ r → lookup (is_at (R k)) (match_ordering r ((k, v) ∷ e ∷ es) ((e.0, v) ∷ es) (e ∷ insert_entry R es k v)) ≡ Some v) [
          | Less ↦ λ is. ap (λ r. cond (is_eq r) (Some v) (lookup (is_at (R k)) (e ∷ es))) (tied_itself o k)
          | Equal ↦ λ is. ap (λ r. cond (is_eq r) (Some v) (lookup (is_at (R k)) es)) is
          | Greater ↦ λ is. ap (λ r. cond (is_eq r) (Some e.1) (lookup (is_at (R k)) (insert_entry R es k v))) is ∙ put_same es
        ] refl

    pub put_other : (q : K) → is_eq (R q k) ≡ false → (es : List (K × X)) → lookup (is_at (R q)) (insert_entry R es k v) ≡ lookup (is_at (R q)) es
    put_other q n [] = ap (λ b. cond b (Some v) None) n
    put_other q n (e ∷ es) =
        elim (R k e.0) as (λ r. R k e.0 ≡ r → lookup (is_at (R q)) (match_ordering r ((k, v) ∷ e ∷ es) ((e.0, v) ∷ es) (e ∷ insert_entry R es k v)) ≡ lookup (is_at (R q)) (e ∷ es)) [
          | Less ↦ λ is. ap (λ b. cond b (Some v) (lookup (is_at (R q)) (e ∷ es))) n
          | Equal ↦ λ is.
              let miss : is_eq (R q e.0) ≡ false = ap is_eq (sym (alike_right o k e.0 q is)) ∙ n in
              ap (λ b. cond b (Some v) (lookup (is_at (R q)) es)) miss ∙ sym (ap (λ b. cond b (Some e.1) (lookup (is_at (R q)) es)) miss)
          | Greater ↦ λ is. ap (λ l. cond (is_eq (R q e.0)) (Some e.1) l) (put_other q n es)
        ] refl

    pub length-put_new : (es : List (K × X)) → lookup (is_at (R k)) es ≡ None → length (insert_entry R es k v) ≡ suc (length es)
    length-put_new [] h = refl
    length-put_new (e ∷ es) h =
        elim (R k e.0) as (λ r. R k e.0 ≡ r → cond (is_eq r) (Some e.1) (lookup (is_at (R k)) es) ≡ None → length (match_ordering r ((k, v) ∷ e ∷ es) ((e.0, v) ∷ es) (e ∷ insert_entry R es k v)) ≡ suc (length (e ∷ es))) [
          | Less ↦ λ is none. refl
          | Equal ↦ λ is none. cc
          | Greater ↦ λ is none. ap suc (length-put_new es none)
        ] refl h

    pub length-put_found : (es : List (K × X)) (w : X) → IsStrictlySortedBy R (keys_of es) → lookup (is_at (R k)) es ≡ Some w → length (insert_entry R es k v) ≡ length es
    unfolding IsStrictlySortedBy
    length-put_found [] w s h = cc
    length-put_found (e ∷ es) w s h =
        elim (R k e.0) as (λ r. R k e.0 ≡ r → cond (is_eq r) (Some e.1) (lookup (is_at (R k)) es) ≡ Some w → length (match_ordering r ((k, v) ∷ e ∷ es) ((e.0, v) ∷ es) (e ∷ insert_entry R es k v)) ≡ length (e ∷ es)) [
          | Less ↦ λ is some. let none : lookup (is_at (R k)) (e ∷ es) ≡ None = lookup-none (is_at (R k)) (e ∷ es) (none_below_head o k e es s is) in cc
          | Equal ↦ λ is some. refl
          | Greater ↦ λ is some. ap suc (length-put_found es w s.1 some)
        ] refl h

    below_put : (key : K) (es : List (K × X)) → R key k ≡ Less → AllByRecursion (λ y. R key y ≡ Less) (keys_of es) → AllByRecursion (λ y. R key y ≡ Less) (keys_of (insert_entry R es k v))
    below_put key [] p h = (p, tt)
    below_put key (x ∷ xs) p h =
        elim (R k x.0) as (λ r. AllByRecursion (λ y. R key y ≡ Less) (keys_of (match_ordering r ((k, v) ∷ x ∷ xs) ((x.0, v) ∷ xs) (x ∷ insert_entry R xs k v)))) [
          | Less ↦ (p, h)
          | Equal ↦ h
          | Greater ↦ (h.0, below_put key xs p h.1)
        ]

    below_more : (a b : K) (ks : List K) → R a b ≡ Less → AllByRecursion (λ y. R b y ≡ Less) ks → AllByRecursion (λ y. R a y ≡ Less) ks
    below_more a b [] p h = tt
    below_more a b (n ∷ ns) p h = (o.trans a b n p h.0, below_more a b ns p h.1)

    pub in_order-put : (es : List (K × X)) → IsStrictlySortedBy R (keys_of es) → IsStrictlySortedBy R (keys_of (insert_entry R es k v))
    unfolding IsStrictlySortedBy
    in_order-put [] h = (tt, tt)
    in_order-put (x ∷ xs) h =
        elim (R k x.0) as (λ r. R k x.0 ≡ r → IsStrictlySortedBy R (keys_of (match_ordering r ((k, v) ∷ x ∷ xs) ((x.0, v) ∷ xs) (x ∷ insert_entry R xs k v)))) [
          | Less ↦ λ e. ((e, below_more k x.0 (keys_of xs) e h.0), h)
          | Equal ↦ λ e. h
          | Greater ↦ λ e. (below_put x.0 xs (turned_greater (R k x.0) (R x.0 k) e (o.antisymm x.0 k)) h.0, in_order-put xs h.1)
        ] refl

  module _ (k : K) where
    pub take_same : (es : List (K × X)) → IsStrictlySortedBy R (keys_of es) → lookup (is_at (R k)) (remove_entry (is_at (R k)) es) ≡ None
    take_same es s =
        lookup-remove_entry (eq_by_cmp_equiv o) (is_at (R k)) (λ x y t. ap is_eq (o.congr k x y (equal_from (R k x) t))) k es (IsDistinct-from_sorted R (keys_of es) s)
        ∙ ap (λ r. cond (is_eq r) None (lookup (is_at (R k)) es)) (tied_itself o k)

    pub take_other : (q : K) → is_eq (R q k) ≡ false → (es : List (K × X)) → lookup (is_at (R q)) (remove_entry (is_at (R k)) es) ≡ lookup (is_at (R q)) es
    take_other q n [] = refl
    take_other q n (e ∷ es) =
        elim (is_eq (R k e.0)) as (λ b. is_eq (R k e.0) ≡ b → lookup (is_at (R q)) (cond b es (e ∷ remove_entry (is_at (R k)) es)) ≡ lookup (is_at (R q)) (e ∷ es)) [
          | true ↦ λ is. sym (ap (λ b. cond b (Some e.1) (lookup (is_at (R q)) es)) (ap is_eq (sym (alike_right o k e.0 q (equal_from (R k e.0) is))) ∙ n))
          | false ↦ λ is. ap (λ l. cond (is_eq (R q e.0)) (Some e.1) l) (take_other q n es)
        ] refl

    below_take : (key : K) (es : List (K × X)) → AllByRecursion (λ y. R key y ≡ Less) (keys_of es) → AllByRecursion (λ y. R key y ≡ Less) (keys_of (remove_entry (is_at (R k)) es))
    below_take key [] h = tt
    below_take key (x ∷ xs) h =
        elim (is_eq (R k x.0)) as (λ b. AllByRecursion (λ y. R key y ≡ Less) (keys_of (cond b xs (x ∷ remove_entry (is_at (R k)) xs)))) [
          | true ↦ h.1
          | false ↦ (h.0, below_take key xs h.1)
        ]

    pub in_order-take : (es : List (K × X)) → IsStrictlySortedBy R (keys_of es) → IsStrictlySortedBy R (keys_of (remove_entry (is_at (R k)) es))
    unfolding IsStrictlySortedBy
    in_order-take [] h = tt
    in_order-take (x ∷ xs) h =
        elim (is_eq (R k x.0)) as (λ b. IsStrictlySortedBy R (keys_of (cond b xs (x ∷ remove_entry (is_at (R k)) xs)))) [
          | true ↦ h.1
          | false ↦ (below_take x.0 xs h.0, in_order-take xs h.1)
        ]

    pub length-take_found : (es : List (K × X)) (w : X) → lookup (is_at (R k)) es ≡ Some w → suc (length (remove_entry (is_at (R k)) es)) ≡ length es
    length-take_found [] w h = cc
    length-take_found (e ∷ es) w h =
        elim (is_eq (R k e.0)) as (λ b. cond b (Some e.1) (lookup (is_at (R k)) es) ≡ Some w → suc (length (cond b es (e ∷ remove_entry (is_at (R k)) es))) ≡ length (e ∷ es)) [
          | true ↦ λ some. refl
          | false ↦ λ some. ap suc (length-take_found es w some)
        ] h

  pub in_order-set : (test : K → Bool) (es : List (K × X)) (w : X) → IsStrictlySortedBy R (keys_of es) → IsStrictlySortedBy R (keys_of (set_value test es w))
  in_order-set test es w s = subst (IsStrictlySortedBy R) (sym (keys-set_value test es w)) s
