-- The offers of one IRI, in the table and in the list.
use Rattle.std.proofs.Common.{◌≡◌, ◌⊎◌, inl, inr, ℕ, suc, ◌≤◌, List, [], ◌∷◌, Option, Some, None, Bool, true, false, not, ◌&&◌, ◌||◌, cond, length, refl, sym, ap, subst, ◌∙◌, arith}
use Rattle.std.specs.Prelude.{filter, slice_get, nat_eq}
use Rattle.std.specs.Option.{option_map}
use Rattle.std.specs.List.{list_any}
use Rattle.std.specs.Cmp.{IsTotalOrder, on_total, tied_itself}
use Rattle.std.specs.Cmp.Lexicographic.{nat_list_cmp_total}
use Rattle.std.specs.Ordering.{is_eq, is_lt, ordering_then}
use Rattle.std.specs.Str.{bytes_eq}
use Rattle.std.specs.declared.cmp.Ordering.{Ordering}
use Rattle.std.specs.declared.cmp.Ordering.TheVariants.{Less, Equal, Greater}
use Rattle.std.proofs.lemmas.Map.Text.{is_eq-slice_cmp}
use Rattle.ld_tree.specs.Names.{name_cmp}
use Rattle.ld_rec.specs.declared.def.Containers.{Containers}
use Rattle.ld_rec.specs.declared.slot.Kind.{Kind}
use Rattle.ld_rec.specs.declared.slot.Slot.{Slot}
use Rattle.ld_rec.specs.Records.{no_containers}
use Rattle.ld_rec.specs.Selection.{chosen_from, first_some, first_to_offer, same_slot}
use Rattle.ld_rec.specs.Slots.{Offer, slot}
use Rattle.ld_inverse.specs.Groups.{group, IsGrouped, IsInOrder}
use Rattle.ld_inverse.specs.Orders.{slot_cmp}
use Rattle.ld_inverse.specs.Under.{IsGroupedUnder}
use Rattle.std.proofs.lemmas.List.Kept.{IsSortedBy-filter}
use Rattle.std.proofs.lemmas.List.Sorted.{ranks_by}
use Rattle.ld_inverse.proofs.Leasts.{IsAmong, among_filter, from_filter}
use Rattle.ld_inverse.proofs.Totals.{slot_total}

abbrev pub iri_cmp : Slot → Slot → Ordering
iri_cmp a b = name_cmp a.iri b.iri

pub iri_total : IsTotalOrder iri_cmp
iri_total = on_total (λ (s : Slot). s.iri) nat_list_cmp_total

first_not_less : (p q : Ordering) → is_lt (ordering_then p q) ≡ false → is_lt p ≡ false
first_not_less Less q h = h
first_not_less Equal q h = refl
first_not_less Greater q h = refl

pub up_by_iri : (table : List Offer) → IsInOrder slot_cmp table → IsInOrder iri_cmp table
up_by_iri table up = λ k d l r. first_not_less _ _ (up k d l r)

-- ---- what is among a table

module _ {K X : Type 0} {cmp : K → K → Ordering} (o : IsTotalOrder cmp) where
  of_group : (entries table : List (K × X)) → ((key : K) → group cmp key table ≡ group cmp key entries) → (x : K × X) → IsAmong x table → IsAmong x entries
  of_group entries table same x m =
      let own : is_eq (cmp x.0 x.0) ≡ true = ap is_eq (tied_itself o x.0) in
      let there : IsAmong x (group cmp x.0 table) = among_filter (λ (e : K × X). is_eq (cmp e.0 x.0)) table x m own in
      (from_filter (λ (e : K × X). is_eq (cmp e.0 x.0)) entries x (subst (IsAmong x) (same x.0) there)).0

  pub in_list : (entries table : List (K × X)) → IsGrouped cmp entries table → (x : K × X) → IsAmong x table → IsAmong x entries
  in_list entries table grouped = of_group entries table grouped.same

  pub in_table : (entries table : List (K × X)) → IsGrouped cmp entries table → (x : K × X) → IsAmong x entries → IsAmong x table
  in_table entries table grouped = of_group table entries (λ key. sym (grouped.same key))

module _ {X : Type 0} (p : X → Bool) where
  or_true : (a b : Bool) → (a || b) ≡ true → (a ≡ true) ⊎ (b ≡ true)
  or_true true b e = inl refl
  or_true false b e = inr e

  or_right : (a b : Bool) → b ≡ true → (a || b) ≡ true
  or_right true b e = refl
  or_right false b e = e

  some_passes : (xs : List X) → list_any p xs ≡ true → (x : X) × IsAmong x xs × (p x ≡ true)
  some_passes [] e = cc
  some_passes (x ∷ xs) e = elim (or_true (p x) (list_any p xs) e) as (λ _. (y : X) × IsAmong y (x ∷ xs) × (p y ≡ true)) [
    | inl here ↦ (x, inl refl, here)
    | inr later ↦ let found = some_passes xs later in (found.0, inr found.1, found.2)
  ]

  any_passes : (xs : List X) (x : X) → IsAmong x xs → p x ≡ true → list_any p xs ≡ true
  any_passes [] x m e = absurd m
  any_passes (y ∷ ys) x (inl same) e = ap (λ b. b || list_any p ys) (ap p (sym same) ∙ e)
  any_passes (y ∷ ys) x (inr m) e = or_right (p y) (list_any p ys) (any_passes ys x m e)

  as_many : (a b : Bool) → (a ≡ true → b ≡ true) → (b ≡ true → a ≡ true) → a ≡ b
  as_many true b to from = sym (to refl)
  as_many false true to from = from refl
  as_many false false to from = refl

  pub any_alike : (xs ys : List X) → ((x : X) → IsAmong x xs → IsAmong x ys) → ((x : X) → IsAmong x ys → IsAmong x xs) → list_any p xs ≡ list_any p ys
  any_alike xs ys to from =
      as_many (list_any p xs) (list_any p ys)
      (λ e. let found = some_passes xs e in any_passes ys found.0 (to found.0 found.1) found.2)
      (λ e. let found = some_passes ys e in any_passes xs found.0 (from found.0 found.1) found.2)

  not_none : (n : ℕ) → not (nat_eq (suc n) 0) ≡ true
  not_none n = grind arith

  pub has_some : (xs : List X) → not (nat_eq (length (filter p xs)) 0) ≡ list_any p xs
  has_some [] = refl
  has_some (x ∷ xs) =
      elim (p x) as (λ t. not (nat_eq (length (cond t (x ∷ filter p xs) (filter p xs))) 0) ≡ (t || list_any p xs)) [
        | true ↦ not_none (length (filter p xs))
        | false ↦ has_some xs
      ]

-- ---- an IRI that no term maps to

or_false : (a b : Bool) → (a || b) ≡ false → (a ≡ false) × (b ≡ false)
or_false true b e = cc
or_false false b e = (refl, e)

module _ (iri : List ℕ) where
  abbrev is_under : Offer → Bool
  is_under o = bytes_eq o.0.iri iri

  none_offered : (all : List Offer) (containers : Containers) (kind : Kind) (value : List ℕ) → list_any is_under all ≡ false → filter (λ o. same_slot o.0 (slot iri containers kind value)) all ≡ []
  none_offered [] containers kind value e = refl
  none_offered (o ∷ os) containers kind value e =
      let both = or_false (is_under o) (list_any is_under os) e in
      let other : same_slot o.0 (slot iri containers kind value) ≡ false = rw (both.0) refl in
      rw (other) (none_offered os containers kind value both.1)

  none_some : {X : Type 0} {Y : Type 0} (f : X → Option Y) → ((x : X) → f x ≡ None) → (xs : List X) → first_some f xs ≡ None
  none_some f none [] = refl
  none_some f none (x ∷ xs) = rw (none x) (none_some f none xs)

  pub none_chosen : (all : List Offer) → list_any is_under all ≡ false → (containers : List Containers) (kind : Kind) (wishes : List (List ℕ)) → chosen_from all iri containers kind wishes ≡ None
  none_chosen all e containers kind wishes =
      none_some (λ c. first_some (λ wish. first_to_offer all (slot iri c kind wish)) wishes)
      (λ c. none_some (λ wish. first_to_offer all (slot iri c kind wish)) (λ w. ap (λ os. option_map (λ o. o.1) (slice_get os 0)) (none_offered all c kind w e)) wishes) containers

  -- a slot of the IRI stands under it
  first_equal : (p q : Ordering) → is_eq (ordering_then p q) ≡ true → is_eq p ≡ true
  first_equal Less q h = h
  first_equal Equal q h = refl
  first_equal Greater q h = h

  abbrev under_it : Offer → Bool
  under_it o = is_eq (name_cmp o.0.iri iri)

  within_part : (p q : Offer → Bool) → ((o : Offer) → p o ≡ true → q o ≡ true) → (xs : List Offer) → filter p (filter q xs) ≡ filter p xs
  within_part p q implies [] = refl
  within_part p q implies (x ∷ xs) =
      elim (p x) as (λ b. p x ≡ b → filter p (cond (q x) (x ∷ filter q xs) (filter q xs)) ≡ cond b (x ∷ filter p xs) (filter p xs)) [
        | true ↦ λ e. let in_part : q x ≡ true = implies x e in rw (in_part, e) (ap (λ l. x ∷ l) (within_part p q implies xs))
        | false ↦ λ e. elim (q x) as (λ b. filter p (cond b (x ∷ filter q xs) (filter q xs)) ≡ filter p xs) [ true ↦ rw e (within_part p q implies xs) | false ↦ within_part p q implies xs ]
      ] refl

  -- the offers under the IRI, of a table
  pub under : (all table shown found : List Offer) → shown ≡ table → IsGrouped slot_cmp all table
      → (IsInOrder slot_cmp shown → found ≡ filter under_it shown) → IsGroupedUnder iri all found
  under all table shown found e grouped clause =
      let is : found ≡ filter under_it table = clause (subst (IsInOrder slot_cmp) (sym e) grouped.in_order) ∙ ap (filter under_it) e in
      record {
        in_order = subst (IsInOrder slot_cmp) (sym is) (IsSortedBy-filter (λ x y. is_lt (slot_cmp x.0 y.0)) (ranks_by slot_total (λ (o : Offer). o.0)) under_it table grouped.in_order);
        same = λ containers kind value.
            let key = slot iri containers kind value in
            ap (group slot_cmp key) is ∙ within_part (λ o. is_eq (slot_cmp o.0 key)) under_it (λ o h. first_equal _ _ h) table ∙ grouped.same key;
      }

  -- the table's offers under the IRI tell whether there are any
  pub maps_is : (all table shown found : List Offer) → shown ≡ table → IsGrouped slot_cmp all table
      → (IsInOrder slot_cmp shown → found ≡ filter (λ o. is_eq (name_cmp o.0.iri iri)) shown) → not (nat_eq (length found) 0) ≡ list_any is_under all
  maps_is all table shown found e grouped clause =
      let is : found ≡ filter (λ o. is_eq (name_cmp o.0.iri iri)) table = clause (subst (IsInOrder slot_cmp) (sym e) grouped.in_order) ∙ ap (filter (λ o. is_eq (name_cmp o.0.iri iri))) e in
      ap (λ os. not (nat_eq (length os) 0)) is ∙ has_some (λ (o : Offer). is_eq (name_cmp o.0.iri iri)) table
      ∙ ap (λ t. list_any t table) (λ i o. is_eq-slice_cmp o.0.iri iri i)
      ∙ any_alike is_under table all (in_list slot_total all table grouped) (in_table slot_total all table grouped)
