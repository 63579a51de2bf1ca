-- The stored IRIs in the order of versions: the first that may go goes out next, and the order stays true
-- when an IRI comes into the store or goes out.
use Rattle.std.proofs.Common.{◌≡◌, ℕ, zero, suc, ◌≤◌, ◌<◌, List, [], ◌∷◌, refl, sym, ap, ◌∙◌, subst, arith, Option, Some, None, Bool, true, false, cond, ◌⊎◌, inl, inr, ◌&&◌, ◌||◌, not, is_some, nat_cmp, nat_eq}
use Rattle.std.specs.Prelude.{slice_get, nat_le, option_map}
use Rattle.std.specs.declared.cmp.Ordering.TheVariants.{Less, Equal, Greater}
use Rattle.std.specs.Ordering.{is_eq, match_ordering}
use Rattle.std.specs.List.{find, list_all}
use Rattle.std.specs.Map.{keys_of}
use Rattle.std.specs.BTreeMap.{is_at}
use Rattle.std.specs.Cmp.{nat_cmp_total, eq_by_cmp_equiv, tied_itself}
use Rattle.std.specs.Cmp.Lexicographic.{nat_list_cmp_total, nat_list_eq_equiv, pointwise, same_text}
use Rattle.std.proofs.lemmas.Bool.{cases_Bool, and_from, or_left, or_right, false_from_ne_true}
use Rattle.std.proofs.lemmas.Bool.Decides.{nat_tests}
use Rattle.std.proofs.lemmas.Map.Entries.{lookup_from_place, place_from_lookup}
use Rattle.std.proofs.lemmas.Map.Keys.{IsDistinct-from_sorted}
use Rattle.ld_tree.specs.Names.{name_cmp}
use Rattle.ld_history.specs.declared.session.Stored.{Stored}
use Rattle.ld_history.specs.Store.{Store}
use Rattle.ld_history.specs.Words.{at_number, at_iri, is_some_and, may_go, none_before, is_next_out}
use Rattle.ld_history.specs.Rules.{none_may_go}
use Rattle.ld_history.specs.Steps.{next_out}
use Rattle.ld_history.specs.After.{put_iri, take_iri, put_number, take_number}
use Rattle.ld_history.specs.Order.{IsOrder, ArePast, version_of, without}
use Rattle.ld_history.proofs.LawReads.{some_and, both}
use Rattle.ld_history.proofs.LawFlights.{iri_cases, number_cases, apart_iris, apart_numbers, put_iri_same, put_iri_other, take_iri_same, take_iri_other, put_number_same, put_number_other, take_number_same, take_number_other}
use Rattle.ld_history.proofs.LawTables.{in_order-put, in_order-take}
use Rattle.ld_history.proofs.IndexFirst.{find_some}
use Rattle.ld_history.proofs.NextGoes.{some_least, found_some}

abbrev pub Stock : Type 0
Stock = List (List ℕ × Stored)

abbrev pub Entries : Type 0
Entries = List (ℕ × List ℕ)

all_from : {X : Type 0} (p : X → Bool) (xs : List X) → ((i : ℕ) (x : X) → slice_get xs i ≡ Some x → p x ≡ true) → list_all p xs ≡ true
all_from p [] each = refl
all_from p (x ∷ xs) each = and_from _ _ (each zero x refl) (all_from p xs (λ i y is. each (suc i) y is))

all_at : {X : Type 0} (p : X → Bool) (xs : List X) (i : ℕ) (x : X) → slice_get xs i ≡ Some x → list_all p xs ≡ true → p x ≡ true
all_at p [] i x is h = cc
all_at p (y ∷ ys) zero x is h = let same : y ≡ x = cc in ap p (sym same) ∙ (both h).0
all_at p (y ∷ ys) (suc i) x is h = all_at p ys i x is (both h).1

keys_at : (p : List ℕ → Bool) (es : Stock) (i : ℕ) (d : List ℕ × Stored) → slice_get es i ≡ Some d → list_all p (keys_of es) ≡ true → p d.0 ≡ true
keys_at p [] i d is h = cc
keys_at p (e ∷ es) zero d is h = let same : e ≡ d = cc in ap (λ (k : List ℕ × Stored). p k.0) (sym same) ∙ (both h).0
keys_at p (e ∷ es) (suc i) d is h = keys_at p es i d is (both h).1

some_mapped : {X Y : Type 0} (g : X → Y) (o : Option X) (y : Y) → option_map g o ≡ Some y → (x : X) × (o ≡ Some x) × (g x ≡ y)
some_mapped g None y h = cc
some_mapped g (Some x) y h = (x, refl, (let same : Some (g x) ≡ Some y = h in cc))

module _ (store : Store) (order : Entries) (h : IsOrder store.stored order) where
  -- it may go, and nothing else that may go was published before it
  pub record IsFirst (e : ℕ × List ℕ) : Type 0 where
    pub stands : at_number order e.0 ≡ Some e.1
    pub free : may_go store e.1 ≡ true
    pub least : (n : ℕ) (q : List ℕ) → at_number order n ≡ Some q → may_go store q ≡ true → e.0 ≤ n

  abbrev pub NoneGoes : Type 0
  NoneGoes = (n : ℕ) (q : List ℕ) → at_number order n ≡ Some q → may_go store q ≡ true → ⊥

  at_stored : (i : ℕ) (q : List ℕ) (x : Stored) → slice_get store.stored i ≡ Some (q, x) → at_iri store.stored q ≡ Some x
  at_stored i q x is = lookup_from_place (eq_by_cmp_equiv nat_list_cmp_total) store.stored i q x (IsDistinct-from_sorted name_cmp (keys_of store.stored) h.by_iri) is

  listed_at : (q : List ℕ) (x : Stored) → at_iri store.stored q ≡ Some x → at_number order x.version ≡ Some q
  listed_at q x is = h.listed q x.version (ap (option_map (λ (y : Stored). y.version)) is)

  -- there is a first, or none may go
  abbrev pub FirstOrNone : Type 0
  FirstOrNone = ((e : ℕ × List ℕ) × IsFirst e) ⊎ NoneGoes

  first_next : (e : ℕ × List ℕ) → IsFirst e → is_next_out store e.1 ≡ true
  first_next e f =
      let s = some_mapped (λ (x : Stored). x.version) (at_iri store.stored e.1) e.0 (h.stands e.0 e.1 f.stands) in
      let x = s.0 in
      let none : none_before store x.version ≡ true
      = all_from (λ (d : List ℕ × Stored). not (may_go store d.0) || nat_le x.version d.1.version) store.stored
      (λ i d is. elim (cases_Bool (may_go store d.0)) [
        | inl goes ↦ or_right _ _ (let le : e.0 ≤ d.1.version = f.least d.1.version d.0 (listed_at d.0 d.1 (at_stored i d.0 d.1 is)) goes in le_test x.version d.1.version (subst (λ n. n ≤ d.1.version) (sym s.2) le))
        | inr stays ↦ or_left _ _ (ap not stays)
      ]) in
      ap (is_some_and (λ (out : Stored). may_go store e.1 && none_before store out.version)) s.1 ∙ and_from _ _ f.free none
    where
      le_test : (a b : ℕ) → a ≤ b → nat_le a b ≡ true
      le_test a b le = grind (arith, nat_tests)

  record Next (iri : List ℕ) : Type 0 where
    x : Stored
    is : at_iri store.stored iri ≡ Some x
    stands : at_number order x.version ≡ Some iri
    free : may_go store iri ≡ true
    none : none_before store x.version ≡ true

  read_next : (iri : List ℕ) → is_next_out store iri ≡ true → Next iri
  read_next iri next =
      let s = some_and (λ (out : Stored). may_go store iri && none_before store out.version) (at_iri store.stored iri) next in
      let b = both s.2 in
      record { x = s.0; is = s.1; stands = listed_at iri s.0 s.1; free = b.0; none = b.1 }

  next_same : (e : ℕ × List ℕ) → IsFirst e → (iri : List ℕ) → is_next_out store iri ≡ true → iri ≡ e.1
  next_same e f iri next =
      let n = read_next iri next in
      let s = some_mapped (λ (x : Stored). x.version) (at_iri store.stored e.1) e.0 (h.stands e.0 e.1 f.stands) in
      let y = s.0 in
      let p = place_from_lookup (is_at (name_cmp e.1)) store.stored y s.1 in
      let low : e.0 ≤ n.x.version = f.least n.x.version iri n.stands n.free in
      let key : p.1 ≡ e.1 = elim (iri_cases e.1 p.1) [ inl same ↦ sym same | inr apart ↦ absurd (let bad : true ≡ false = sym p.3 ∙ apart in cc) ] in
      let test = all_at (λ (d : List ℕ × Stored). not (may_go store d.0) || nat_le n.x.version d.1.version) store.stored p.0 (p.1, y) p.2 n.none in
      let high : n.x.version ≤ y.version = le_from (may_go store p.1) n.x.version y.version (ap (may_go store) key ∙ f.free) test in
      let same : n.x.version ≡ e.0 = omega (arith, low, high, s.2) in
      let at : Some iri ≡ Some e.1 = sym n.stands ∙ ap (at_number order) same ∙ f.stands in
      cc
    where
      le_from : (g : Bool) (a b : ℕ) → g ≡ true → (not g || nat_le a b) ≡ true → a ≤ b
      le_from true a b t h = grind (arith, nat_tests)
      le_from false a b t h = cc

  none_next : NoneGoes → (iri : List ℕ) → is_next_out store iri ≡ true → ⊥
  none_next none iri next = let n = read_next iri next in none n.x.version iri n.stands n.free

  -- ---- what the code asks
  pub next_first : (e : ℕ × List ℕ) → IsFirst e → Some e.1 ≡ next_out store
  next_first e f = found (find (λ d. is_next_out store d.0) store.stored) refl
    where
      found : (o : Option (List ℕ × Stored)) → find (λ d. is_next_out store d.0) store.stored ≡ o → Some e.1 ≡ option_map (λ (d : List ℕ × Stored). d.0) o
      found (Some d) is = let r = find_some (λ (d : List ℕ × Stored). is_next_out store d.0) store.stored d is in ap Some (sym (next_same e f d.0 r.2))
      found None is =
          let s = some_mapped (λ (x : Stored). x.version) (at_iri store.stored e.1) e.0 (h.stands e.0 e.1 f.stands) in
          let p = place_from_lookup (is_at (name_cmp e.1)) store.stored s.0 s.1 in
          let key : p.1 ≡ e.1 = elim (iri_cases e.1 p.1) [ inl same ↦ sym same | inr apart ↦ absurd (let bad : true ≡ false = sym p.3 ∙ apart in cc) ] in
          let any = found_some (λ (d : List ℕ × Stored). is_next_out store d.0) store.stored p.0 (p.1, s.0) p.2 (ap (is_next_out store) key ∙ first_next e f) in
          absurd (let bad : true ≡ false = sym any ∙ ap is_some is in cc)

  pub next_nothing : NoneGoes → None ≡ next_out store
  next_nothing none = found (find (λ d. is_next_out store d.0) store.stored) refl
    where
      found : (o : Option (List ℕ × Stored)) → find (λ d. is_next_out store d.0) store.stored ≡ o → None ≡ option_map (λ (d : List ℕ × Stored). d.0) o
      found (Some d) is = let r = find_some (λ (d : List ℕ × Stored). is_next_out store d.0) store.stored d is in absurd (none_next none d.0 r.2)
      found None is = refl

  abbrev Chosen : Option (List ℕ) → Type 0
  Chosen o = ((out : List ℕ) → o ≡ Some out → (is_next_out store out ≡ true) × ((iri : List ℕ) → is_next_out store iri ≡ true → iri ≡ out)) × (o ≡ None → NoneGoes)

  -- the next to go out is the only one, and where there is none, none may go
  chosen : FirstOrNone → Chosen (next_out store)
  chosen (inl first) =
      let e = first.0 in
      let f = first.1 in
      let out = next_first e f in
      (λ k at. let one : Some e.1 ≡ Some k = out ∙ at in let same : e.1 ≡ k = cc in (subst (λ k. is_next_out store k ≡ true) same (first_next e f), λ iri next. next_same e f iri next ∙ same), λ none. let bad : Some e.1 ≡ None = out ∙ none in cc)
  chosen (inr none) = (λ k at. let bad : None ≡ Some k = next_nothing none ∙ at in cc, λ _. none)

  pub goes_now : FirstOrNone → (iri out : List ℕ) → Some out ≡ next_out store → pointwise nat_eq out iri ≡ is_next_out store iri
  goes_now first iri out is =
      let c = (chosen first).0 out (sym is) in
      elim (cases_Bool (is_next_out store iri)) [
        | inl next ↦ ap (pointwise nat_eq out) (c.1 iri next) ∙ nat_list_eq_equiv.refl out ∙ sym next
        | inr other ↦ false_from_ne_true (pointwise nat_eq out iri) (λ same. let one : out ≡ iri = same_text out iri (sym same) in let bad : true ≡ false = sym c.0 ∙ ap (is_next_out store) one ∙ other in cc) ∙ sym other
      ]

  pub goes_never : FirstOrNone → (iri : List ℕ) → None ≡ next_out store → false ≡ is_next_out store iri
  goes_never first iri is = sym (false_from_ne_true (is_next_out store iri) (λ next. none_next ((chosen first).1 (sym is)) iri next))

  pub none_goes_now : FirstOrNone → not (is_some (next_out store)) ≡ none_may_go store
  none_goes_now first = found (next_out store) refl
    where
      found : (o : Option (List ℕ)) → next_out store ≡ o → not (is_some o) ≡ none_may_go store
      found (Some out) is =
          let n = read_next out ((chosen first).0 out is).0 in
          sym (false_from_ne_true (none_may_go store) (λ none. stuck n none))
        where
          stuck : Next out → none_may_go store ≡ true → ⊥
          stuck n none =
              let p = place_from_lookup (is_at (name_cmp out)) store.stored n.x n.is in
              let key : p.1 ≡ out = elim (iri_cases out p.1) [ inl same ↦ sym same | inr apart ↦ absurd (let bad : true ≡ false = sym p.3 ∙ apart in cc) ] in
              let no = keys_at (λ iri. not (may_go store iri)) store.stored p.0 (p.1, n.x) p.2 none in
              let bad : false ≡ true = ap not (sym (ap (may_go store) key ∙ n.free)) ∙ no in cc
      found None is = elim (cases_Bool (none_may_go store)) [
        | inl none ↦ sym none
        | inr some ↦
            let l = some_least (may_go store) store.stored some in
            absurd ((chosen first).1 is l.e.1.version l.e.0 (listed_at l.e.0 l.e.1 (at_stored l.place l.e.0 l.e.1 l.is)) l.free)
      ]

-- what was put at a new version and taken out again leaves the entries as they were
pub take-put-number : (es : Entries) (k : ℕ) (v : List ℕ) → at_number es k ≡ None → take_number (put_number es k v) k ≡ es
take-put-number [] k v none = ap (λ o. cond (is_eq o) [] ((k, v) ∷ [])) (tied_itself nat_cmp_total k)
take-put-number (e ∷ es) k v none =
    elim (nat_cmp k e.0) as (λ o. nat_cmp k e.0 ≡ o → cond (is_eq o) (Some e.1) (at_number es k) ≡ None
    → take_number (match_ordering o ((k, v) ∷ e ∷ es) ((e.0, v) ∷ es) (e ∷ put_number es k v)) k ≡ e ∷ es) [
      | Less ↦ λ is h. ap (λ o. cond (is_eq o) (e ∷ es) ((k, v) ∷ take_number (e ∷ es) k)) (tied_itself nat_cmp_total k)
      | Equal ↦ λ is h. cc
      | Greater ↦ λ is h. ap (λ o. cond (is_eq o) (put_number es k v) (e ∷ take_number (put_number es k v) k)) is ∙ ap (λ l. e ∷ l) (take-put-number es k v h)
    ] refl none

-- ---- an IRI comes in or goes out
module _ (stored : Stock) (order : Entries) (h : IsOrder stored order) where
  pub fresh : (version later : ℕ) → ArePast version stored → version < later → at_number order later ≡ None
  fresh version later past lt = elim (at_number order later) as (λ o. at_number order later ≡ o → o ≡ None) [
    | None ↦ λ is. refl
    | Some iri ↦ λ is. absurd (let le : later ≤ version = past.each iri later (h.stands later iri is) in omega (arith, le, lt))
  ] refl

  module _ (iri : List ℕ) (x : Stored) (new : at_number order x.version ≡ None) where
    abbrev version : ℕ
    version = x.version

    abbrev put : Entries
    put = put_number order version iri

    here : version_of (put_iri stored iri x) iri ≡ Some version
    here = ap (option_map (λ (y : Stored). y.version)) (put_iri_same stored iri x)

    there : (q : List ℕ) → is_eq (name_cmp q iri) ≡ false → version_of (put_iri stored iri x) q ≡ version_of stored q
    there q a = ap (option_map (λ (y : Stored). y.version)) (put_iri_other stored iri x q a)

    -- an IRI that has stood stands at another version
    apart_version : (q : List ℕ) (n : ℕ) → version_of stored q ≡ Some n → is_eq (nat_cmp n version) ≡ false
    apart_version q n is = elim (number_cases n version) [
      | inl same ↦ absurd (let bad : Some q ≡ None = sym (h.listed q n is) ∙ ap (at_number order) same ∙ new in cc)
      | inr a ↦ a
    ]

    came_in : (former : Option ℕ) → version_of stored iri ≡ former → IsOrder (put_iri stored iri x) (without put former)
    came_in None was = record {
      by_iri = in_order-put nat_list_cmp_total iri x stored h.by_iri;
      sorted = in_order-put nat_cmp_total version iri order h.sorted;
      listed = λ q n is. elim (iri_cases q iri) [
        | inl same ↦
            let one : Some version ≡ Some n = sym here ∙ ap (version_of (put_iri stored iri x)) (sym same) ∙ is in
            let at : version ≡ n = cc in
            ap (at_number put) (sym at) ∙ put_number_same order version iri ∙ ap Some (sym same)
        | inr a ↦
            let then : version_of stored q ≡ Some n = sym (there q a) ∙ is in
            put_number_other order version iri n (apart_version q n then) ∙ h.listed q n then
      ];
      stands = λ n q is. elim (number_cases n version) [
        | inl same ↦
            let one : Some iri ≡ Some q = sym (put_number_same order version iri) ∙ ap (at_number put) (sym same) ∙ is in
            let at : iri ≡ q = cc in
            ap (version_of (put_iri stored iri x)) (sym at) ∙ here ∙ ap Some (sym same)
        | inr a ↦
            let then : version_of stored q ≡ Some n = h.stands n q (sym (put_number_other order version iri n a) ∙ is) in
            elim (iri_cases q iri) [
              | inl same ↦ absurd (let bad : Some n ≡ None = sym then ∙ ap (version_of stored) same ∙ was in cc)
              | inr b ↦ there q b ∙ then
            ]
      ];
    }
    came_in (Some old) was =
        let sorted = in_order-put nat_cmp_total version iri order h.sorted in
        record {
          by_iri = in_order-put nat_list_cmp_total iri x stored h.by_iri;
          sorted = in_order-take nat_cmp_total old put sorted;
          listed = λ q n is. elim (iri_cases q iri) [
            | inl same ↦
                let one : Some version ≡ Some n = sym here ∙ ap (version_of (put_iri stored iri x)) (sym same) ∙ is in
                let at : version ≡ n = cc in
                ap (at_number (take_number put old)) (sym at) ∙ take_number_other put old version (turned_apart old version (apart_version iri old was)) ∙ put_number_same order version iri ∙ ap Some (sym same)
            | inr a ↦
                let then : version_of stored q ≡ Some n = sym (there q a) ∙ is in
                let other : is_eq (nat_cmp n old) ≡ false = elim (number_cases n old) [
                  | inl same ↦
                      absurd (let one : Some q ≡ Some iri = sym (h.listed q n then) ∙ ap (at_number order) same ∙ h.listed iri old was in let bad : q ≡ iri = cc in apart_iris q iri a bad)
                  | inr b ↦ b
                ] in
                take_number_other put old n other ∙ put_number_other order version iri n (apart_version q n then) ∙ h.listed q n then
          ];
          stands = λ n q is. elim (number_cases n old) [
            | inl same ↦ absurd (let bad : Some q ≡ None = sym is ∙ ap (at_number (take_number put old)) same ∙ take_number_same put old sorted in cc)
            | inr c ↦
                let left : at_number put n ≡ Some q = sym (take_number_other put old n c) ∙ is in
                elim (number_cases n version) [
                  | inl same ↦
                      let one : Some iri ≡ Some q = sym (put_number_same order version iri) ∙ ap (at_number put) (sym same) ∙ left in
                      let at : iri ≡ q = cc in
                      ap (version_of (put_iri stored iri x)) (sym at) ∙ here ∙ ap Some (sym same)
                  | inr a ↦
                      let then : version_of stored q ≡ Some n = h.stands n q (sym (put_number_other order version iri n a) ∙ left) in
                      elim (iri_cases q iri) [
                        | inl same ↦ absurd (let one : Some n ≡ Some old = sym then ∙ ap (version_of stored) same ∙ was in let bad : n ≡ old = cc in apart_numbers n old c bad)
                        | inr b ↦ there q b ∙ then
                      ]
                ]
          ];
        }
      where
        turned_apart : (a b : ℕ) → is_eq (nat_cmp a b) ≡ false → is_eq (nat_cmp b a) ≡ false
        turned_apart a b n = elim (number_cases b a) [ inl same ↦ absurd (apart_numbers a b n (sym same)) | inr m ↦ m ]

    pub order_in : (after : Stock) (listed left : Entries) (former : Option ℕ) → after ≡ put_iri stored iri x → listed ≡ put_number order version iri → left ≡ without listed former → former ≡ version_of stored iri → IsOrder after left
    order_in after listed left former is_after is_listed is_left is_former =
        subst (λ l. IsOrder l left) (sym is_after) (subst (IsOrder (put_iri stored iri x)) (sym (is_left ∙ ap (λ l. without l former) is_listed)) (came_in former (sym is_former)))

    -- and where it doesn't come in after all
    pub order_undone : (after : Stock) (listed left : Entries) → after ≡ stored → listed ≡ put_number order version iri → left ≡ take_number listed version → IsOrder after left
    order_undone after listed left is_after is_listed is_left =
        subst (λ l. IsOrder l left) (sym is_after) (subst (IsOrder stored) (sym (is_left ∙ ap (λ l. take_number l version) is_listed ∙ back)) h)
      where
        back : take_number put version ≡ order
        back = take-put-number order version iri new

  module _ (iri : List ℕ) where
    gone : version_of (take_iri stored iri) iri ≡ None
    gone = ap (option_map (λ (y : Stored). y.version)) (take_iri_same stored iri h.by_iri)

    kept : (q : List ℕ) → is_eq (name_cmp q iri) ≡ false → version_of (take_iri stored iri) q ≡ version_of stored q
    kept q a = ap (option_map (λ (y : Stored). y.version)) (take_iri_other stored iri q a)

    still : (q : List ℕ) (n : ℕ) → version_of (take_iri stored iri) q ≡ Some n → (is_eq (name_cmp q iri) ≡ false) × (version_of stored q ≡ Some n)
    still q n is = elim (iri_cases q iri) [
      | inl same ↦ absurd (let bad : Some n ≡ None = sym is ∙ ap (version_of (take_iri stored iri)) same ∙ gone in cc)
      | inr a ↦ (a, sym (kept q a) ∙ is)
    ]

    went_out : (former : Option ℕ) → version_of stored iri ≡ former → IsOrder (take_iri stored iri) (without order former)
    went_out None was = record {
      by_iri = in_order-take nat_list_cmp_total iri stored h.by_iri;
      sorted = h.sorted;
      listed = λ q n is. h.listed q n (still q n is).1;
      stands = λ n q is.
          let then = h.stands n q is in
          elim (iri_cases q iri) [
            | inl same ↦ absurd (let bad : Some n ≡ None = sym then ∙ ap (version_of stored) same ∙ was in cc)
            | inr a ↦ kept q a ∙ then
          ];
    }
    went_out (Some old) was = record {
      by_iri = in_order-take nat_list_cmp_total iri stored h.by_iri;
      sorted = in_order-take nat_cmp_total old order h.sorted;
      listed = λ q n is.
          let s = still q n is in
          let other : is_eq (nat_cmp n old) ≡ false = elim (number_cases n old) [
            | inl same ↦ absurd (let one : Some q ≡ Some iri = sym (h.listed q n s.1) ∙ ap (at_number order) same ∙ h.listed iri old was in let bad : q ≡ iri = cc in apart_iris q iri s.0 bad)
            | inr b ↦ b
          ] in
          take_number_other order old n other ∙ h.listed q n s.1;
      stands = λ n q is. elim (number_cases n old) [
        | inl same ↦ absurd (let bad : Some q ≡ None = sym is ∙ ap (at_number (take_number order old)) same ∙ take_number_same order old h.sorted in cc)
        | inr c ↦
            let then = h.stands n q (sym (take_number_other order old n c) ∙ is) in
            elim (iri_cases q iri) [
              | inl same ↦ absurd (let one : Some n ≡ Some old = sym then ∙ ap (version_of stored) same ∙ was in let bad : n ≡ old = cc in apart_numbers n old c bad)
              | inr a ↦ kept q a ∙ then
            ]
      ];
    }

    pub order_out : (after : Stock) (left : Entries) (former : Option ℕ) → after ≡ take_iri stored iri → left ≡ without order former → former ≡ version_of stored iri → IsOrder after left
    order_out after left former is_after is_left is_former =
        subst (λ l. IsOrder l left) (sym is_after) (subst (IsOrder (take_iri stored iri)) (sym is_left) (went_out former (sym is_former)))

    pub past_out : (version later : ℕ) (after : Stock) → version ≤ later → after ≡ take_iri stored iri → ArePast version stored → ArePast later after
    past_out version later after le is_after past = record {
      each = λ q n is.
          let s = still q n (ap (λ l. version_of l q) (sym is_after) ∙ is) in
          let low = past.each q n s.1 in omega (arith, low, le);
    }

  pub past_in : (iri : List ℕ) (x : Stored) (version : ℕ) (after : Stock) → version < x.version → after ≡ put_iri stored iri x → ArePast version stored → ArePast x.version after
  past_in iri x version after lt is_after past = record {
    each = λ q n is.
        let now : version_of (put_iri stored iri x) q ≡ Some n = ap (λ l. version_of l q) (sym is_after) ∙ is in
        elim (iri_cases q iri) [
          | inl same ↦
              let one : Some x.version ≡ Some n = sym (ap (option_map (λ (y : Stored). y.version)) (put_iri_same stored iri x)) ∙ ap (version_of (put_iri stored iri x)) (sym same) ∙ now in
              let at : x.version ≡ n = cc in omega (arith, at)
          | inr a ↦ let low = past.each q n (sym (ap (option_map (λ (y : Stored). y.version)) (put_iri_other stored iri x q a)) ∙ now) in omega (arith, low, lt)
        ];
  }

pub past_later : (version later : ℕ) (stored : Stock) → version ≤ later → ArePast version stored → ArePast later stored
past_later version later stored le past = record { each = λ q n is. let low = past.each q n is in omega (arith, low, le) }
