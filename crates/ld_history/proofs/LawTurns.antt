-- The turns of an IRI tell whether it was stored at a version.
use Rattle.std.proofs.Common.{◌≡◌, ℕ, ◌+◌, ◌%◌, ◌≤◌, ◌<◌, List, [], ◌∷◌, ◌++◌, refl, sym, ap, ◌∙◌, arith, Option, Some, None, Bool, true, false, not, cond, le-leb, inl, inr}
use Rattle.std.specs.Prelude.{is_some, if◌then◌else◌, ◌==◌, nat_le}
use Rattle.std.specs.Ordering.{is_eq}
use Rattle.std.specs.Cmp.Lexicographic.{nat_list_cmp_total}
use Rattle.std.specs.Cmp.{tied_itself, eq_by_cmp_equiv}
use Rattle.std.specs.Map.{set_value}
use Rattle.std.specs.BTreeMap.{is_at}
use Rattle.std.proofs.lemmas.Map.{lookup-set_value}
use Rattle.std.proofs.lemmas.List.Sums.{sum_by_push}
use Rattle.std.proofs.lemmas.Bool.{lt-leb}
use Rattle.std.proofs.lemmas.Bool.Decides.{nat_tests}
use Rattle.ld_tree.specs.Names.{name_cmp}
use Rattle.ld_history.specs.Turns.{turns_until}
use Rattle.ld_history.specs.Words.{at_iri, is_some_and}
use Rattle.ld_history.specs.After.{put_iri, turned, turn_found, named}
use Rattle.ld_history.proofs.LawTables.{equal_from}
use Rattle.ld_history.proofs.LawFlights.{iri_cases, put_iri_same, put_iri_other}

abbrev pub Turns : Type 0
Turns = List (List ℕ × List ℕ)

-- an odd number of turns came by this version
abbrev pub is_in : ℕ → List ℕ → Bool
is_in version turns = turns_until turns version % 2 == 1

-- the IRI was stored at this version
abbrev pub was_in : Turns → List ℕ → ℕ → Bool
was_in turns iri version = is_some_and (is_in version) (at_iri turns iri)

-- ---- a set value
pub set_iri_same : {X : Type 0} (es : List (List ℕ × X)) (k : List ℕ) (v x : X) → at_iri es k ≡ Some x → at_iri (set_value (is_at (name_cmp k)) es v) k ≡ Some v
set_iri_same es k v x is =
    lookup-set_value (eq_by_cmp_equiv nat_list_cmp_total) (is_at (name_cmp k)) (λ a b t. ap is_eq (nat_list_cmp_total.congr k a b (equal_from (name_cmp k a) t))) k v es (ap is_some is)
    ∙ ap (λ r. cond (is_eq r) (Some v) (at_iri es k)) (tied_itself nat_list_cmp_total k)

pub set_iri_other : {X : Type 0} (es : List (List ℕ × X)) (k : List ℕ) (v x : X) → at_iri es k ≡ Some x → (q : List ℕ) → is_eq (name_cmp q k) ≡ false → at_iri (set_value (is_at (name_cmp k)) es v) q ≡ at_iri es q
set_iri_other es k v x is q n =
    lookup-set_value (eq_by_cmp_equiv nat_list_cmp_total) (is_at (name_cmp k)) (λ a b t. ap is_eq (nat_list_cmp_total.congr k a b (equal_from (name_cmp k a) t))) q v es (ap is_some is)
    ∙ ap (λ b. cond b (Some v) (at_iri es q)) ((eq_by_cmp_equiv nat_list_cmp_total).symm k q ∙ n)

-- ---- with a name
module _ (turns : Turns) (iri : List ℕ) where
  named_by : (o : Option (List ℕ)) → at_iri turns iri ≡ o → (q : List ℕ) (v : ℕ) → was_in (if is_some o then turns else put_iri turns iri []) q v ≡ was_in turns q v
  named_by (Some t) is q v = refl
  named_by None is q v = elim (iri_cases q iri) [
    | inl e ↦ ap (λ r. was_in (put_iri turns iri []) r v) e ∙ ap (is_some_and (is_in v)) (put_iri_same turns iri []) ∙ sym (ap (is_some_and (is_in v)) (ap (at_iri turns) e ∙ is))
    | inr n ↦ ap (is_some_and (is_in v)) (put_iri_other turns iri [] q n)
  ]

  pub was_in-named : (q : List ℕ) (v : ℕ) → was_in (named turns iri) q v ≡ was_in turns q v
  was_in-named q v = named_by (at_iri turns iri) refl q v

  here_by : (o : Option (List ℕ)) → at_iri turns iri ≡ o → is_some (at_iri (if is_some o then turns else put_iri turns iri []) iri) ≡ true
  here_by (Some t) is = ap is_some is
  here_by None is = ap is_some (put_iri_same turns iri [])

  pub named_here : is_some (at_iri (named turns iri) iri) ≡ true
  named_here = here_by (at_iri turns iri) refl

  stays_by : (o : Option (List ℕ)) → at_iri turns iri ≡ o → (q : List ℕ) → is_some (at_iri turns q) ≡ true → is_some (at_iri (if is_some o then turns else put_iri turns iri []) q) ≡ true
  stays_by (Some t) is q h = h
  stays_by None is q h = elim (iri_cases q iri) [
    | inl e ↦ ap (λ r. is_some (at_iri (put_iri turns iri []) r)) e ∙ ap is_some (put_iri_same turns iri [])
    | inr n ↦ ap is_some (put_iri_other turns iri [] q n) ∙ h
  ]

  pub named_stays : (q : List ℕ) → is_some (at_iri turns q) ≡ true → is_some (at_iri (named turns iri) q) ≡ true
  named_stays q h = stays_by (at_iri turns iri) refl q h

-- ---- one more turn
until_more : (turns : List ℕ) (w v : ℕ) → turns_until (turns ++ w ∷ []) v ≡ turns_until turns v + cond (nat_le w v) 1 0
until_more turns w v = sum_by_push (λ turn. cond (nat_le turn v) 1 0) turns w

flips : (n : ℕ) → ((n + 1) % 2 == 1) ≡ not (n % 2 == 1)
flips n = grind (arith, nat_tests)

in_before : (turns : List ℕ) (w v : ℕ) → v < w → is_in v (turns ++ w ∷ []) ≡ is_in v turns
in_before turns w v lt = ap (λ n. n % 2 == 1) (until_more turns w v ∙ ap (λ b. turns_until turns v + cond b 1 0) (lt-leb w v lt) ∙ omega arith)

in_after : (turns : List ℕ) (w v : ℕ) → w ≤ v → is_in v (turns ++ w ∷ []) ≡ not (is_in v turns)
in_after turns w v le = ap (λ n. n % 2 == 1) (until_more turns w v ∙ ap (λ b. turns_until turns v + cond b 1 0) (le-leb w v le)) ∙ flips (turns_until turns v)

module _ (turns : Turns) (iri : List ℕ) (w : ℕ) where
  before_by : (o : Option (List ℕ)) → at_iri turns iri ≡ o → (q : List ℕ) (v : ℕ) → v < w → was_in (turn_found turns iri w o) q v ≡ was_in turns q v
  before_by None is q v lt = refl
  before_by (Some t) is q v lt = elim (iri_cases q iri) [
    | inl e ↦ ap (λ r. was_in (turn_found turns iri w (Some t)) r v) e ∙ ap (is_some_and (is_in v)) (set_iri_same turns iri (t ++ w ∷ []) t is) ∙ in_before t w v lt
        ∙ sym (ap (is_some_and (is_in v)) (ap (at_iri turns) e ∙ is))
    | inr n ↦ ap (is_some_and (is_in v)) (set_iri_other turns iri (t ++ w ∷ []) t is q n)
  ]

  -- it changes nothing at an earlier version
  pub was_in-before : (q : List ℕ) (v : ℕ) → v < w → was_in (turned turns iri w) q v ≡ was_in turns q v
  was_in-before = before_by (at_iri turns iri) refl

  after_by : (o : Option (List ℕ)) → at_iri turns iri ≡ o → is_some o ≡ true → (v : ℕ) → w ≤ v → was_in (turn_found turns iri w o) iri v ≡ not (is_some_and (is_in v) o)
  after_by None is some v le = cc
  after_by (Some t) is some v le = ap (is_some_and (is_in v)) (set_iri_same turns iri (t ++ w ∷ []) t is) ∙ in_after t w v le

  -- from its version on the IRI's answer is the other one
  pub was_in-after : is_some (at_iri turns iri) ≡ true → (v : ℕ) → w ≤ v → was_in (turned turns iri w) iri v ≡ not (was_in turns iri v)
  was_in-after = after_by (at_iri turns iri) refl

  other_by : (o : Option (List ℕ)) → at_iri turns iri ≡ o → (q : List ℕ) → is_eq (name_cmp q iri) ≡ false → at_iri (turn_found turns iri w o) q ≡ at_iri turns q
  other_by None is q n = refl
  other_by (Some t) is q n = set_iri_other turns iri (t ++ w ∷ []) t is q n

  pub turned_other : (q : List ℕ) → is_eq (name_cmp q iri) ≡ false → at_iri (turned turns iri w) q ≡ at_iri turns q
  turned_other = other_by (at_iri turns iri) refl

  still_by : (o : Option (List ℕ)) → at_iri turns iri ≡ o → (q : List ℕ) → is_some (at_iri turns q) ≡ true → is_some (at_iri (turn_found turns iri w o) q) ≡ true
  still_by None is q h = h
  still_by (Some t) is q h = elim (iri_cases q iri) [
    | inl e ↦ ap (λ r. is_some (at_iri (turn_found turns iri w (Some t)) r)) e ∙ ap is_some (set_iri_same turns iri (t ++ w ∷ []) t is)
    | inr n ↦ ap is_some (set_iri_other turns iri (t ++ w ∷ []) t is q n) ∙ h
  ]

  pub turned_stays : (q : List ℕ) → is_some (at_iri turns q) ≡ true → is_some (at_iri (turned turns iri w) q) ≡ true
  turned_stays = still_by (at_iri turns iri) refl
