-- Who holds an IRI, after a session is listed there or is no more.
use Rattle.std.proofs.Common.{◌≡◌, ℕ, List, [], ◌∷◌, length, refl, sym, ap, ◌∙◌, Option, Some, Bool, true, false, cond, inl, inr, nat_cmp, ◌||◌, not, arith, ◌<◌, ◌+◌}
use Rattle.std.specs.Ordering.{is_eq}
use Rattle.std.specs.Cmp.{nat_cmp_total, tied_itself}
use Rattle.std.specs.Prelude.{Result, Ok, Err, OnErr, drop, get_or}
use Rattle.std.specs.Cmp.Lexicographic.{nat_list_cmp_total, same_text}
use Rattle.std.proofs.lemmas.Bool.{false_from_ne_true}
use Rattle.std.proofs.lemmas.List.{drop_more}
use Rattle.std.specs.List.{list_any}
use Rattle.std.specs.BTreeMap.{is_at}
use Rattle.std.specs.BTreeSet.{BTreeSet, contains}
use Rattle.ld_tree.specs.Names.{name_cmp}
use Rattle.ld_history.specs.Words.{at_iri, is_some_and, same_iri}
use Rattle.ld_history.specs.Holders.{Holders, held_by, AreFilled, IsMarked, IsSame}
use Rattle.ld_history.proofs.LawFlights.{iri_cases, number_cases, apart_iris, apart_numbers}

abbrev pub Set : Type 0
Set = BTreeSet ℕ

-- what is looked up at each IRI, where one of them is written
abbrev pub IsWritten : Holders → Holders → List ℕ → Option Set → Type 0
IsWritten before after iri value = (q : List ℕ) → at_iri after q ≡ cond (is_at (name_cmp iri) q) value (at_iri before q)

abbrev pub member : Option Set → ℕ → Bool
member o n = is_some_and (λ set. contains nat_cmp set n) o

number_itself : (k : ℕ) → is_eq (nat_cmp k k) ≡ true
number_itself k = ap is_eq (tied_itself nat_cmp_total k)

iri_itself : (k : List ℕ) → is_eq (name_cmp k k) ≡ true
iri_itself k = ap is_eq (tied_itself nat_list_cmp_total k)

pub written_twice : (before middle after : Holders) (iri : List ℕ) (first second : Option Set) → IsWritten before middle iri first → IsWritten middle after iri second → IsWritten before after iri second
written_twice before middle after iri first second h k q = k q ∙ ap (cond (is_at (name_cmp iri) q) second) (h q) ∙ twice (is_at (name_cmp iri) q)
  where
    twice : (b : Bool) → cond b second (cond b first (at_iri before q)) ≡ cond b second (at_iri before q)
    twice true = refl
    twice false = refl

module _ (before after : Holders) (iri : List ℕ) (value : Option Set) (put : IsWritten before after iri value) where
  written_here : at_iri after iri ≡ value
  written_here = put iri ∙ ap (λ b. cond b value (at_iri before iri)) (iri_itself iri)

  written_there : (q : List ℕ) → is_eq (name_cmp iri q) ≡ false → at_iri after q ≡ at_iri before q
  written_there q n = put q ∙ ap (λ b. cond b value (at_iri before q)) n

  pub filled_still : AreFilled before → ((set : Set) → value ≡ Some set → set.keys ≡ [] → ⊥) → AreFilled after
  filled_still h new q set is empty = elim (iri_cases iri q) [
    | inl e ↦ new set (sym written_here ∙ ap (at_iri after) e ∙ is) empty
    | inr n ↦ h q set (sym (written_there q n) ∙ is) empty
  ]

  module _ (old : Option Set) (was : at_iri before iri ≡ old) where
    pub marked : (session : ℕ) (listed : Bool) → ((n : ℕ) → member value n ≡ cond (is_at (nat_cmp session) n) listed (member old n)) → IsMarked before after iri session listed
    marked session listed each = record {
      here = ap (λ o. member o session) written_here ∙ each session ∙ ap (λ b. cond b listed (member old session)) (number_itself session);
      there = λ q n apart. elim (iri_cases iri q) [
        | inl e ↦
            let now : held_by after q n ≡ cond (is_at (nat_cmp session) n) listed (member old n) = sym (ap (λ k. held_by after k n) e) ∙ ap (λ o. member o n) written_here ∙ each n in
            let then : held_by before q n ≡ member old n = sym (ap (λ k. held_by before k n) e) ∙ ap (λ o. member o n) was in
            elim (number_cases session n) [
              | inl f ↦ absurd (apart (sym e) (sym f))
              | inr a ↦ now ∙ ap (λ b. cond b listed (member old n)) a ∙ sym then
            ]
        | inr a ↦ ap (λ o. member o n) (written_there q a)
      ];
    }

    pub same_members : ((n : ℕ) → member value n ≡ member old n) → IsSame before after
    same_members each q n = elim (iri_cases iri q) [
      | inl e ↦ sym (ap (λ k. held_by after k n) e) ∙ ap (λ o. member o n) written_here ∙ each n ∙ sym (ap (λ o. member o n) was) ∙ ap (λ k. held_by before k n) e
      | inr a ↦ ap (λ o. member o n) (written_there q a)
    ]

-- a set that has a number isn't empty
pub has_some : (set : Set) (n : ℕ) → contains nat_cmp set n ≡ true → set.keys ≡ [] → ⊥
has_some set n h empty = let none : contains nat_cmp set n ≡ false = ap (list_any (is_at (nat_cmp n))) empty in cc

pub none_in : (set : Set) (n : ℕ) → set.keys ≡ [] → contains nat_cmp set n ≡ false
none_in set n empty = ap (list_any (is_at (nat_cmp n))) empty

pub empty_from : (ns : List ℕ) → length ns ≡ 0 → ns ≡ []
empty_from [] h = refl
empty_from (n ∷ ns) h = absurd (omega (arith, h))

pub on_err : {T E P : Type 0} (r : Result T E) → P → OnErr r P
on_err (Ok x) p = tt
on_err (Err e) p = p

pub other_iri : (iri q : List ℕ) → (q ≡ iri → ⊥) → same_iri iri q ≡ false
other_iri iri q apart = false_from_ne_true (same_iri iri q) (λ h. apart (sym (same_text iri q (sym h))))

-- ---- one IRI after another of what a session holds
pub unlisted_more : (before after : Holders) (held : List (List ℕ)) (session i : ℕ) (iri : List ℕ) → i < length held → iri ≡ get_or held i iri → IsMarked before after iri session false
    → ((q : List ℕ) → held_by before q session ≡ true → list_any (λ k. same_iri k q) (drop i held) ≡ true)
    → (q : List ℕ) → held_by after q session ≡ true → list_any (λ k. same_iri k q) (drop (i + 1) held) ≡ true
unlisted_more before after held session i iri lt is mark left q now =
    let apart : q ≡ iri → ⊥ = λ e. let bad : true ≡ false = sym now ∙ ap (λ k. held_by after k session) e ∙ mark.here in cc in
    let then : held_by before q session ≡ true = sym (mark.there q session (λ e f. apart e)) ∙ now in
    let any : list_any (λ k. same_iri k q) (drop i held) ≡ true = left q then in
    let split : drop i held ≡ get_or held i iri ∷ drop (i + 1) held = drop_more held i iri lt in
    let first : same_iri (get_or held i iri) q ≡ false = ap (λ k. same_iri k q) (sym is) ∙ other_iri iri q apart in
    sym (ap (λ b. b || list_any (λ k. same_iri k q) (drop (i + 1) held)) first) ∙ sym (ap (list_any (λ k. same_iri k q)) split) ∙ any

-- a listing that was taken back where it was new
pub same_again : (before middle after : Holders) (iri : List ℕ) (session : ℕ) (first : Bool) → IsMarked before middle iri session true → first ≡ not (held_by before iri session) → IsMarked middle after iri session (not first)
    → IsSame before after
same_again before middle after iri session first listed is undone q n = elim (iri_cases q iri) [
  | inl e ↦ elim (number_cases n session) [
    | inl f ↦ ap (λ k. held_by after k n) e ∙ ap (held_by after iri) f ∙ undone.here ∙ ap not is ∙ twice (held_by before iri session) ∙ sym (ap (λ k. held_by before k n) e ∙ ap (held_by before iri) f)
    | inr a ↦ undone.there q n (λ _ f. apart_numbers n session a f) ∙ listed.there q n (λ _ f. apart_numbers n session a f)
  ]
  | inr a ↦ undone.there q n (λ e _. apart_iris q iri a e) ∙ listed.there q n (λ e _. apart_iris q iri a e)
]
  where
    twice : (b : Bool) → not (not b) ≡ b
    twice true = refl
    twice false = refl

-- ---- the least holder
pub some_member : (ns : List ℕ) → (ns ≡ [] → ⊥) → (n : ℕ) × (list_any (is_at (nat_cmp n)) ns ≡ true)
some_member [] full = absurd (full refl)
some_member (n ∷ ns) full = (n, ap (λ b. b || list_any (is_at (nat_cmp n)) ns) (number_itself n))
