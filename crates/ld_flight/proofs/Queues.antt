-- The answers for an IRI, when one is taken off the list.
use Rattle.std.proofs.Common.{rules, All, Option, Some, None, IfSome, ◌≡◌, arith, refl, sym, ◌∙◌, ap, ap₂, subst, ℕ, suc, ◌+◌, ◌<◌, ◌≤◌, Bool, true, false, if◌then◌else◌, List, [], ◌∷◌, ◌++◌, length, take, drop, get_or}
use Rattle.std.specs.Str.{bytes_eq}
use Rattle.std.specs.Bool.{one_answer}
use Rattle.std.specs.List.{remove}
use Rattle.std.proofs.lemmas.List.{take_more, drop_more, take-append-drop, get_or-drop, length-drop}
use Rattle.std.proofs.lemmas.List.Elements.{All-get_or}
use Rattle.std.proofs.lemmas.Slice.Eq.{bytes_eq-Decides}
use Rattle.ld_flight.specs.Loads.{Answer, rest_of, IsFirst}
use Rattle.ld_flight.specs.Memory.{Kept, iri_in, answer_in, answers_for, taken_from, IsFirstAt, IsAnswerAt, IsShort}

front : (here : Bool) (answer : Answer) (answers more : List Answer)
    → (if here then answer ∷ answers else answers) ++ more ≡ (if here then answer ∷ (answers ++ more) else answers ++ more)
front true answer answers more = refl
front false answer answers more = refl

pub for-append : (iri : List ℕ) (xs ys : List Kept) → answers_for iri (xs ++ ys) ≡ answers_for iri xs ++ answers_for iri ys
for-append iri [] ys = refl
for-append iri (x ∷ xs) ys =
    ap (λ answers. if bytes_eq (iri_in x) iri then answer_in x ∷ answers else answers) (for-append iri xs ys)
    ∙ sym (front (bytes_eq (iri_in x) iri) (answer_in x) (answers_for iri xs) (answers_for iri ys))

-- one answer, for another IRI
single : (here : Bool) (answer : Answer) → here ≡ false → (if here then answer ∷ [] else []) ≡ []
single here answer other = ap (λ b. if b then answer ∷ [] else []) other

-- an answer for another IRI is passed over
pub other_next : (iri : List ℕ) (xs : List Kept) (at : ℕ) (x : Kept) → at < length xs → x ≡ get_or xs at x → bytes_eq (iri_in x) iri ≡ false
    → answers_for iri (take at xs) ≡ [] → answers_for iri (take (at + 1) xs) ≡ []
other_next iri xs at x inside is other none =
    ap (answers_for iri) (take_more xs at x inside ∙ ap (λ y. take at xs ++ y ∷ []) (sym is))
    ∙ for-append iri (take at xs) (x ∷ [])
    ∙ ap (λ answers. answers ++ answers_for iri (x ∷ [])) none
    ∙ single (bytes_eq (iri_in x) iri) (answer_in x) other

-- the first answer for the IRI is here
pub first_here : (iri : List ℕ) (xs : List Kept) (at : ℕ) (x : Kept) → at < length xs → x ≡ get_or xs at x → iri_in x ≡ iri
    → answers_for iri (take at xs) ≡ [] → IsFirstAt iri xs at
first_here iri xs at x inside is for none = record {
  none_before = none;
  kept = x;
  here = drop_more xs at x inside ∙ ap (λ y. y ∷ drop (at + 1) xs) (sym is);
  is_for = for;
}

same_head : {x y : Kept} {xs ys : List Kept} → (x ∷ xs) ≡ (y ∷ ys) → x ≡ y
same_head {x} eq = ap (λ zs. head_or x zs) eq
  where
    head_or : Kept → List Kept → Kept
    head_or d [] = d
    head_or d (z ∷ zs) = z

pub same : (a b : List ℕ) → a ≡ b → bytes_eq a b ≡ true
same a b = (bytes_eq-Decides a b).1

taken_here : (here : Bool) (answer : Answer) (answers : List Answer) → here ≡ true → (if here then answer ∷ answers else answers) ≡ answer ∷ answers
taken_here here answer answers is = ap (λ b. if b then answer ∷ answers else answers) is

-- the list in three parts
parts : (iri : List ℕ) (xs : List Kept) (at : ℕ) (x : Kept) (i : List ℕ) → drop at xs ≡ x ∷ drop (at + 1) xs
    → answers_for i xs ≡ answers_for i (take at xs) ++ answers_for i (x ∷ drop (at + 1) xs)
parts iri xs at x i here =
    ap (answers_for i) (sym (take-append-drop at xs) ∙ ap (λ ys. take at xs ++ ys) here)
    ∙ for-append i (take at xs) (x ∷ drop (at + 1) xs)

-- the answers for the IRI begin with that of the place
pub whole : (iri : List ℕ) (xs : List Kept) (at : ℕ) → (first : IsFirstAt iri xs at) → answers_for iri xs ≡ answer_in first.kept ∷ answers_for iri (drop (at + 1) xs)
whole iri xs at first =
    parts iri xs at first.kept iri first.here
    ∙ ap (λ answers. answers ++ answers_for iri (first.kept ∷ drop (at + 1) xs)) first.none_before
    ∙ taken_here (bytes_eq (iri_in first.kept) iri) (answer_in first.kept) (answers_for iri (drop (at + 1) xs)) (same (iri_in first.kept) iri first.is_for)

-- the only one stays
only : (same : Bool) (answers : List Answer) (answer : Answer) → (same ≡ true → answers ≡ answer ∷ []) → answers ≡ (if same then rest_of answers else answers)
only true answers answer one = one refl ∙ sym (ap rest_of (one refl))
only false answers answer one = refl

pub only_stays : (iri : List ℕ) (xs : List Kept) (at : ℕ) (first : IsFirstAt iri xs at) → answers_for iri (drop (at + 1) xs) ≡ []
    → (i : List ℕ) → answers_for i xs ≡ taken_from i iri (answers_for i xs)
only_stays iri xs at first last i = only (bytes_eq i iri) (answers_for i xs) (answer_in first.kept) (λ is.
    let eq = (bytes_eq-Decides i iri).0 is in
    ap (λ k. answers_for k xs) eq ∙ whole iri xs at first ∙ ap (λ answers. answer_in first.kept ∷ answers) last)

flipped : (a b : List ℕ) → bytes_eq a b ≡ bytes_eq b a
flipped a b = one_answer (bytes_eq a b) (bytes_eq b a) (bytes_eq-Decides a b) ((λ h. sym ((bytes_eq-Decides b a).0 h)), (λ h. (bytes_eq-Decides b a).1 (sym h)))

is_other : (iri i : List ℕ) (x : Kept) → iri_in x ≡ iri → bytes_eq i iri ≡ false → bytes_eq (iri_in x) i ≡ false
is_other iri i x is other = ap (λ k. bytes_eq k i) is ∙ flipped iri i ∙ other

-- one of several goes
rest_of_more : (answer : Answer) (more : List Answer) → (more ≡ [] → ⊥) → rest_of (answer ∷ more) ≡ more
rest_of_more answer [] some = elim (some refl) [ ]
rest_of_more answer (next ∷ more) some = refl

gone : (same : Bool) (left all : List Answer) → (same ≡ true → left ≡ rest_of all) → (same ≡ false → left ≡ all) → left ≡ (if same then rest_of all else all)
gone true left all one other = one refl
gone false left all one other = other refl

passed : (here : Bool) (answer : Answer) (answers : List Answer) → here ≡ false → (if here then answer ∷ answers else answers) ≡ answers
passed here answer answers is = ap (λ b. if b then answer ∷ answers else answers) is

removed : (xs : List Kept) (at : ℕ) → remove xs at ≡ take at xs ++ drop (at + 1) xs
removed xs at = let next : suc at ≡ at + 1 = omega arith in ap (λ n. take at xs ++ drop n xs) next

pub one_goes : (iri : List ℕ) (xs : List Kept) (at : ℕ) (first : IsFirstAt iri xs at) → (answers_for iri (drop (at + 1) xs) ≡ [] → ⊥)
    → (i : List ℕ) → answers_for i (remove xs at) ≡ taken_from i iri (answers_for i xs)
one_goes iri xs at first some i = gone (bytes_eq i iri) (answers_for i (remove xs at)) (answers_for i xs)
    (λ is.
    let eq = (bytes_eq-Decides i iri).0 is in
    ap₂ (λ k ys. answers_for k ys) eq (removed xs at)
    ∙ for-append iri (take at xs) (drop (at + 1) xs)
    ∙ ap (λ answers. answers ++ answers_for iri (drop (at + 1) xs)) first.none_before
    ∙ sym (rest_of_more (answer_in first.kept) (answers_for iri (drop (at + 1) xs)) some)
    ∙ ap rest_of (sym (whole iri xs at first))
    ∙ ap (λ k. rest_of (answers_for k xs)) (sym eq))
    (λ is_not.
    ap (answers_for i) (removed xs at)
    ∙ for-append i (take at xs) (drop (at + 1) xs)
    ∙ ap (λ answers. answers_for i (take at xs) ++ answers)
    (sym (passed (bytes_eq (iri_in first.kept) i) (answer_in first.kept) (answers_for i (drop (at + 1) xs)) (is_other iri i first.kept first.is_for is_not)))
    ∙ sym (parts iri xs at first.kept i first.here))

-- what is at the place is the first answer
pub is_first : (iri : List ℕ) (xs : List Kept) (at : ℕ) (answer : Answer) (first : IsFirstAt iri xs at) → answer_in first.kept ≡ answer → IsFirst (answers_for iri xs) answer
is_first iri xs at answer first is = subst (λ answers. IsFirst answers answer) (sym (whole iri xs at first)) is

-- there are answers from a first one on
pub some_left : (iri : List ℕ) (xs : List Kept) (at : ℕ) → IsFirstAt iri xs at → answers_for iri xs ≡ [] → ⊥
some_left iri xs at first none = subst (λ answers. IsFirst answers (answer_in first.kept)) none (is_first iri xs at (answer_in first.kept) first refl)

pub told : {A : Type 0} (P : A → Type 0) (o : Option A) (a : A) → o ≡ Some a → IfSome o P → P a
told P o a is some = subst (λ o'. IfSome o' P) is some

-- the two ways of naming what stands at a place agree
pub at_place : (iri : List ℕ) (xs : List Kept) (at : ℕ) (url text : List ℕ) (first : IsFirstAt iri xs at) → IsAnswerAt url text xs at → answer_in first.kept ≡ (url, text)
at_place iri xs at url text first answer = ap answer_in (same_head (sym first.here ∙ answer.1)) ∙ answer.2

pub kept_at : (iri : List ℕ) (xs : List Kept) (at : ℕ) (d : Kept) (first : IsFirstAt iri xs at) → get_or xs at d ≡ first.kept
kept_at iri xs at d first =
    let zero_more : at + 0 ≡ at = omega arith in
    ap (λ n. get_or xs n d) (sym zero_more) ∙ sym (get_or-drop at xs 0 d) ∙ ap (λ ys. get_or ys 0 d) first.here

-- what was read at the place
pub answer_at : (iri : List ℕ) (xs : List Kept) (at : ℕ) (x : Kept) (first : IsFirstAt iri xs at) → x ≡ get_or xs at x → IsAnswerAt (answer_in x).0 (answer_in x).1 xs at
answer_at iri xs at x first is = (first.kept, first.here, ap answer_in (sym (is ∙ kept_at iri xs at x first)))

-- the answer at the place isn't too long
pub short_at : (iri : List ℕ) (xs : List Kept) (at : ℕ) (d : Kept) (first : IsFirstAt iri xs at) → at < length xs → All IsShort xs → IsShort first.kept
short_at iri xs at d first inside short = subst IsShort (kept_at iri xs at d first) (All-get_or IsShort xs at d inside short)

pub inside : (iri : List ℕ) (xs : List Kept) (at : ℕ) → IsFirstAt iri xs at → at < length xs
inside iri xs at first = let left = sym (length-drop at xs) ∙ ap length first.here in grind (arith, left)
