-- Paths and their segments.
use Rattle.std.proofs.Common.{◌≡◌, ◌≢◌, ◌∙◌, refl, sym, ap, subst, ℕ, ◌+◌, ◌-◌, ◌<◌, true, false, cond, not, List, [], ◌∷◌, ◌++◌, length, get_or, take, drop, codes, arith, inl, inr}
use Rattle.std.proofs.lemmas.Bool.Decides.{eqb_tells}
use Rattle.std.proofs.lemmas.List.Sums.{suffix_len_is}
use Rattle.std.proofs.lemmas.List.{take-append-drop, drop_more, get_or-drop, length-drop}
use Rattle.std.specs.List.{suffix_len, onto_first}
use Rattle.std.specs.Str.{bytes_eq}
use Rattle.std.proofs.lemmas.Slice.Eq.{bytes_eq-Decides}
use Rattle.ld_iri.specs.Resolution.{is_slash, segments, all_but_last, folders, without_last, next_output}
use Rattle.ld_iri.proofs.Cuts.{Lacks, Lacks-head, Lacks-tail, eqb-other}

pub segments_one : (xs : List ℕ) → Lacks 47 xs → segments xs ≡ xs ∷ []
segments_one [] l = refl
segments_one (x ∷ xs) l =
    rw (eqb-other x 47 (Lacks-head 47 x xs l)) (ap (onto_first x) (segments_one xs (Lacks-tail 47 x xs l)))

pub segments_first : (xs ys : List ℕ) → Lacks 47 xs → segments (xs ++ 47 ∷ ys) ≡ xs ∷ segments ys
segments_first [] ys l = refl
segments_first (x ∷ xs) ys l =
    rw (eqb-other x 47 (Lacks-head 47 x xs l)) (ap (onto_first x) (segments_first xs ys (Lacks-tail 47 x xs l)))

onto_first-append : (x : ℕ) (s : List ℕ) (a b : List (List ℕ)) → onto_first x ((s ∷ a) ++ b) ≡ onto_first x (s ∷ a) ++ b
onto_first-append x s a b = refl

-- a path has a segment
pub segments_some : (xs : List ℕ) → (s : List ℕ) × (rest : List (List ℕ)) × (segments xs ≡ s ∷ rest)
segments_some [] = ([], [], refl)
segments_some (x ∷ xs) = elim (is_slash x) as (λ b. (s : List ℕ) × (rest : List (List ℕ)) × (cond b ([] ∷ segments xs) (onto_first x (segments xs)) ≡ s ∷ rest)) [
  | true ↦ ([], segments xs, refl)
  | false ↦ let more = segments_some xs in (x ∷ more.0, more.1, ap (onto_first x) more.2)
]

-- two paths with a slash between them
pub segments-joined : (xs ys : List ℕ) → segments (xs ++ 47 ∷ ys) ≡ segments xs ++ segments ys
segments-joined [] ys = refl
segments-joined (x ∷ xs) ys = elim (eqb_tells x 47) [
  | inl h ↦ rw h.0 (ap (λ t. [] ∷ t) (segments-joined xs ys))
  | inr h ↦ rw h.0 (let more = segments_some xs in ap (onto_first x) (segments-joined xs ys ∙ ap (λ t. t ++ segments ys) more.2) ∙ sym (ap (λ t. onto_first x t ++ segments ys) more.2))
]

pub all_but_last-push : (a : List (List ℕ)) (s : List ℕ) → all_but_last (a ++ s ∷ []) ≡ a
all_but_last-push [] s = refl
all_but_last-push (f ∷ []) s = refl
all_but_last-push (f ∷ g ∷ rest) s = ap (λ t. f ∷ t) (all_but_last-push (g ∷ rest) s)

-- the folders of a path end at its last slash
pub folders_at : (xs ys : List ℕ) → Lacks 47 ys → folders (xs ++ 47 ∷ ys) ≡ segments xs
folders_at xs ys l = ap all_but_last (segments-joined xs ys ∙ ap (λ t. segments xs ++ t) (segments_one ys l)) ∙ all_but_last-push (segments xs) ys

pub folders_last : (bs : List ℕ) (k : ℕ) → k < length bs → get_or bs k 0 ≡ 47 → ((i : ℕ) → k < i → i < length bs → get_or bs i 0 ≢ 47) → folders bs ≡ segments (take k bs)
folders_last bs k lt here past =
    let joined : bs ≡ take k bs ++ 47 ∷ drop (k + 1) bs = sym (take-append-drop k bs) ∙ ap (λ t. take k bs ++ t) (drop_more bs k 0 lt) ∙ ap (λ b. take k bs ++ b ∷ drop (k + 1) bs) here in
    ap folders joined ∙ folders_at (take k bs) (drop (k + 1) bs) (λ i within. subst (λ b. b ≢ 47) (sym (get_or-drop (k + 1) bs i 0)) (past (k + 1 + i) (omega arith) (omega (arith, length-drop (k + 1) bs))))

pub folders_none : (xs : List ℕ) → Lacks 47 xs → folders xs ≡ []
folders_none xs l = ap all_but_last (segments_one xs l)

-- what stands before the last slash
pub without_last_at : (bs : List ℕ) (k : ℕ) → k < length bs → get_or bs k 0 ≡ 47 → ((i : ℕ) → k < i → i < length bs → get_or bs i 0 ≢ 47) → without_last bs ≡ take k bs
without_last_at bs k lt here past =
    let slash : is_slash (get_or bs k 0) ≡ true = grind (arith, eqb_tells) in
    let back : k ≡ k + 1 - 1 = omega arith in
    let n = suffix_len_is (λ x. not (is_slash x)) bs (k + 1) 0 (omega arith) (λ i from within. ap not (eqb-other (get_or bs i 0) 47 (past i (omega arith) within))) (λ _. subst (λ i. not (is_slash (get_or bs i 0)) ≡ false) back (ap not slash)) in
    let place : length bs - suffix_len (λ x. not (is_slash x)) bs - 1 ≡ k = omega arith in
    ap (λ m. take m bs) place

pub without_last_none : (bs : List ℕ) → Lacks 47 bs → without_last bs ≡ []
without_last_none bs l =
    let n = suffix_len_is (λ x. not (is_slash x)) bs 0 0 (omega arith) (λ i from within. ap not (eqb-other (get_or bs i 0) 47 (l i within))) (λ lt. absurd (omega arith)) in
    let place : length bs - suffix_len (λ x. not (is_slash x)) bs - 1 ≡ 0 = omega arith in
    ap (λ m. take m bs) place

-- tests of texts
pub bytes_unlike : (xs ys : List ℕ) → (xs ≡ ys → ⊥) → bytes_eq xs ys ≡ false
bytes_unlike xs ys ne = elim (bytes_eq xs ys) as (λ b. (b ≡ true → xs ≡ ys) → b ≡ false) [
  | true ↦ λ same. absurd (ne (same refl))
  | false ↦ λ same. refl
] (bytes_eq-Decides xs ys).0

pub next_output_else : (output s : List ℕ) → (s ≡ codes "." → ⊥) → (s ≡ codes ".." → ⊥) → next_output output s ≡ output ++ 47 ∷ s
next_output_else output s one two = rw (bytes_unlike s (codes ".") one, bytes_unlike s (codes "..") two) refl
