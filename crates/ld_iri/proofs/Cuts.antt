-- Texts cut at a byte.
use Rattle.std.proofs.Common.{◌≡◌, ◌≢◌, refl, sym, ap, subst, ℕ, suc, ◌<◌, ◌≤◌, Bool, true, false, not, List, [], ◌∷◌, ◌++◌, length, get_or, take, drop, codes, Some, None, eqb, arith, inl, inr}
use Rattle.std.proofs.lemmas.Bool.Decides.{eqb_tells}
use Rattle.std.proofs.lemmas.List.{length-append, take_at, drop_at}
use Rattle.std.specs.Str.{IsCharBoundary}
use Rattle.ld_iri.specs.Components.{cut, onto, marked, authority_and_path}

-- the byte stands nowhere in the text
abbrev pub Lacks : ℕ → List ℕ → Type 0
Lacks c xs = (i : ℕ) → i < length xs → get_or xs i 0 ≢ c

pub eqb-self : (c : ℕ) → eqb c c ≡ true
eqb-self c = grind (arith, eqb_tells)

pub eqb-other : (b c : ℕ) → b ≢ c → eqb b c ≡ false
eqb-other b c ne = grind (arith, eqb_tells)

pub not_is : (b x : Bool) → x ≡ not b → b ≡ not x
not_is true x e = ap not (sym e)
not_is false x e = ap not (sym e)

pub Lacks-tail : (c b : ℕ) (bs : List ℕ) → Lacks c (b ∷ bs) → Lacks c bs
Lacks-tail c b bs l i lt = l (suc i) (omega arith)

pub Lacks-head : (c b : ℕ) (bs : List ℕ) → Lacks c (b ∷ bs) → b ≢ c
Lacks-head c b bs l = l 0 (omega arith)

pub cut_past : (c : ℕ) (xs ys : List ℕ) → Lacks c xs → cut c (xs ++ ys) ≡ (xs ++ (cut c ys).0, (cut c ys).1)
cut_past c [] ys l = refl
cut_past c (x ∷ xs) ys l =
    rw (eqb-other x c (Lacks-head c x xs l)) (ap (onto x) (cut_past c xs ys (Lacks-tail c x xs l)))

pub cut_none : (c : ℕ) (xs : List ℕ) → Lacks c xs → cut c xs ≡ (xs, None)
cut_none c [] l = refl
cut_none c (x ∷ xs) l =
    rw (eqb-other x c (Lacks-head c x xs l)) (ap (onto x) (cut_none c xs (Lacks-tail c x xs l)))

pub cut_at : (c : ℕ) (xs ys : List ℕ) → Lacks c xs → cut c (xs ++ c ∷ ys) ≡ (xs, Some ys)
cut_at c [] ys l = rw (eqb-self c) refl
cut_at c (x ∷ xs) ys l =
    rw (eqb-other x c (Lacks-head c x xs l)) (ap (onto x) (cut_at c xs ys (Lacks-tail c x xs l)))

-- a text that was cut, joined again
pub cut-joined : (c : ℕ) (xs : List ℕ) → (cut c xs).0 ++ marked (c ∷ []) (cut c xs).1 ≡ xs
cut-joined c [] = refl
cut-joined c (x ∷ xs) = elim (eqb_tells x c) [
  | inl h ↦ rw h.0 (ap (λ b. b ∷ xs) (sym h.1))
  | inr h ↦ rw h.0 (ap (λ bs. x ∷ bs) (cut-joined c xs))
]

pub cut_within : (c : ℕ) (xs : List ℕ) → length (cut c xs).0 ≤ length xs
cut_within c xs = omega (arith, length-append (cut c xs).0 (marked (c ∷ []) (cut c xs).1), ap length (cut-joined c xs))

pub drop-cut : (c : ℕ) (xs : List ℕ) → drop (length (cut c xs).0) xs ≡ marked (c ∷ []) (cut c xs).1
drop-cut c xs = subst (λ t. drop (length (cut c xs).0) t ≡ marked (c ∷ []) (cut c xs).1) (cut-joined c xs) (drop_at (cut c xs).0 _ _ refl)

pub take-cut : (c : ℕ) (xs : List ℕ) → take (length (cut c xs).0) xs ≡ (cut c xs).0
take-cut c xs = subst (λ t. take (length (cut c xs).0) t ≡ (cut c xs).0) (cut-joined c xs) (take_at (cut c xs).0 _ _ refl)

pub cut_stands : (c : ℕ) (xs : List ℕ) → length (cut c xs).0 < length xs → get_or xs (length (cut c xs).0) 0 ≡ c
cut_stands c [] = λ lt. absurd (omega arith)
cut_stands c (x ∷ xs) = elim (eqb_tells x c) [
  | inl h ↦ rw h.0 (λ lt. h.1)
  | inr h ↦ rw h.0 (λ lt. cut_stands c xs (omega arith))
]

-- a text may be cut before an ASCII byte
pub cut-boundary : (c : ℕ) (xs : List ℕ) → c < 128 → IsCharBoundary xs (length (cut c xs).0)
cut-boundary c xs small = (cut_within c xs, λ lt high. let at = cut_stands c xs lt in absurd (omega (arith, at)))

-- a text with an authority
pub authority_some : (text rest : List ℕ) → text ≡ codes "//" ++ rest → authority_and_path text ≡ (Some (cut 47 rest).0, marked (codes "/") (cut 47 rest).1)
authority_some text rest e = subst (λ t. authority_and_path t ≡ (Some (cut 47 rest).0, marked (codes "/") (cut 47 rest).1)) (sym e) refl
