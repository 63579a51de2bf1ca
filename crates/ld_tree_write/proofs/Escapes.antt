-- What is escaped, against the bytes that stand for themselves.
use Rattle.std.proofs.Common.{◌≡◌, ℕ, suc, ◌+◌, ◌<◌, ◌==◌, nat_lt, Bool, true, false, not, cond, List, [], ◌∷◌, ◌++◌, take, drop, length, get_or, refl, sym, ap, subst, ◌∙◌, arith, inl, inr, lt-ltb, le-ltb}
use Rattle.std.specs.Prelude.{◌&&◌, ◌||◌, if◌then◌else◌}
use Rattle.std.proofs.lemmas.Bool.{cases_lt}
use Rattle.std.specs.List.{prefix_len}
use Rattle.ld_tree.specs.Reading.{is_unescaped}
use Rattle.ld_tree.specs.CompactText.{needs_escape, escape, escaped}

either : (p q : Bool) → (if p then true else q) ≡ not (not (p || q))
either true q = refl
either false true = refl
either false false = refl

-- a byte needs an escape where it doesn't stand for itself
pub opposite : (b : ℕ) → needs_escape b ≡ not (is_unescaped b)
opposite b = elim (cases_lt b 32) [
  | inl below ↦ rw (lt-ltb b 32 below, le-ltb 31 b (omega arith)) refl
  | inr above ↦ rw (le-ltb b 32 above, lt-ltb 31 b (omega arith)) (either (b == 34) (b == 92))
]

abbrev pub run : List ℕ → ℕ
run bs = prefix_len is_unescaped bs

run_more : (b : ℕ) (bs : List ℕ) → is_unescaped b ≡ true → run (b ∷ bs) ≡ suc (run bs)
run_more b bs e = ap (λ t. cond t (1 + run bs) 0) e ∙ omega arith

run_stops : (b : ℕ) (bs : List ℕ) → is_unescaped b ≡ false → run (b ∷ bs) ≡ 0
run_stops b bs e = ap (λ t. cond t (1 + run bs) 0) e

-- the run at the front is printed as it is
pub plain_front : (bs : List ℕ) → escaped bs ≡ take (run bs) bs ++ escaped (drop (run bs) bs)
plain_front [] = refl
plain_front (b ∷ bs) = go (is_unescaped b) refl (plain_front bs)
  where
    go : (u : Bool) → is_unescaped b ≡ u → escaped bs ≡ take (run bs) bs ++ escaped (drop (run bs) bs) → escaped (b ∷ bs) ≡ take (run (b ∷ bs)) (b ∷ bs) ++ escaped (drop (run (b ∷ bs)) (b ∷ bs))
    go true e ih = subst (λ n. escaped (b ∷ bs) ≡ take n (b ∷ bs) ++ escaped (drop n (b ∷ bs))) (sym (run_more b bs e))
        (ap (λ t. (if t then escape b else b ∷ []) ++ escaped bs) (opposite b ∙ ap not e) ∙ ap (λ l. b ∷ l) ih)
    go false e ih = subst (λ n. escaped (b ∷ bs) ≡ take n (b ∷ bs) ++ escaped (drop n (b ∷ bs))) (sym (run_stops b bs e)) refl

-- and ends at a byte that needs an escape
pub run_ended : (bs : List ℕ) → run bs < length bs → needs_escape (get_or bs (run bs) 0) ≡ true
run_ended [] lt = absurd (omega arith)
run_ended (b ∷ bs) lt = go (is_unescaped b) refl (run_ended bs)
  where
    go : (u : Bool) → is_unescaped b ≡ u → (run bs < length bs → needs_escape (get_or bs (run bs) 0) ≡ true) → needs_escape (get_or (b ∷ bs) (run (b ∷ bs)) 0) ≡ true
    go true e ih = subst (λ n. needs_escape (get_or (b ∷ bs) n 0) ≡ true) (sym (run_more b bs e)) (ih (omega (arith, run_more b bs e)))
    go false e ih = subst (λ n. needs_escape (get_or (b ∷ bs) n 0) ≡ true) (sym (run_stops b bs e)) (opposite b ∙ ap not e)
