-- Runs of bytes that stand for themselves, seen a block at a time.
use Rattle.std.proofs.Common.{◌≡◌, ℕ, ◌+◌, ◌<◌, ◌≤◌, ◌==◌, min, nat_lt, Bool, true, false, not, List, [], ◌∷◌, map, length, drop, refl, sym, ap, ap₂, ◌∙◌, arith, inl, inr, lt-ltb, le-ltb}
use Rattle.std.specs.Prelude.{◌&&◌, ◌||◌, cond}
use Rattle.std.proofs.lemmas.Simd.{chunk-drop, length-chunk, leading_from_mask_l, trailing_mask_l}
use Rattle.std.proofs.lemmas.List.Folds.{prefix_len-append}
use Rattle.std.proofs.lemmas.Bool.{eq-eqb, ne_eqb, cases_lt}
use Rattle.std.specs.List.{prefix_len}
use lib.Lanes.{chunk, mask_l}
use lib.Count.{count_trailing_zeros}
use Rattle.ld_tree.specs.Reading.{is_unescaped}

-- a byte stands for itself where it is none of the three
none_is : (p q : Bool) → false ≡ (not p && (not q && false))
none_is true q = refl
none_is false true = refl
none_is false false = refl

neither : (p q : Bool) → not (p || q) ≡ (not p && (not q && true))
neither true q = refl
neither false true = refl
neither false false = refl

three_tests : (x : ℕ) → is_unescaped x ≡ (not (x == 34) && (not (x == 92) && not (nat_lt x 32)))
three_tests x = elim (cases_lt x 32) [
  | inl below ↦ rw (lt-ltb x 32 below, le-ltb 31 x (omega arith)) (none_is (x == 34) (x == 92))
  | inr above ↦ rw (le-ltb x 32 above, lt-ltb 31 x (omega arith)) (neither (x == 34) (x == 92))
]

-- the run of bytes that pass all of three tests is the least of the three runs
least : (p q r : Bool) (a b c : ℕ) → cond (p && (q && r)) (1 + min a (min b c)) 0 ≡ min (cond p (1 + a) 0) (min (cond q (1 + b) 0) (cond r (1 + c) 0))
least true true true a b c = omega arith
least true true false a b c = omega arith
least true false r a b c = omega arith
least false q r a b c = omega arith

pub least_run : (xs : List ℕ) → prefix_len is_unescaped xs ≡ min (prefix_len (λ x. not (x == 34)) xs) (min (prefix_len (λ x. not (x == 92)) xs) (prefix_len (λ x. not (nat_lt x 32)) xs))
least_run [] = omega arith
least_run (x ∷ xs) = ap₂ (λ t n. cond t (1 + n) 0) (three_tests x) (least_run xs)
    ∙ least (not (x == 34)) (not (x == 92)) (not (nat_lt x 32)) (prefix_len (λ x. not (x == 34)) xs) (prefix_len (λ x. not (x == 92)) xs) (prefix_len (λ x. not (nat_lt x 32)) xs)

-- what the mask of a block of 16 bytes tells of the run before the first that passes p
module _ (p : ℕ → Bool) (xs : List ℕ) (m : ℕ) (mask : m ≡ mask_l (map p xs)) (long : length xs ≡ 16) where
  pub run_of_none : m ≡ 0 → 16 ≡ prefix_len (λ x. not (p x)) xs
  run_of_none z = sym long ∙ sym (leading_from_mask_l p xs (sym mask ∙ z))

  pub run_to_first : 0 < m → count_trailing_zeros 64 m ≡ prefix_len (λ x. not (p x)) xs
  run_to_first some = ap (count_trailing_zeros 64) mask ∙ trailing_mask_l p 64 xs (omega (arith, long)) (omega (arith, mask))

-- the run from i on: past a block, and where it ends in one
module _ (d : List ℕ) (i n : ℕ) (room : i + n ≤ length d) where
  split : prefix_len is_unescaped (drop i d)
      ≡ cond (prefix_len is_unescaped (chunk i n d) == length (chunk i n d)) (length (chunk i n d) + prefix_len is_unescaped (drop (i + n) d)) (prefix_len is_unescaped (chunk i n d))
  split = ap (prefix_len is_unescaped) (chunk-drop i n d) ∙ prefix_len-append is_unescaped (chunk i n d) (drop (i + n) d)

  pub past_block : prefix_len is_unescaped (chunk i n d) ≡ n → prefix_len is_unescaped (drop i d) ≡ n + prefix_len is_unescaped (drop (i + n) d)
  past_block is =
      let c = chunk i n d in
      split ∙ ap (λ b. cond b (length c + prefix_len is_unescaped (drop (i + n) d)) (prefix_len is_unescaped c)) (eq-eqb _ _ (is ∙ sym (length-chunk i n d room)))
      ∙ ap (λ k. k + prefix_len is_unescaped (drop (i + n) d)) (length-chunk i n d room)

  pub in_block : prefix_len is_unescaped (chunk i n d) < n → prefix_len is_unescaped (drop i d) ≡ prefix_len is_unescaped (chunk i n d)
  in_block lt =
      let c = chunk i n d in
      split ∙ ap (λ b. cond b (length c + prefix_len is_unescaped (drop (i + n) d)) (prefix_len is_unescaped c)) (ne_eqb _ _ (λ (e : prefix_len is_unescaped c ≡ length c). omega (arith, e, lt, length-chunk i n d room)))
