-- Words, runs and white space at the front of some bytes.
use Rattle.std.proofs.Common.{◌≡◌, ◌∙◌, refl, sym, ap, Bool, true, false, cond, ℕ, suc, ◌+◌, List, [], ◌∷◌, drop, arith}
use Rattle.std.specs.List.{prefix_len}
use Rattle.ld_tree.specs.Reading.{is_white, past_space}

-- a run goes on, or has ended
one_more : (n : ℕ) → 1 + n ≡ suc n
one_more n = omega arith

pub run_more : (p : ℕ → Bool) (x : ℕ) (xs : List ℕ) → p x ≡ true → prefix_len p (x ∷ xs) ≡ suc (prefix_len p xs)
run_more p x xs e = ap (λ b. cond b (1 + prefix_len p xs) 0) e ∙ one_more (prefix_len p xs)

pub run_stops : (p : ℕ → Bool) (x : ℕ) (xs : List ℕ) → p x ≡ false → prefix_len p (x ∷ xs) ≡ 0
run_stops p x xs e = ap (λ b. cond b (1 + prefix_len p xs) 0) e

-- white space is a run
pub past_run : (bytes : List ℕ) → drop (prefix_len is_white bytes) bytes ≡ past_space bytes
past_run [] = refl
past_run (b ∷ bytes) = go (is_white b) refl (past_run bytes)
  where
    go : (w : Bool) → is_white b ≡ w → drop (prefix_len is_white bytes) bytes ≡ past_space bytes → drop (prefix_len is_white (b ∷ bytes)) (b ∷ bytes) ≡ past_space (b ∷ bytes)
    go true e ih = ap (λ n. drop n (b ∷ bytes)) (run_more is_white b bytes e) ∙ ih ∙ sym (ap (λ w. cond w (past_space bytes) (b ∷ bytes)) e)
    go false e ih = ap (λ n. drop n (b ∷ bytes)) (run_stops is_white b bytes e) ∙ sym (ap (λ w. cond w (past_space bytes) (b ∷ bytes)) e)
