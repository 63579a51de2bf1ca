-- One byte more.
use Rattle.std.proofs.Common.{◌≡◌, ◌∙◌, refl, sym, ap, ap₂, ℕ, suc, ◌+◌, Bool, true, false, ◌||◌, cond, List, [], ◌∷◌, drop, Some, None, nat_eq, nat_lt, length, arith}
use Rattle.std.specs.List.{prefix_len}
use Rattle.ld_tree_read.specs.State.{Level}
use Rattle.ld_tree_read.specs.declared.refusal.ReadRefusal.{ReadRefusal}
use Rattle.ld_tree.specs.Numbers.{number_at}
use Rattle.ld_tree_read.specs.Refusals.{refusal, value_refusal, takes_value, byte_refusal, end_refusal, first_of, follow, number_refusal, plain_refusal, tail_of, is_char_byte}
use Rattle.std.specs.Option.{is_some}
use Rattle.ld_tree_read.specs.declared.refusal.ReadRefusal.TheVariants as r
use Rattle.ld_tree_read.specs.State.{Here, step, is_end}

module _ (at : ℕ) (fs : List Level) (here : Here) (b : ℕ) (bs : List ℕ) where
  pub goes : {gs : List Level} {there : Here} → value_refusal at fs here b bs ≡ None → step fs here b ≡ Some (gs, there) → refusal at fs here (b ∷ bs) ≡ refusal (at + 1) gs there bs
  unfolding refusal
  goes v s = ap₂ (λ v s. first_of v (follow (byte_refusal at here b) s (λ p. refusal (at + 1) p.0 p.1 bs))) v s

  pub stops : value_refusal at fs here b bs ≡ None → step fs here b ≡ None → refusal at fs here (b ∷ bs) ≡ Some (byte_refusal at here b)
  unfolding refusal
  stops v s = ap₂ (λ v s. first_of v (follow (byte_refusal at here b) s (λ p. refusal (at + 1) p.0 p.1 bs))) v s

  pub refused : {e : ReadRefusal} → value_refusal at fs here b bs ≡ Some e → refusal at fs here (b ∷ bs) ≡ Some e
  unfolding refusal
  refused v = ap (λ v. first_of v (follow (byte_refusal at here b) (step fs here b) (λ p. refusal (at + 1) p.0 p.1 bs))) v

  pub no_value : takes_value here ≡ false → value_refusal at fs here b bs ≡ None
  unfolding value_refusal
  no_value e = ap (λ t. cond t (cond (nat_eq b 91 || nat_eq b 123) (cond (nat_lt (length fs) 128) None (Some (r.TooDeep at))) (number_refusal at (number_at (b ∷ bs)))) None) e

pub same_step : (at : ℕ) (fs : List Level) (here there : Here) (b : ℕ) (bs : List ℕ) → value_refusal at fs here b bs ≡ None → value_refusal at fs there b bs ≡ None
    → step fs here b ≡ step fs there b → byte_refusal at here b ≡ byte_refusal at there b → refusal at fs here (b ∷ bs) ≡ refusal at fs there (b ∷ bs)
unfolding refusal
same_step at fs here there b bs v w s e =
    ap₂ (λ v s. first_of v (follow (byte_refusal at here b) s (λ p. refusal (at + 1) p.0 p.1 bs))) (v ∙ sym w) s
    ∙ ap (λ e. first_of (value_refusal at fs there b bs) (follow e (step fs there b) (λ p. refusal (at + 1) p.0 p.1 bs))) e

-- at a value
pub not_opening : (at : ℕ) (fs : List Level) (here : Here) (b : ℕ) (bs : List ℕ) → takes_value here ≡ true → nat_eq b 91 || nat_eq b 123 ≡ false → value_refusal at fs here b bs ≡ number_refusal at (number_at (b ∷ bs))
unfolding value_refusal
not_opening at fs here b bs t o = ap₂ (λ t o. cond t (cond o (cond (nat_lt (length fs) 128) None (Some (r.TooDeep at))) (number_refusal at (number_at (b ∷ bs)))) None) t o

same_value : (at : ℕ) (fs : List Level) (here there : Here) (b : ℕ) (bs : List ℕ) → takes_value here ≡ takes_value there → value_refusal at fs here b bs ≡ value_refusal at fs there b bs
unfolding value_refusal
same_value at fs here there b bs e = ap (λ t. cond t (cond (nat_eq b 91 || nat_eq b 123) (cond (nat_lt (length fs) 128) None (Some (r.TooDeep at))) (number_refusal at (number_at (b ∷ bs)))) None) e

-- two places that go on alike
pub alike : (fs : List Level) (here there : Here) (at : ℕ) (bs : List ℕ) → takes_value here ≡ takes_value there → is_end fs here ≡ is_end fs there
    → end_refusal at here ≡ end_refusal at there → ((b : ℕ) (r : List ℕ) → bs ≡ b ∷ r → (step fs here b ≡ step fs there b) × (byte_refusal at here b ≡ byte_refusal at there b))
    → refusal at fs here bs ≡ refusal at fs there bs
unfolding refusal
alike fs here there at [] t e f g = ap₂ (λ e f. cond e None (Some f)) e f
alike fs here there at (b ∷ bs) t e f g =
    let s = g b bs refl in
    ap₂ (λ v s. first_of v (follow (byte_refusal at here b) s (λ p. refusal (at + 1) p.0 p.1 bs))) (same_value at fs here there b bs t) s.0
    ∙ ap (λ e. first_of (value_refusal at fs there b bs) (follow e (step fs there b) (λ p. refusal (at + 1) p.0 p.1 bs))) s.1

-- a run of bytes at which a place stays
run_more : (p : ℕ → Bool) (x : ℕ) (xs : List ℕ) → p x ≡ true → prefix_len p (x ∷ xs) ≡ suc (prefix_len p xs)
run_more p x xs e = ap (λ b. cond b (1 + prefix_len p xs) 0) e ∙ (let one : 1 + prefix_len p xs ≡ suc (prefix_len p xs) = omega arith in one)

run_stops : (p : ℕ → Bool) (x : ℕ) (xs : List ℕ) → p x ≡ false → prefix_len p (x ∷ xs) ≡ 0
run_stops p x xs e = ap (λ b. cond b (1 + prefix_len p xs) 0) e

pub run : (p : ℕ → Bool) (here : Here) (fs : List Level) → ((at b : ℕ) (bs : List ℕ) → p b ≡ true → value_refusal at fs here b bs ≡ None) → ((b : ℕ) → p b ≡ true → step fs here b ≡ Some (fs, here))
    → (at : ℕ) (bs : List ℕ) → refusal at fs here bs ≡ refusal (at + prefix_len p bs) fs here (drop (prefix_len p bs) bs)
run p here fs v s at [] = ap (λ n. refusal n fs here []) (let e : at ≡ at + 0 = omega arith in e)
run p here fs v s at (b ∷ bs) = go (p b) refl (run p here fs v s (at + 1) bs)
  where
    go : (x : Bool) → p b ≡ x → refusal (at + 1) fs here bs ≡ refusal (at + 1 + prefix_len p bs) fs here (drop (prefix_len p bs) bs)
        → refusal at fs here (b ∷ bs) ≡ refusal (at + prefix_len p (b ∷ bs)) fs here (drop (prefix_len p (b ∷ bs)) (b ∷ bs))
    go true e ih =
        goes at fs here b bs (v at b bs e) (s b e) ∙ ih
        ∙ ap (λ n. refusal n fs here (drop (prefix_len p bs) bs)) (let w : at + 1 + prefix_len p bs ≡ at + suc (prefix_len p bs) = omega arith in w)
        ∙ ap (λ n. refusal (at + n) fs here (drop n (b ∷ bs))) (sym (run_more p b bs e))
    go false e ih =
        ap (λ n. refusal n fs here (b ∷ bs)) (let w : at ≡ at + 0 = omega arith in w)
        ∙ ap (λ n. refusal (at + n) fs here (drop n (b ∷ bs))) (sym (run_stops p b bs e))

-- a run has ended
pub run_ends : (p : ℕ → Bool) (bs : List ℕ) (b : ℕ) (r : List ℕ) → drop (prefix_len p bs) bs ≡ b ∷ r → p b ≡ false
run_ends p [] b r e = cc
run_ends p (x ∷ bs) b r e = go (p x) refl (run_ends p bs b r)
  where
    go : (v : Bool) → p x ≡ v → (drop (prefix_len p bs) bs ≡ b ∷ r → p b ≡ false) → p b ≡ false
    go true h ih = ih (ap (λ n. drop n (x ∷ bs)) (sym (run_more p x bs h)) ∙ e)
    go false h ih = let same : x ∷ bs ≡ b ∷ r = ap (λ n. drop n (x ∷ bs)) (sym (run_stops p x bs h)) ∙ e in ap p (let w : b ≡ x = cc in w) ∙ h

-- a run that is empty
pub no_run : (p : ℕ → Bool) (b : ℕ) (bs : List ℕ) → prefix_len p (b ∷ bs) ≡ 0 → p b ≡ false
no_run p b bs e = go (p b) refl
  where
    go : (v : Bool) → p b ≡ v → p b ≡ false
    go false h = h
    go true h = let w = run_more p b bs h in absurd (omega (arith, w, e))

pub some_run : (p : ℕ → Bool) (b : ℕ) (bs : List ℕ) → (prefix_len p (b ∷ bs) ≡ 0 → ⊥) → p b ≡ true
some_run p b bs n = go (p b) refl
  where
    go : (v : Bool) → p b ≡ v → p b ≡ true
    go true h = h
    go false h = absurd (n (run_stops p b bs h))

-- between characters, where nothing goes on
pub nowhere : (fs : List Level) (here : Here) (at : ℕ) (bs : List ℕ) → tail_of here ≡ None → is_end fs here ≡ false
    → ((b : ℕ) (r : List ℕ) → bs ≡ b ∷ r → (value_refusal at fs here b r ≡ None) × (step fs here b ≡ None)) → refusal at fs here bs ≡ Some (plain_refusal at bs)
unfolding refusal
nowhere fs here at [] t e h = ap₂ (λ e t. cond e None (Some (cond (is_some t) (r.NotUtf8 at) (r.Syntax at)))) e t
nowhere fs here at (b ∷ bs) t e h = let w = h b bs refl in stops at fs here b bs w.0 w.1 ∙ ap (λ t. Some (cond (is_char_byte t b) (r.Syntax at) (r.NotUtf8 at))) t
