-- A byte order mark.
use Rattle.std.proofs.Common.{◌≡◌, ◌∙◌, refl, sym, ap, ℕ, ◌+◌, nat_eq, List, [], ◌∷◌, Some, None}
use Rattle.ld_tree_read.specs.declared.cursor.Cursor.{Cursor}
use Rattle.ld_tree_read.specs.State.{Level}
use Rattle.ld_tree_read.specs.Cursor.{left, ahead}
use Rattle.ld_tree.specs.Numbers.{number_at}
use Rattle.ld_tree.specs.Reading.{past_mark}
use Rattle.ld_tree_read.specs.Refusals.{refusal, mark_refusal}
use Rattle.ld_tree_read.specs.State.{start, mark, value, step, mark_from}
use Rattle.ld_tree_read.proofs.Follows.{goes, not_opening, alike}
use Rattle.ld_tree_read.proofs.Tokens.{not_byte, stuck}
use Rattle.ld_tree_read.proofs.Scaled.{passed}

pub mark_begins : (c d : Cursor) (fs : List Level) → left c ≡ 239 ∷ left d → d.at ≡ c.at + 1 → ahead c fs start ≡ ahead d fs (mark (187 ∷ 191 ∷ []))
unfolding step number_at
mark_begins c d fs e at =
    ap (refusal c.at fs start) e ∙ goes c.at fs start 239 (left d) (not_opening c.at fs start 239 (left d) refl refl ∙ refl) refl ∙ ap (λ n. refusal n fs (mark (187 ∷ 191 ∷ [])) (left d)) (sym at)

pub mark_begins_at : (at : ℕ) (fs : List Level) (bs : List ℕ) → refusal at fs start (239 ∷ bs) ≡ refusal (at + 1) fs (mark (187 ∷ 191 ∷ [])) bs
unfolding step number_at
mark_begins_at at fs bs = goes at fs start 239 bs (not_opening at fs start 239 bs refl refl ∙ refl) refl

pub no_mark_begins : (at : ℕ) (fs : List Level) (bs : List ℕ) → ((r : List ℕ) → bs ≡ 239 ∷ r → ⊥) → refusal at fs start bs ≡ refusal at fs value bs
unfolding step
no_mark_begins at fs bs other = alike fs start value at bs refl refl refl (λ b r e. (rw (not_byte b 239 (λ is. other r (e ∙ ap (λ b. b ∷ r) is))) refl, refl))

pub second_mark : (fs : List Level) → step fs (mark (187 ∷ 191 ∷ [])) 187 ≡ Some (fs, mark (191 ∷ []))
unfolding step
second_mark fs = refl

pub third_mark : (fs : List Level) → step fs (mark (191 ∷ [])) 191 ≡ Some (fs, value)
unfolding step
third_mark fs = refl

pub mark_stops : (at : ℕ) (fs : List Level) (c : ℕ) (cs bs : List ℕ) → ((r : List ℕ) → bs ≡ c ∷ r → ⊥) → refusal at fs (mark (c ∷ cs)) bs ≡ Some (mark_refusal at bs)
unfolding refusal step
mark_stops at fs c cs [] other = refl
mark_stops at fs c cs (b ∷ bs) other = stuck at fs (mark (c ∷ cs)) b bs refl (passed (nat_eq b c) (mark_from fs cs) None (not_byte b c (λ is. other bs (ap (λ b. b ∷ bs) is))))

-- where no mark stands, none is passed
pub no_mark : (bs : List ℕ) → ((r : List ℕ) → bs ≡ 239 ∷ r → ⊥) → past_mark bs ≡ bs
no_mark [] other = refl
no_mark (a ∷ []) other = refl
no_mark (a ∷ b ∷ []) other = refl
no_mark (a ∷ b ∷ c ∷ bs) other = rw (not_byte a 239 (λ is. other (b ∷ c ∷ bs) (ap (λ a. a ∷ b ∷ c ∷ bs) is))) refl

pub mark_passed : (bs a b r : List ℕ) → bs ≡ 239 ∷ a → a ≡ 187 ∷ b → b ≡ 191 ∷ r → past_mark bs ≡ r
mark_passed bs a b r e f g = ap past_mark (e ∙ ap (λ a. 239 ∷ a) (f ∙ ap (λ b. 187 ∷ b) g))
