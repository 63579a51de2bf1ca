use Rattle.std.proofs.Common.{◌≡◌, ◌∙◌, ◌<◌, ◌≤◌, ◌^◌, ℕ, List, sym, subst, rules, arith}
use Rattle.std.proofs.lemmas.Fmt.{decimal_injective}
use Rattle.ld_script.specs.Lines.{IsNumber}
use Rattle.ld_work.proofs.form.number_of.Goals as goal

-- a word spells no other number than the one that is too small
none_other : (word seen : List ℕ) (least most number : ℕ) → most < 2 ^ 32 → seen ≡ word → IsNumber seen most number → number < least → (n : ℕ) → least ≤ n → IsNumber word most n → ⊥
none_other word seen least most number small same_word is low n high other =
    let a = is.bounded in
    let b = other.bounded in
    let same = decimal_injective number n (omega (arith, a, small)) (omega (arith, b, small)) (sym is.spelled ∙ same_word ∙ other.spelled) in
    omega (arith, same, low, high)

pub returns-then-number-from : goal.returns-then-number-from
returns-then-number-from c =
    let spelled = subst (λ m. IsNumber c.as_bytes.result.now m c.in_ok-number.number) c.from.ensures c.in_ok-number.ensures in
    none_other c.args.word.now c.as_bytes.result.now c.args.least c.args.most c.in_ok-number.number (search rules) c.as_bytes.ensures.value spelled (subst (λ m. c.in_ok-number.number < m) c.from-2.ensures c.if-number-from.true)
