use Rattle.std.proofs.Common.{◌≡◌, ◌∙◌, ◌≤◌, ℕ, List, sym, arith}
use Rattle.std.specs.Prelude.{decimal}
use Rattle.std.proofs.lemmas.Fmt.{decimal_injective}
use Rattle.ld_script.specs.Lines.{IsNumber}
use Rattle.ld_once.specs.Runs.{soak_limit}
use Rattle.ld_once.proofs.soak.count_of.Goals as goal

-- a word that spells 0 spells no number from 1 on
no_soak : (word seen : List ℕ) (most number : ℕ) → seen ≡ word → IsNumber seen most number → number ≡ 0 → (n : ℕ) → 1 ≤ n → n ≤ soak_limit → word ≡ decimal n → ⊥
no_soak word seen most number same_word is none n low high spelled =
    let same = decimal_injective number n (omega (arith, none)) (omega (arith, high)) (sym is.spelled ∙ same_word ∙ spelled) in
    omega (arith, same, none, low)

pub returns-then-number-eq0 : goal.returns-then-number-eq0
returns-then-number-eq0 c = no_soak c.args.word.now c.as_bytes.result.now c.from.result c.in_ok-number.number c.as_bytes.ensures.value c.in_ok-number.ensures c.if-number-eq0.true
