use Rattle.std.proofs.Common.{◌∙◌, sym, ap, ◌-◌, ◌*◌, ◌^◌, ◌≡◌, Some, true≢false}
use Rattle.ld_tree.specs.Numbers.{whole_num}
use Rattle.ld_tree_read.proofs.Scaled.{some_top, zeros_left, whole_is, eleven_tenths, no_eleven_tenths, is_it, is_not}
use Rattle.ld_tree_read.proofs.decimal.scaled.Goals as goal
use Rattle.ld_tree_read.proofs.decimal.scaled.Goals.{else-not-negative-via-then-not-negative+then-eq-2+else-places-zeros-eq1, else-not-negative-via-then-not-negative+else-eq-2, else-not-negative-via-else-not-negative}

pub returns-then-zeros-places : goal.returns-then-zeros-places
returns-then-zeros-places c = λ x neg h.
    let some : c.args.significant ≡ Some 0 → ⊥ = is_not c.args.significant 0 c.if-eq.ensures in
    c.with_zeros.ensures h.top (h.zeros - x.down) h.held (some_top h some) (zeros_left h some c.if-zeros-places.true)
    ∙ ap (λ n. whole_num n (h.top * 10 ^ (h.zeros - x.down))) (sym neg) ∙ sym (whole_is h some c.if-zeros-places.true)

pub returns-then-places-zeros-eq1 : goal.returns-then-places-zeros-eq1
returns-then-places-zeros-eq1 c = λ x neg h.
    let some : c.args.significant ≡ Some 0 → ⊥ = is_not c.args.significant 0 c.if-eq.ensures in
    let eleven : c.args.significant ≡ Some 11 = is_it c.args.significant 11 c.if-eq-2.ensures in
    sym (eleven_tenths h some c.if-zeros-places.false (neg ∙ c.if-not-negative.true) eleven c.if-places-zeros-eq1.true)

pub returns : goal.returns
returns c = λ x neg h.
    let some : c.args.significant ≡ Some 0 → ⊥ = is_not c.args.significant 0 c.if-eq.ensures in
    sym (no_eleven_tenths h some c.if-zeros-places.false (λ positive eleven one. elim c.else-not-negative.branch [
      | else-not-negative-via-then-not-negative+then-eq-2+else-places-zeros-eq1 w ↦ w.if-places-zeros-eq1.false one
      | else-not-negative-via-then-not-negative+else-eq-2 w ↦ is_not c.args.significant 11 w.if-eq-2.ensures eleven
      | else-not-negative-via-else-not-negative w ↦ true≢false (sym w.if-not-negative.false ∙ sym neg ∙ positive)
    ]))
