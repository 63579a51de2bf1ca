use Rattle.std.proofs.Common.{◌∷◌, [], ◌++◌, take, get_or, sym, subst, ap, ◌∙◌, arith, append_assoc, append-nil}
use Rattle.std.proofs.lemmas.List.{take_more, take_all}
use Rattle.ld_tree_read.specs.Digits.{Stands}
use Rattle.ld_tree_read.proofs.Powers.{digit_back}
use Rattle.ld_tree_read.proofs.decimal.with_digits.Goals as goal

pub loop-byte-init : goal.loop-byte-init
loop-byte-init c = record { stands = λ ds h. subst (λ ds. Stands c.args.digits.significant c.args.digits.zeros ds) (sym (append-nil ds)) h; few = omega arith }

pub with_digit-all-requires-clause-room : goal.with_digit-all-requires-clause-room
with_digit-all-requires-clause-room c = omega (arith, c.loop-byte.invariant.few, c.loop-byte-test.true, c.requires.room)

pub loop-byte-preserved : goal.loop-byte-preserved
loop-byte-preserved c =
    let i = c.loop-byte.byte-index in
    let more = c.args.more.now in
    let byte = get_or more i 0 in
    let all = c.with_digit-all.result in
    let back = digit_back byte (c.requires.each i c.loop-byte-test.true) in
    record {
      stands = λ ds h.
          let next = c.with_digit-all.ensures.stands (ds ++ take i more) (c.loop-byte.invariant.stands ds h) in
          subst (λ l. Stands all.significant all.zeros l) (ap (λ b. (ds ++ take i more) ++ b ∷ []) back ∙ append_assoc ds (take i more) (byte ∷ []) ∙ ap (λ l. ds ++ l) (sym (take_more more i 0 c.loop-byte-test.true))) next;
      few = omega (arith, c.with_digit-all.ensures.few, c.loop-byte.invariant.few);
    }

pub returns-clause-stands : goal.returns-clause-stands
returns-clause-stands c = λ ds h. subst (λ l. Stands c.loop-byte.all.significant c.loop-byte.all.zeros (ds ++ l)) (take_all c.loop-byte.byte-index c.args.more.now c.loop-byte-test.false) (c.loop-byte.invariant.stands ds h)

pub returns-clause-few : goal.returns-clause-few
returns-clause-few c = omega (arith, c.loop-byte.invariant.few, c.loop-byte.auto.byte-index-end)
