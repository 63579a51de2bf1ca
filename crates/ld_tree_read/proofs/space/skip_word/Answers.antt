use Rattle.std.proofs.Common.{◌≡◌, ◌∙◌, refl, sym, ap, ap₂, Some, [], ◌∷◌, ◌++◌, ◌+◌, suc, get_or, take, drop, drop-cons, length, arith, append_assoc}
use Rattle.std.proofs.lemmas.List.{take_more}
use Rattle.ld_tree_read.specs.Cursor.{left, ahead}
use Rattle.ld_tree_read.specs.Refusals.{refusal, plain_refusal}
use Rattle.ld_tree_read.specs.Steps.{word_here}
use Rattle.ld_tree_read.proofs.Between.{word_goes, word_stops}
use Rattle.ld_tree_read.proofs.space.skip_word.Goals as goal

pub returns-then-not-eat-clause-stops : goal.returns-then-not-eat-clause-stops
returns-then-not-eat-clause-stops c = λ fs.
    let d = c.loop-byte.cursor in
    let rest = c.args.rest.now in
    let i = c.loop-byte.byte-index in
    c.loop-byte.invariant.leads fs ∙ ap (λ w. ahead d fs (word_here w)) (drop-cons rest i 0 c.loop-byte-test.true)
    ∙ word_stops d.at fs (get_or rest i 0) (drop (suc i) rest) (left d) (c.if-not-eat.ensures.other refl)
    ∙ ap₂ (λ n bs. Some (plain_refusal n bs)) (sym (c.if-not-eat.ensures.still refl)) (sym (c.if-not-eat.ensures.unmoved refl)) ∙ ap Some (sym c.no_text.ensures)

pub loop-byte-preserved : goal.loop-byte-preserved
loop-byte-preserved c =
    let d = c.loop-byte.cursor in
    let e = c.eat.new.self in
    let rest = c.args.rest.now in
    let i = c.loop-byte.byte-index in
    record {
      passed = c.loop-byte.invariant.passed ∙ ap (λ bs. take i rest ++ bs) (c.if-not-eat.ensures.eaten refl)
          ∙ sym (append_assoc (take i rest) (get_or rest i 0 ∷ []) (left e)) ∙ ap (λ xs. xs ++ left e) (sym (take_more rest i 0 c.loop-byte-test.true));
      leads = λ fs.
          c.loop-byte.invariant.leads fs ∙ ap (λ w. ahead d fs (word_here w)) (drop-cons rest i 0 c.loop-byte-test.true)
          ∙ ap (refusal d.at fs (word_here (get_or rest i 0 ∷ drop (suc i) rest))) (c.if-not-eat.ensures.eaten refl)
          ∙ word_goes d.at fs (get_or rest i 0) (drop (suc i) rest) (left e) ∙ ap (λ n. refusal n fs (word_here (drop (suc i) rest)) (left e)) (sym (c.if-not-eat.ensures.at refl))
          ∙ ap (λ n. ahead e fs (word_here (drop n rest))) (let s : suc i ≡ i + 1 = omega arith in s);
      shorter = omega (arith, c.loop-byte.invariant.shorter, ap length (c.if-not-eat.ensures.eaten refl));
    }
