use Rattle.std.proofs.Common.{◌≡◌, ◌∙◌, ◌+◌, ◌++◌, length, sym, ap, subst}
use Rattle.ld_script.specs.Scripts.{text_of, AreGood}
use Rattle.ld_script.specs.Reading.{IsLine}
use Rattle.ld_script.proofs.Scripts.{no_line, some_left, stops, goes_on, good_more, one_longer}
use Rattle.ld_script.proofs.script.read_lines.Goals as goal

pub returns-in_default-2-clause-bad_line : goal.returns-in_default-2-clause-bad_line
returns-in_default-2-clause-bad_line c = λ line e.
    let same : c.loop-rest.number ≡ line = cc in
    let kept = c.loop-rest.invariant in
    stops c.loop-rest.lines.items kept.good kept.split kept.counted same
    (some_left c.loop-rest.rest.now c.is_empty.result c.is_empty.ensures c.loop-rest-test.true)
    (no_line c.in-Some.ensures (subst (IsLine c.in-Some.line.now) c.in_default-2.is c.in_ok-line.ensures))

pub loop-rest-preserved : goal.loop-rest-preserved
loop-rest-preserved c =
    let kept = c.loop-rest.invariant in
    let read = subst (IsLine c.in-Some.line.now) c.in-Some-2.is c.in_ok-line.ensures in
    let lines = c.loop-rest.lines.items in
    let line = c.in-Some-2.line in
    let longer = sym c.in_ok-keep.ensures in
    record {
      good = subst AreGood longer (good_more lines line kept.good read.0);
      split = goes_on c.in-Some.after.now lines line kept.split c.in-Some.ensures.parts read.1 ∙ ap (λ ls. text_of ls ++ c.in-Some.after.now) longer;
      counted = one_longer lines line c.args.first c.loop-rest.number kept.counted ∙ ap (λ ls. c.args.first + length ls) longer;
    }
