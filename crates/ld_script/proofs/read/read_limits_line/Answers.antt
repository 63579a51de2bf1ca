use Rattle.std.proofs.Common.{◌∙◌, sym, ap, true≢false, nat_eq}
use Rattle.std.specs.Prelude.{codes}
use Rattle.std.specs.Cmp.Lexicographic.{pointwise}
use Rattle.ld_script.proofs.Arguments.{same_front}
use Rattle.ld_script.proofs.Apart.{limits_line_words}
use Rattle.ld_script.proofs.read.read_limits_line.Goals as goal

pub returns-else-eq : goal.returns-else-eq
returns-else-eq c = λ l w e.
    let name = same_front c.in_ok-word.ensures (limits_line_words l e) in
    true≢false
    (sym (c.if-eq.ensures ∙ ap (pointwise nat_eq c.in_ok-word.word.now) c.as_slice.ensures ∙ ap (λ word. pointwise nat_eq word (codes "limits")) name))
