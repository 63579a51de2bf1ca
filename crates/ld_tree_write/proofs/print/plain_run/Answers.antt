use Rattle.std.proofs.Common.{sym, subst, ap, ◌∙◌, take, drop, length, ◌++◌, ◌≡◌, ◌<◌, arith}
use Rattle.std.specs.Prelude.{slice_index, IsTrue}
use Rattle.std.proofs.lemmas.List.Sums.{prefix_len-le-length}
use Rattle.ld_tree.specs.Reading.{is_unescaped}
use Rattle.ld_tree.specs.CompactText.{escaped, needs_escape}
use Rattle.ld_tree_write.proofs.Escapes.{plain_front, run_ended}
use Rattle.ld_tree_write.proofs.print.plain_run.Goals as goal

pub returns-clause-within : goal.returns-clause-within
returns-clause-within c = omega (arith, c.plain_len.ensures, prefix_len-le-length is_unescaped c.args.bytes.now)

pub returns-clause-plain : goal.returns-clause-plain
returns-clause-plain c =
    let bytes = c.args.bytes.now in
    subst (λ n. escaped bytes ≡ take n bytes ++ escaped (drop n bytes)) (sym c.plain_len.ensures) (plain_front bytes)

pub returns-clause-ended : goal.returns-clause-ended
returns-clause-ended c =
    let bytes = c.args.bytes.now in
    subst (λ n. n < length bytes → IsTrue (needs_escape (slice_index bytes n))) (sym c.plain_len.ensures) (run_ended bytes)
