use Rattle.std.proofs.Common.{◌≡◌, ◌∙◌, sym, ap, subst, take, drop, length, ◌+◌, arith}
use Rattle.std.proofs.lemmas.List.{length-drop}
use Rattle.std.proofs.lemmas.List.Sums.{prefix_len-le-length}
use Rattle.std.specs.List.{prefix_len}
use Rattle.std.specs.Str.{IsUtf8}
use Rattle.ld_tree.specs.Reading.{is_unescaped}
use Rattle.ld_tree_read.specs.Cursor.{left}
use Rattle.ld_tree_read.proofs.Glides.{Glides, over_run, glides_to}
use Rattle.ld_tree_read.specs.State.{plain}
use Rattle.ld_tree_read.proofs.string.read_run.Goals as goal

pub advance-requires : goal.advance-requires
advance-requires c = omega (arith, c.plain_len-count.ensures, prefix_len-le-length is_unescaped c.rest-rest.result.now, ap length c.rest-rest.ensures)

pub returns-in_ok-push_str-in-Ok-clause-leads : goal.returns-in_ok-push_str-in-Ok-clause-leads
returns-in_ok-push_str-in-Ok-clause-leads c =
    let bs = left c.args.cursor.now in
    let count = c.plain_len-count.ensures ∙ ap (prefix_len is_unescaped) c.rest-rest.ensures in
    let utf8 = subst (λ n. IsUtf8 (take n bs)) count (subst (λ xs. IsUtf8 (take c.plain_len-count.result xs)) c.rest-rest.ensures c.in-Ok.ensures.cases.1) in
    let le = prefix_len-le-length is_unescaped bs in
    let gone = c.advance.ensures.left ∙ ap (λ n. drop n bs) count in
    let long : length bs ≡ prefix_len is_unescaped bs + length (left c.advance.new.self) = omega (arith, ap length gone, length-drop (prefix_len is_unescaped bs) bs, le) in
    glides_to c.args.cursor.now c.advance.new.self (prefix_len is_unescaped bs) long (c.advance.ensures.at ∙ ap (λ n. c.args.cursor.now.at + n) count)
    (subst (λ r. Glides plain bs plain r) (sym gone) (over_run bs utf8))
