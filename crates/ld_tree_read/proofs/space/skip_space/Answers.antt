use Rattle.std.proofs.Common.{◌∙◌, sym, ap, ap₂, subst, ◌+◌, drop, length, arith}
use Rattle.std.specs.List.{prefix_len}
use Rattle.std.proofs.lemmas.List.Sums.{prefix_len-le-length}
use Rattle.ld_tree_read.specs.Cursor.{left}
use Rattle.ld_tree_read.proofs.Words.{past_run}
use Rattle.ld_tree_read.specs.Refusals.{refusal}
use Rattle.ld_tree.specs.Reading.{is_white}
use Rattle.ld_tree_read.specs.Steps.{NoWhite}
use Rattle.ld_tree_read.proofs.Between.{white_none}
use Rattle.ld_tree_read.proofs.Follows.{run, run_ends}
use Rattle.ld_tree_read.proofs.space.skip_space.Goals as goal

pub advance-requires : goal.advance-requires
advance-requires c = omega (arith, c.white_len-count.ensures, prefix_len-le-length is_white c.rest.result.now, ap length c.rest.ensures)

pub returns-clause-leads : goal.returns-clause-leads
returns-clause-leads c = λ here spaced fs.
    let bs = left c.args.cursor.now in
    let at = c.args.cursor.now.at in
    let count = c.white_len-count.ensures ∙ ap (prefix_len is_white) c.rest.ensures in
    run is_white here fs (λ at b bs e. white_none at fs here b bs e) (spaced fs) at bs
    ∙ ap (λ n. refusal (at + n) fs here (drop n bs)) (sym count) ∙ ap₂ (λ n bs. refusal n fs here bs) (sym c.advance.ensures.at) (sym c.advance.ensures.left)

pub returns-clause-ends : goal.returns-clause-ends
returns-clause-ends c =
    let bs = left c.args.cursor.now in
    let count = c.white_len-count.ensures ∙ ap (prefix_len is_white) c.rest.ensures in
    subst NoWhite (sym (c.advance.ensures.left ∙ ap (λ n. drop n bs) count)) (λ b r e. run_ends is_white bs b r e)

pub returns-clause-space : goal.returns-clause-space
returns-clause-space c = c.advance.ensures.left ∙ ap (λ n. drop n (left c.args.cursor.now)) (c.white_len-count.ensures ∙ ap (prefix_len is_white) c.rest.ensures) ∙ past_run (left c.args.cursor.now)
