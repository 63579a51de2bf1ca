use Rattle.ld_tree_read.specs.declared.refusal.ReadRefusal.TheVariants as r
use Rattle.std.proofs.Common.{◌∙◌, refl, sym, ap, Some}
use Rattle.ld_tree_read.specs.Cursor.{left}
use Rattle.ld_tree_read.specs.State.{begun, tail, rest_left}
use Rattle.ld_tree_read.proofs.Inner.{on_in, next_left, tail_step, tail_stops}
use Rattle.ld_tree_read.proofs.character.eat_tail.Goals as goal

pub returns-then-not-is_within-clause-stops : goal.returns-then-not-is_within-clause-stops
returns-then-not-is_within-clause-stops c = λ more n fs. tail_stops c.args.cursor.now.at n fs (tail c.args.low c.args.high more) (left c.args.cursor.now) (c.if-not-is_within.ensures.none refl) ∙ ap (λ n. Some (r.NotUtf8 n)) (sym c.at-at.ensures)

pub returns-clause-leads : goal.returns-clause-leads
returns-clause-leads c = λ more n fs.
    let d = c.args.cursor.now in
    let next = c.if-not-is_within.ensures.yes refl in
    on_in d c.advance.new.self n fs (begun (tail c.args.low c.args.high more)) (rest_left more) next.0 (next_left (left d) (left c.advance.new.self) next.1 next.0 next.2 c.advance.ensures.left) c.advance.ensures.at refl
    (tail_step (tail c.args.low c.args.high more) next.0 next.3)

pub returns-clause-passed : goal.returns-clause-passed
returns-clause-passed c =
    let d = c.args.cursor.now in
    let next = c.if-not-is_within.ensures.yes refl in
    (next.0, next_left (left d) (left c.advance.new.self) next.1 next.0 next.2 c.advance.ensures.left, next.3)
