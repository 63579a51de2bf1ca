use Rattle.std.proofs.Common.{◌∙◌, sym, ap, Some, []}
use Rattle.ld_tree_read.specs.Cursor.{left}
use Rattle.ld_tree_read.specs.State.{done}
use Rattle.ld_tree_read.proofs.Between.{spaced_done, text_ends, text_goes_on}
use Rattle.ld_tree_read.proofs.parse.finish.Goals as goal

pub returns-in-None-clause-ends : goal.returns-in-None-clause-ends
returns-in-None-clause-ends c = let d = c.skip_space.new.cursor in c.skip_space.ensures.leads done spaced_done [] ∙ text_ends d.at (left d) c.in-None.ensures.none

pub returns-in-Some-clause-stops : goal.returns-in-Some-clause-stops
returns-in-Some-clause-stops c =
    let d = c.skip_space.new.cursor in
    let next = c.in-Some.ensures.some in
    c.skip_space.ensures.leads done spaced_done [] ∙ text_goes_on d.at (left d) c.in-Some.field-0 next.0 c.skip_space.ensures.ends next.1 ∙ ap Some (sym c.no_text.ensures)
