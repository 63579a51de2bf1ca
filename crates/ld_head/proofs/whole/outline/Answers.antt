use Rattle.std.proofs.Common.{arith}
use Rattle.ld_head.specs.declared.dialogue.Ending.TheVariants.{Shut}
use Rattle.ld_head.specs.Dialogues.{Marked, before, silence, stops, shuts}
use Rattle.ld_head.specs.Reading.{item_of}
use Rattle.ld_head.proofs.Counting.{goes_on_few, leads_on}
use Rattle.ld_head.proofs.whole.outline.Goals as goal

pub returns-in-Ended : goal.returns-in-Ended
returns-in-Ended c =
    let l = c.loop-ending in
    let e = l.invariant.1 (silence c.in-Ended.ending) (stops l.items l.rest.now c.in-Ended.ending c.in-Ended.ensures) in
    record { dialogue = e.whole; says = e.says; items = let i = e.items in omega arith; ending = e.ending }

pub returns-in-Last : goal.returns-in-Last
returns-in-Last c =
    let l = c.loop-ending in
    let item : Marked = record { item = item_of c.in-Last.field-0; marks = c.in-Last.field-1 } in
    let e = l.invariant.1 (before item (silence Shut)) (shuts l.items l.rest.now item c.in-Last.ensures) in
    record { dialogue = e.whole; says = e.says; items = let i = e.items in omega arith; ending = e.ending }

pub loop-ending-preserved : goal.loop-ending-preserved
loop-ending-preserved c =
    let l = c.loop-ending in
    let item : Marked = record { item = item_of c.in-Item.field-0; marks = c.in-Item.field-1 } in
    let few = goes_on_few l.items l.rest.now c.in-Item.after.now item c.in-Item.ensures in
    (omega arith, leads_on c.args.bytes.now l.rest.now c.in-Item.after.now l.items item l.invariant.1 c.in-Item.ensures)
