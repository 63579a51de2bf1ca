use Rattle.ld_ctx.specs.Flat.{flat}
use Rattle.ld_rec.specs.Processing.{processed_in}
use Rattle.ld_context.specs.Calls.{invocation}
use Rattle.std.proofs.Common.{◌-◌, Ok, Err, subst}
use Rattle.ld_context.specs.Tells.{Tells, tallied}
use Rattle.ld_context.proofs.Levels.{counts_itself}
use Rattle.ld_context.proofs.Telling.{told_count}
use Rattle.ld_context.proofs.walk.process_with.Goals as goal

pub returns-in_ok-settled-in-Ok-clause-count : goal.returns-in_ok-settled-in-Ok-clause-count
returns-in_ok-settled-in-Ok-clause-count c =
    let ask = invocation c.args.inputs c.args.remote (flat c.args.active) c.args.local.now in
    let itself = counts_itself ask (33 - c.args.inputs.depth) c.args.stock.now in
    told_count flat c.args.runs.now c.process_in.new.runs ((processed_in (33 - c.args.inputs.depth) ask).run c.args.stock.now) (Ok c.in-Ok.made) itself.0 itself.1
    (subst (λ n. Tells flat c.process_in.new.runs (Ok c.in-Ok.made) (tallied c.args.runs.now ((processed_in n ask).run c.args.stock.now))) c.saturating_sub-levels.ensures c.in-Ok.ensures)

pub returns-in-Err-clause-count : goal.returns-in-Err-clause-count
returns-in-Err-clause-count c =
    let ask = invocation c.args.inputs c.args.remote (flat c.args.active) c.args.local.now in
    let itself = counts_itself ask (33 - c.args.inputs.depth) c.args.stock.now in
    told_count flat c.args.runs.now c.process_in.new.runs ((processed_in (33 - c.args.inputs.depth) ask).run c.args.stock.now) (Err c.in-Err.e) itself.0 itself.1
    (subst (λ n. Tells flat c.process_in.new.runs (Err c.in-Err.e) (tallied c.args.runs.now ((processed_in n ask).run c.args.stock.now))) c.saturating_sub-levels.ensures c.in-Err.ensures)
