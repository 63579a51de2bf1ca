use Rattle.std.proofs.Common.{min, sym, ap₂, ◌∙◌}
use Rattle.ld_tree.proofs.Blocks.{least_run}
use Rattle.ld_tree.proofs.plain.run_in_block.Goals as goal

pub returns : goal.returns
returns c = c.min-2.ensures ∙ ap₂ min c.run_before-quote.ensures (c.min.ensures ∙ ap₂ min c.run_before-backslash.ensures c.run_before_control-control.ensures) ∙ sym (least_run c.args.block)
