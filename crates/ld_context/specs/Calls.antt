-- What the definitions see of the inputs of a call.
use Rattle.std.specs.Prelude.{ℕ, List, [], Option, Result}
use Rattle.ld_tree.specs.Names.{Sorted}
use Rattle.ld_tree.specs.declared.tree.Tree.{Tree}
use Rattle.ld_tree.specs.declared.tree.Tree.TheOpen.{Tree-F}
use Rattle.ld_tree.specs.declared.tree.Tree.TheVariants as tree
use Rattle.ld_rec.specs.declared.stop.Stop.{Stop}
use Rattle.ld_rec.specs.Outcome.{Answer, give, ◌>>=◌}
use Rattle.ld_rec.specs.Records.{Context, fresh}
use Rattle.ld_rec.specs.Processing as processing
use Rattle.ld_ctx.specs.declared.ctx.Ctx.{Ctx}
use Rattle.ld_ctx.specs.Flat.{flat}
use Rattle.ld_term.specs.Comes.{Comes}
use Rattle.ld_context.specs.declared.inputs.Call.{Call}
use Rattle.ld_context.specs.declared.inputs.Inputs.{Inputs}
use Rattle.ld_context.specs.declared.inputs.Progress.{Progress}

-- a step that asks for no document
abbrev pub Makes : Result Ctx Stop → Answer Context → Type 0
Makes result o = Comes (λ ctx. give (flat ctx)) result o

abbrev pub progress_of : Progress → processing.Progress
progress_of progress = record { context = flat progress.ctx; remote = progress.remote }

abbrev pub invocation : Inputs → List (List ℕ) → Context → Tree → processing.Ask
invocation inputs remote active local = record {
  active = active;
  local = local;
  base = inputs.base;
  remote = remote;
  over = inputs.over;
  propagate = inputs.propagate;
  validate = inputs.validate;
  depth = inputs.depth;
}

-- what an item needs of its invocation: of the active context the original base URL alone, and nothing of the local
-- context and of the remote contexts that it began with
abbrev pub item_ask : Call → processing.Ask
item_ask call = invocation call.inputs [] (fresh call.first_base) tree.Null

-- 5.6 to 5.13
abbrev pub with_import : processing.Again → processing.Ask → processing.Progress → Sorted Tree → Option (Tree-F Tree) → Answer processing.Progress
with_import again ask progress entries value = processing.import_in ask.base entries value >>= processing.by_entries again ask progress
