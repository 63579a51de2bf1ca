use Rattle.std.proofs.Common.{ap, ◌∙◌}
use Rattle.ld_tree.specs.Maps.{put, empty}
use Rattle.ld_term.proofs.kinds.only_id.Goals as goal

pub returns-in-Ok : goal.returns-in-Ok
returns-in-Ok c = c.in-Ok.ensures.map ∙ ap (λ m. put m c.in_ok-name.name c.args.value) c.new_entries-entries.ensures ∙ ap (λ n. put empty n c.args.value) c.in_ok-name.ensures
