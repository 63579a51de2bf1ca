use Rattle.std.proofs.Common.{ap, ◌∙◌}
use Rattle.ld_tree.specs.Names.{Sorted, same_sorted}
use Rattle.ld_tree.proofs.name_map.NameMap.into_entries.Goals as goal

pub returns-in-Ok-clause-ok : goal.returns-in-Ok-clause-ok
returns-in-Ok-clause-ok g c = same_sorted _ _ (c.from_sorted.ensures ∙ c.moved_into.ensures ∙ ap (λ (s : Sorted g.row.T.Denot). s.0) c.self.view_is)
