use Rattle.std.proofs.Common.{ap, ◌∙◌}
use Rattle.ld_tree.specs.Names.{Sorted}
use Rattle.ld_tree.specs.Maps.{find as value_at}
use Rattle.ld_tree.proofs.Texts.{lookup_named}
use Rattle.ld_tree.proofs.name_map.NameMap.get.Goals as goal

pub returns : goal.returns
returns g c = c.get.ensures.value ∙ lookup_named c.args.name.now c.self.inside.by_name.entries ∙ ap (λ (s : Sorted g.row.T.Denot). value_at s c.args.name.now) c.self.view_is
