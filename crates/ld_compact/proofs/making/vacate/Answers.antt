use Rattle.std.proofs.Common.{◌∙◌, ap}
use Rattle.ld_tree.specs.Names.{Sorted}
use Rattle.ld_tree.specs.Maps.{put}
use Rattle.ld_compact.proofs.Maps.{put_twice}
use Rattle.ld_compact.proofs.making.vacate.Goals as goal

pub returns-in-Ok-clause-rest : goal.returns-in-Ok-clause-rest
returns-in-Ok-clause-rest g c value =
    ap (λ (m : Sorted g.row.T.Denot). put m c.args.name.now value) c.in-Ok.ensures.map ∙ put_twice c.args.map.now c.args.name.now c.args.blank value
