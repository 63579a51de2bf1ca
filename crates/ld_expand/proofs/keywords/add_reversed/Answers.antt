use Rattle.std.proofs.Common.{◌∙◌, ap, Option, Some}
use Rattle.ld_tree.specs.declared.tree.Tree.{Tree}
use Rattle.ld_rec.specs.Kinds.{map_of}
use Rattle.ld_rec.specs.Expansion.{add_reversed}
use Rattle.ld_expand_value.proofs.Maps.{map_is}
use Rattle.ld_expand.proofs.Stages.{gives_same}
use Rattle.ld_expand.proofs.keywords.add_reversed.Goals as goal

pub returns-in-Map : goal.returns-in-Map
returns-in-Map c stock =
    gives_same (λ _. c.add_reverse_map.new.made) c.add_reverse_map.result ((add_reversed (Some (map_of c.in-Map.entries)) c.args.made.now).run stock).result _
    (ap (λ (o : Option Tree). ((add_reversed o c.args.made.now).run stock).result) (c.in-Some.is ∙ ap Some (c.in-Map.is ∙ map_is c.in-Map.entries)))
    (c.add_reverse_map.ensures stock)
