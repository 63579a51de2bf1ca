use Rattle.std.proofs.Common.{◌∙◌, ap}
use Rattle.ld_tree.specs.Maps.{empty, put}
use Rattle.ld_tree.specs.Names.{Sorted}
use Rattle.ld_tree.specs.declared.tree.Tree.{Tree}
use Rattle.ld_nodes.proofs.Made.{map_made}
use Rattle.ld_nodes.proofs.make.one_entry.Goals as goal

pub returns : goal.returns
returns c =
    map_made c.put_named.new.entries (put empty c.args.name.now c.args.value)
    (c.in_ok-put_named.ensures ∙ ap (λ (s : Sorted Tree). put s c.args.name.now c.args.value) c.no_entries-entries.ensures)
