use Rattle.ld_expand_value.proofs.Maps.{one_made}
use Rattle.ld_expand_value.proofs.making.one_entry.Goals as goal

pub returns : goal.returns
returns c = one_made c.empty-entries.result c.put.new.entries c.args.name.now c.args.value c.in_ok-put.ensures c.empty-entries.ensures
