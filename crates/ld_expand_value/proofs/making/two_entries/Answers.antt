use Rattle.ld_expand_value.proofs.Maps.{two_made}
use Rattle.ld_expand_value.proofs.making.two_entries.Goals as goal

pub returns : goal.returns
returns c =
    two_made c.empty-entries.result c.put.new.entries c.put-2.new.entries c.args.name.now c.args.other_name.now c.args.value c.args.other
    c.in_ok-put-2.ensures c.in_ok-put.ensures c.empty-entries.ensures
