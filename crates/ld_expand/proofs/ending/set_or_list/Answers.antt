use Rattle.ld_expand.proofs.Endings.{set_kept}
use Rattle.ld_expand.proofs.ending.set_or_list.Goals as goal

pub returns : goal.returns
returns c stock = set_kept stock c.args.entries c.list_types.new.entries c.end_listed.result c.in_ok-list_types.ensures (c.end_listed.ensures stock)
