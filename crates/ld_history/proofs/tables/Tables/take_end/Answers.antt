use Rattle.std.proofs.Common.{◌+◌, None, sym, ap, ◌∙◌}
use Rattle.ld_history.specs.Store.{Store}
use Rattle.ld_history.specs.Seen.{seen}
use Rattle.ld_history.specs.After.{after_event}
use Rattle.ld_history.proofs.Readied.{ending_evicts}
use Rattle.ld_history.proofs.tables.Tables.take_end.Goals as goal

pub returns : goal.returns
returns c =
    ap (λ (s : Store). record s { events = c.args.self.now.events + 1; evicted = None }) c.end.ensures
    ∙ ap (λ e. record (after_event (seen c.args.self.now) None c.args.event.now) { events = c.args.self.now.events + 1; evicted = e }) (sym (ending_evicts (seen c.args.self.now) c.args.event.now c.requires.ends))
