use Rattle.std.proofs.Common.{arith}
use Rattle.ld_book.proofs.Counting.{counts}
use Rattle.ld_book.proofs.contexts.lead.Goals as goal

pub lead-requires : goal.lead-requires
lead-requires c =
    let fits = counts c.args.history.now.limits c.args.history.now.entries c.requires.within c.events-events.ensures.legal in
    omega (arith, fits.flights, c.requires.next)
