use Rattle.std.proofs.Common.{sym, subst}
use Rattle.ld_talk.specs.Hearing.{requested}
use Rattle.ld_session.specs.Requesting.{Requested}
use Rattle.ld_session.proofs.desk.Desk.reply.Goals as goal

pub returns-in-Eviction : goal.returns-in-Eviction
returns-in-Eviction g c =
    let loader = g.L.Loader.loading c.args.loader.now in
    subst (λ r. Requested c.args.visit c.eviction.result.0 loader loader (requested r) c.eviction.result.1) (sym c.in-Eviction.is) (c.eviction.ensures loader)
