use Rattle.std.proofs.Common.{subst}
use Rattle.ld_talk.specs.Hearing.{requested}
use Rattle.ld_talk.specs.Talking.{IsReplied}
use Rattle.ld_visit.specs.Visits.{Visiting}
use Rattle.ld_session.specs.Serving.{IsFull, Moving}
use Rattle.ld_session.proofs.Requesting.{replied_moving}
use Rattle.ld_session.proofs.session.SessionRequests.request.Goals as goal

pub returns : goal.returns
returns g c =
    let later = c.reply-visit.result.0 in
    let before = g.L.Loader.loading c.args.outside.now in
    let after = g.L.Loader.loading c.reply-visit.new.loader in
    subst (λ (v : Visiting). IsReplied (Moving v later before after) (IsFull later.limits later.pages) (requested c.args.request) c.reply-visit.result.1) c.self.view_is
    (replied_moving c.self.inside.visit later before after (requested c.args.request) c.reply-visit.result.1 c.reply-visit.ensures)
