use Rattle.std.proofs.Common.{◌∙◌, [], ap}
use Rattle.ld_visit.specs.Visits.{Visiting}
use Rattle.ld_session.proofs.serving.converse.Goals as goal

pub returns-clause-lock : goal.returns-clause-lock
returns-clause-lock g c = ap (λ (v : Visiting). v.lock) c.session.view_is ∙ (c.talk-session.ensures.talked.4.told.moved [] c.requires.sound).lock_is ∙ c.requires.lock
