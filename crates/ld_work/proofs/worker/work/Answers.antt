use Rattle.std.proofs.Common.{◌≡◌, ◌∙◌, refl}
use Rattle.ld_work.proofs.Underway.{underway_last, underway_more, underway_none, underway_same}
use Rattle.ld_work.proofs.worker.work.Goals as goal

pub loop-init : goal.loop-init
loop-init g c =
    (refl, refl, c.requires.free, underway_none g.D.Door.doorway g.L.Loader.loading c.args.every c.args.job.seats.book.front c.args.job.post c.args.job.post c.new-log.result refl c.new-log.ensures.sessions c.new-log.ensures.rounds)

pub loop-preserved : goal.loop-preserved
loop-preserved g c =
    let s = c.serve_one-seats in
    let doorway = g.D.Door.doorway in
    let loading = g.L.Loader.loading in
    let u = underway_same doorway loading c.args.every c.loop.seats.book.front c.args.job.post c.loop.post c.loop.log c.reserve.new.self c.loop.invariant.3 c.reserve.ensures.sessions c.reserve.ensures.rounds in (
      s.ensures.lock ∙ c.loop.invariant.0,
      s.ensures.library ∙ c.loop.invariant.1,
      s.ensures.free,
      underway_more doorway loading c.args.every c.loop.seats.book.front s.result.book.front c.args.job.post c.loop.post c.take_link.new.post s.new.post c.reserve.new.self s.new.log (g.D.Door.sides c.in-Some-take_link.link) u
          c.in-Some-take_link.ensures.some c.take_link.ensures.loader s.ensures.seen s.ensures.serves,
    )

pub returns-in_default : goal.returns-in_default
returns-in_default g c =
    let doorway = g.D.Door.doorway in
    let loading = g.L.Loader.loading in
    let u = underway_same doorway loading c.args.every c.loop.seats.book.front c.args.job.post c.loop.post c.loop.log c.reserve.new.self c.loop.invariant.3 c.reserve.ensures.sessions c.reserve.ensures.rounds in
    record {
      book = c.loop.invariant.0;
      library = c.loop.invariant.1;
      worked = underway_last doorway loading c.args.every c.loop.seats.book.front c.args.job.post c.loop.post c.take_link.new.post c.reserve.new.self u c.in_default.ensures.none c.take_link.ensures.loader;
    }
