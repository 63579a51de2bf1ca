use Rattle.std.proofs.Common.{◌∙◌, refl, subst}
use Rattle.ld_history.specs.Legal.{state}
use Rattle.ld_book.specs.Pages.{entries_of}
use Rattle.ld_visit.specs.Taking.{Looks}
use Rattle.ld_session.proofs.Flights.{led_on, no_loader, seen_landed, waited_more, waited_none}
use Rattle.ld_session.proofs.desk.Desk.watch.Goals as goal

pub loop-init : goal.loop-init
loop-init g c loader = waited_none c.args.visit loader c.requires.sound

pub look-next-requires-clause-lock : goal.look-next-requires-clause-lock
look-next-requires-clause-lock g c = (c.loop.invariant no_loader).lock_is ∙ c.requires.lock

pub look-next-requires-clause-led : goal.look-next-requires-clause-led
look-next-requires-clause-led g c = led_on c.args.visit.pages c.loop.visit.pages (c.loop.invariant no_loader).grows c.args.flight c.requires.led

pub returns-in-Some-landing_of : goal.returns-in-Some-landing_of
returns-in-Some-landing_of g c loader =
    let t = c.look-next.ensures in
    seen_landed c.args.visit c.loop.visit c.look-next.result.0 c.args.flight c.look-next.result.1 t c.in-Some-landing_of.landing c.in-Some-landing_of.ensures loader (c.loop.invariant loader)

pub loop-preserved : goal.loop-preserved
loop-preserved g c loader = let t = c.look-next.ensures in waited_more c.args.visit c.loop.visit c.look-next.result.0 (Looks c.args.flight c.look-next.result.1) t t.took.1 loader (c.loop.invariant loader)
