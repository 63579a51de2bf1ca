use Rattle.std.proofs.Common.{sym, subst}
use Rattle.ld_ctx.specs.Asks.{asked}
use Rattle.ld_rec.specs.Promises.{KeepsAsk}
use Rattle.ld_compact.proofs.Keeping.{promised}
use Rattle.ld_compact.proofs.contexts.apply.Goals as goal

pub returns-clause-promises : goal.returns-clause-promises
returns-clause-promises g c =
    promised g.W.Kept.View.flat (g.W.Contexts.stock c.args.work.now) (asked g.W.Kept.View.flat c.in_ok-ask.ask) c.context.result
    (subst KeepsAsk (sym c.in_ok-ask.ensures.ask) (record { active = c.requires.promises; base = c.requires.base })) c.context.ensures.answer
