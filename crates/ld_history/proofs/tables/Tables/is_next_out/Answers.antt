use Rattle.std.proofs.Common.{◌∙◌}
use Rattle.ld_history.specs.Seen.{seen}
use Rattle.ld_history.proofs.Ordered.{goes_now, goes_never}
use Rattle.ld_history.proofs.FirstGoes.{first_or_none}
use Rattle.ld_history.proofs.tables.Tables.is_next_out.Goals as goal

pub returns-in-Some : goal.returns-in-Some
returns-in-Some c = let t = c.args.self.now in c.eq.ensures ∙ goes_now (seen t) t.order.published.entries t.ordered (first_or_none t) c.args.iri.now c.in-Some.out.now c.in-Some.ensures

pub returns-in-None : goal.returns-in-None
returns-in-None c = let t = c.args.self.now in goes_never (seen t) t.order.published.entries t.ordered (first_or_none t) c.args.iri.now c.in-None.ensures
