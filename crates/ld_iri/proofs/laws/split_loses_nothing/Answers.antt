use Rattle.ld_iri.proofs.Joined.{recomposed-parts}
use Rattle.ld_iri.proofs.laws.split_loses_nothing.Goals as goal

pub returns : goal.returns
returns c = recomposed-parts c.args.text.now
