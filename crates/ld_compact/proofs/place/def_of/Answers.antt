use Rattle.std.specs.Prelude.{option_copied}
use Rattle.ld_compact.proofs.Keeping.{def_kept}
use Rattle.ld_compact.proofs.place.def_of.Goals as goal

pub returns-clause-keeps : goal.returns-clause-keeps
returns-clause-keeps g c = def_kept (g.K.View.flat c.args.view.now) c.args.term.now (option_copied c.def.result) c.requires c.def.ensures
