-- The definitions that `Terms` stand for.
use Rattle.ld_tree.specs.Names.{Sorted}
use Rattle.ld_rec.specs.declared.def.Def.{Def}
use Rattle.ld_ctx.specs.declared.terms.Terms.{Terms}
use Rattle.ld_ctx.specs.declared.terms.Terms.TheVariants.{Settled, Open}

abbrev pub terms_of : Terms → Sorted Def
terms_of (Settled entries) = entries
terms_of (Open map) = map
