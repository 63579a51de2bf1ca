use Rattle.std.specs.Prelude.{option_copied}
use Rattle.ld_rec.specs.Compacting.{compact_iri}
use Rattle.ld_compact.proofs.Told.{told_gives, iri_codes}
use Rattle.ld_compact.proofs.names.compact.Goals as goal

pub compact_iri-requires-clause-inverse : goal.compact_iri-requires-clause-inverse
compact_iri-requires-clause-inverse g c = c.requires.is_inverse

pub compact_iri-requires-clause-base : goal.compact_iri-requires-clause-base
compact_iri-requires-clause-base g c = c.requires.promises.own.base

pub returns : goal.returns
returns g c stock =
    told_gives stock c.compact_iri.result (compact_iri (g.K.View.flat c.args.place.now.view.now) c.args.iri.now (option_copied c.args.value) c.args.vocab c.args.reverse)
    (iri_codes (g.K.View.flat c.args.place.now.view.now) c.args.iri.now (option_copied c.args.value) c.args.vocab c.args.reverse) c.compact_iri.ensures
