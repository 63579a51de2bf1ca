use Rattle.std.proofs.Common.{subst, ℕ, List}
use Rattle.std.specs.Prelude.{option_copied}
use Rattle.ld_rec.specs.Compacting.{compact_value}
use Rattle.ld_rec.specs.Outcome.{Gives}
use Rattle.ld_compact.specs.Compaction.{text_or_empty}
use Rattle.ld_compact.proofs.Told.{told_gives, value_codes}
use Rattle.ld_compact.proofs.values.compact.Goals as goal

pub compact_value-requires-clause-inverse : goal.compact_value-requires-clause-inverse
compact_value-requires-clause-inverse g c = c.requires.is_inverse

pub compact_value-requires-clause-base : goal.compact_value-requires-clause-base
compact_value-requires-clause-base g c = c.requires.promises.own.base

pub returns : goal.returns
returns g c stock =
    let context = g.K.View.flat c.args.place.now.view.now in
    let name = text_or_empty (option_copied c.args.place.now.property) in
    told_gives stock c.compact_value.result (compact_value context name c.args.value.now) (value_codes context name c.args.value.now)
    (subst (λ (n : List ℕ). Gives c.compact_value.result (compact_value context n c.args.value.now)) c.text_or_empty-name.ensures c.compact_value.ensures)
