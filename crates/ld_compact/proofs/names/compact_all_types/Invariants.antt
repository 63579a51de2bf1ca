use Rattle.std.proofs.Common.{◌≡◌, [], drop}
use Rattle.ld_rec.specs.Outcome.{Stock, each}
use Rattle.ld_rec.specs.Words.{text_of}
use Rattle.ld_compact.specs.Compaction.{add_type}
use Rattle.ld_compact.proofs.names.compact_all_types.Given as goal

abbrev pub invariant-loop-value : goal.invariant-loop-value
invariant-loop-value g l =
    (stock : Stock) → ((each (λ type. add_type (g.K.View.flat l.place.view.now) (text_of type)) l.types []).run stock).result
    ≡ ((each (λ type. add_type (g.K.View.flat l.place.view.now) (text_of type)) (drop l.value-index l.types) l.texts.items).run stock).result
