use Rattle.std.proofs.Common.{◌≡◌}
use Rattle.ld_compact.specs.Compaction.{turned}
use Rattle.ld_compact.proofs.names.turn.Given as goal

abbrev pub invariant-loop-name : goal.invariant-loop-name
invariant-loop-name g l =
    turned l.place.arrays (g.K.View.flat l.place.view.now) l.name-iterator.rest.items l.made l.rest ≡ turned l.place.arrays (g.K.View.flat l.place.view.now) l.fn.entries.0 l.initial.made l.initial.rest
