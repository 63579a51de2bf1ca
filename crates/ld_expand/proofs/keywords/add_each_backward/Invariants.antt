use Rattle.std.proofs.Common.{◌≡◌}
use Rattle.ld_rec.specs.Outcome.{Stock, each}
use Rattle.ld_rec.specs.Expansion.{add_backward}
use Rattle.ld_expand.proofs.keywords.add_each_backward.Given as goal

abbrev pub invariant-loop-name : goal.invariant-loop-name
invariant-loop-name l =
    (stock : Stock) → ((each add_backward l.fn.entries.0 l.initial.made).run stock).result ≡ ((each add_backward l.name-iterator.rest.items l.made).run stock).result
