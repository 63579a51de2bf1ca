use Rattle.std.proofs.Common.{◌≡◌, drop}
use Rattle.std.specs.Prelude.{filter_map}
use Rattle.std.specs.List.{list_all}
use Rattle.ld_rec.specs.Values.{language_item, is_language_item}
use Rattle.ld_expand_value.specs.Adding.{added}
use Rattle.ld_expand_value.proofs.language.add_items.Given as goal

abbrev pub invariant-loop-value : goal.invariant-loop-value
invariant-loop-value l =
    added (list_all is_language_item l.values) l.initial.items.items (filter_map (language_item l.tag) l.values)
    ≡ added (list_all is_language_item (drop l.value-index l.values)) l.items.items (filter_map (language_item l.tag) (drop l.value-index l.values))
