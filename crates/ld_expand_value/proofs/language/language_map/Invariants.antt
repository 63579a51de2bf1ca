use Rattle.std.proofs.Common.{◌≡◌, drop}
use Rattle.std.specs.Prelude.{flat_map}
use Rattle.std.specs.List.{list_all}
use Rattle.ld_rec.specs.Values.{language_map, language_entry, is_language_entry}
use Rattle.ld_expand_value.specs.Adding.{added}
use Rattle.ld_expand_value.proofs.language.language_map.Given as goal

abbrev pub invariant-loop-key : goal.invariant-loop-key
invariant-loop-key g l =
    language_map (g.V.View.flat l.ctx) l.map
    ≡ added (list_all is_language_entry (drop l.key-index l.key-items)) l.items.items (flat_map (language_entry (g.V.View.flat l.ctx)) (drop l.key-index l.key-items))
