use Rattle.std.proofs.Common.{◌∙◌, ap}
use Rattle.std.specs.Prelude.{filter_map}
use Rattle.ld_rec.specs.Words.{text_of}
use Rattle.ld_rec.specs.Expansion.{sorted_texts}
use Rattle.ld_expand.proofs.Sorting.{sorted_is}
use Rattle.ld_expand.proofs.types.sorted_texts.Goals as goal

pub returns : goal.returns
returns c =
    sorted_is c.items_of.result.now c.in_ok-texts.texts.items c.sort.new.self.items c.in_ok-texts.ensures c.in_ok-sort.ensures.permutation c.in_ok-sort.ensures.sorted ∙ ap sorted_texts c.items_of.ensures
