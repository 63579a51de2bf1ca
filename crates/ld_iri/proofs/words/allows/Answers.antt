use Rattle.std.proofs.Common.{rules, tests}
use Rattle.std.proofs.lemmas.Iterator.{YieldsList-from_chars}
use Rattle.std.proofs.lemmas.Iterator.Search.{all_from_yields_List}
use Rattle.ld_iri.specs.Words.{is_allowed}
use Rattle.ld_iri.proofs.words.allows.Goals as goal

pub returns : goal.returns
returns c = all_from_yields_List is_allowed _ _ _ c.all.ensures.ran (YieldsList-from_chars c.args.text.now (search rules) cc) (λ x b q k. search (rules, tests))
