use Rattle.ld_expand.proofs.KeywordTexts.{keyword_is}
use Rattle.ld_expand.proofs.keywords.keyword_of.Goals as goal

pub returns : goal.returns
returns c = keyword_is c.from_text.result c.args.iri.now c.from_text.ensures
