use Rattle.std.proofs.Common.{◌≡◌, ◌∙◌, false, nat_eq, sym}
use mathlib.Core.Bool.{true≢false}
use Rattle.std.specs.List.{starts_with}
use Rattle.std.proofs.lemmas.Str.Pattern.{starts_text}
use Rattle.ld_inverse.proofs.compact_form.rest_after.Goals as goal

pub returns-in-None : goal.returns-in-None
returns-in-None c = let no : false ≡ starts_with nat_eq c.args.iri.now c.args.mapping.now = starts_text false c.args.mapping.now c.args.iri.now c.in-None.ensures.cases in absurd (true≢false (sym c.requires ∙ sym no))
