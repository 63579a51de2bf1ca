use Rattle.std.proofs.Common.{◌≡◌, ◌&&◌, nat_lt, length, ap, sym, ◌∙◌}
use Rattle.std.proofs.lemmas.Str.Pattern.{starts_text}
use Rattle.ld_inverse.proofs.iri.is_front.Goals as goal

pub returns-then-starts_with : goal.returns-then-starts_with
returns-then-starts_with c = ap (λ b. b && nat_lt (length c.args.front.now) (length c.args.text.now)) (sym c.if-starts_with.true ∙ starts_text c.starts_with.result c.args.front.now c.args.text.now c.starts_with.ensures.cases)

pub returns-else-starts_with : goal.returns-else-starts_with
returns-else-starts_with c =
    c.if-starts_with.false
    ∙ ap (λ b. b && nat_lt (length c.args.front.now) (length c.args.text.now)) (sym c.if-starts_with.false ∙ starts_text c.starts_with.result c.args.front.now c.args.text.now c.starts_with.ensures.cases)
