use Rattle.std.proofs.Common.{◌≡◌, sym, subst}
use Rattle.std.specs.Prelude.{IfOk}
use Rattle.ld_answer.specs.Bodies.{read_body}
use Rattle.ld_answer.proofs.body.read_body.Goals as goal

pub returns-in-Fraction : goal.returns-in-Fraction
returns-in-Fraction c = subst (λ r. IfOk c.at_body-in-Fraction.result (λ body. body ≡ read_body r)) (sym c.in-Fraction.is) c.at_body-in-Fraction.ensures
