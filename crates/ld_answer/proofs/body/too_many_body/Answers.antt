use Rattle.std.proofs.Common.{◌≡◌, subst}
use Rattle.std.specs.Prelude.{IfOk, codes}
use Rattle.ld_answer.specs.Bodies.{own_about_body}
use Rattle.ld_answer.proofs.body.too_many_body.Goals as goal

pub returns : goal.returns
returns c = subst (λ t. IfOk c.own_about_body.result (λ body. body ≡ own_about_body (codes "iri") t (codes "too many contexts"))) c.in_ok-text_tree.ensures c.own_about_body.ensures
