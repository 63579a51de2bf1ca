use Rattle.std.proofs.Common.{◌≡◌, sym, ap, subst, ◌∙◌}
use Rattle.std.specs.Prelude.{IfOk, codes}
use Rattle.ld_rec.specs.Kinds.{text_tree}
use Rattle.ld_answer.specs.Bodies.{own_body, own_about_body}
use Rattle.ld_answer.proofs.body.own_body.Goals as goal

pub returns-in_ok-keyword-in-OutsideProfile : goal.returns-in_ok-keyword-in-OutsideProfile
returns-in_ok-keyword-in-OutsideProfile c =
    let about = c.in_ok-keyword-in-OutsideProfile.ensures ∙ ap text_tree c.text.ensures in
    subst (λ own. IfOk c.own_about_body.result (λ body. body ≡ own_body own)) (sym c.in-OutsideProfile.is)
    (subst (λ t. IfOk c.own_about_body.result (λ body. body ≡ own_about_body (codes "keyword") t (codes "outside profile"))) about c.own_about_body.ensures)
