use Rattle.std.proofs.Common.{[], ◌∷◌, ◌++◌, ap, ◌∙◌}
use Rattle.ld_tree.specs.CompactText.{quoted}
use Rattle.ld_head.proofs.Texts.{own_text_is}
use Rattle.ld_head.proofs.body.own_text.Goals as goal

pub returns : goal.returns
returns c =
    let own = c.args.own.now in
    let member = c.in_ok-write_text.ensures.appended ∙ ap (λ l. l ++ quoted own) c.in_ok-out.ensures.items in
    c.from_vec.ensures ∙ (c.in_ok-push.ensures.items ∙ (ap (λ l. l ++ 125 ∷ []) member ∙ own_text_is own))
