use Rattle.std.proofs.Common.{◌∙◌, refl, sym, ap, subst, ◌∷◌}
use Rattle.ld_tree_read.specs.Cursor.{left, ahead}
use Rattle.ld_tree_read.specs.Stack.{levels}
use Rattle.ld_tree_read.specs.State.{in_list, value, item_or_end}
use Rattle.ld_tree_read.specs.Steps.{NoWhite}
use Rattle.ld_tree_read.proofs.Tokens.{still}
use Rattle.ld_tree_read.proofs.Between.{spaced_item, item_alike, item_ends, pushed}
use Rattle.ld_tree_read.proofs.Steps.{list_opens, list_empty}
use Rattle.ld_tree_read.proofs.parse.open_list.Goals as goal

pub returns-then-eat-clause-found : goal.returns-then-eat-clause-found
returns-then-eat-clause-found c = rw c.new.ensures (list_empty c.args.stack.now.items c.requires (sym c.skip_space.ensures.space ∙ c.if-eat.ensures.eaten refl))

pub returns-then-eat-clause-leads : goal.returns-then-eat-clause-leads
returns-then-eat-clause-leads c =
    let fs = levels c.args.stack.now.items in
    c.skip_space.ensures.leads item_or_end spaced_item (in_list ∷ fs)
    ∙ item_ends c.skip_space.new.cursor c.eat.new.self fs (c.if-eat.ensures.eaten refl) (c.if-eat.ensures.at refl)

pub returns-clause-found : goal.returns-clause-found
returns-clause-found c =
    rw (c.in_ok-push.ensures.items, c.new-2.ensures, c.if-eat.ensures.unmoved refl, c.skip_space.ensures.space) (list_opens c.args.stack.now.items (left c.args.cursor.now) c.requires)

pub returns-clause-leads : goal.returns-clause-leads
returns-clause-leads c =
    let fs = levels c.args.stack.now.items in
    let d = c.skip_space.new.cursor in
    let e = c.eat.new.self in
    c.skip_space.ensures.leads item_or_end spaced_item (in_list ∷ fs)
    ∙ item_alike d.at (in_list ∷ fs) (left d) c.skip_space.ensures.ends (c.if-eat.ensures.other refl)
    ∙ still d e (in_list ∷ fs) value (c.if-eat.ensures.unmoved refl) (c.if-eat.ensures.still refl)
    ∙ ap (λ gs. ahead e gs value) (sym (pushed c.args.stack.now.items c.push.new.self.items _ c.in_ok-push.ensures.items))

pub returns-clause-space : goal.returns-clause-space
returns-clause-space c = λ _. subst NoWhite (sym (c.if-eat.ensures.unmoved refl)) c.skip_space.ensures.ends
