use Rattle.std.proofs.Common.{◌∙◌, refl, sym, ap, ap₂, Some, ◌∷◌}
use Rattle.ld_tree_read.specs.Cursor.{left, ahead}
use Rattle.ld_tree_read.specs.Refusals.{plain_refusal}
use Rattle.ld_tree_read.specs.Stack.{levels}
use Rattle.ld_tree_read.specs.State.{in_list, value, done}
use Rattle.ld_tree_read.proofs.Exits.{known}
use Rattle.ld_tree_read.proofs.Tokens.{on, still}
use Rattle.ld_tree_read.proofs.Between.{spaced_done, spaced_value, list_next, list_end, list_stops, pushed}
use Rattle.ld_tree_read.proofs.Steps.{item_comma, item_end}
use Rattle.ld_tree_read.proofs.parse.after_item.Goals as goal

pub returns-then-eat-clause-found : goal.returns-then-eat-clause-found
returns-then-eat-clause-found c =
    rw (c.in_ok-push.ensures.items, c.in_default.ensures.ok, c.skip_space-then-eat.ensures.space)
    (item_comma c.args.stack.now.items c.args.done c.args.item (left c.args.cursor.now) (left c.eat.new.self) (sym c.skip_space.ensures.space ∙ c.if-eat.ensures.eaten refl))

pub returns-then-eat-clause-leads : goal.returns-then-eat-clause-leads
returns-then-eat-clause-leads c =
    let fs = levels c.args.stack.now.items in
    c.skip_space.ensures.leads done spaced_done (in_list ∷ fs)
    ∙ on c.skip_space.new.cursor c.eat.new.self (in_list ∷ fs) (in_list ∷ fs) done value 44 (c.if-eat.ensures.eaten refl) (c.if-eat.ensures.at refl) refl (list_next fs)
    ∙ c.skip_space-then-eat.ensures.leads value spaced_value (in_list ∷ fs)
    ∙ ap (λ gs. ahead c.skip_space-then-eat.new.cursor gs value) (sym (pushed c.args.stack.now.items c.push-then-eat.new.self.items _ c.in_ok-push.ensures.items))

pub returns-then-not-eat-clause-stops : goal.returns-then-not-eat-clause-stops
returns-then-not-eat-clause-stops c =
    let fs = levels c.args.stack.now.items in
    let d = c.skip_space.new.cursor in
    let same = c.if-not-eat.ensures.unmoved refl ∙ c.if-eat.ensures.unmoved refl in
    let at = c.if-not-eat.ensures.still refl ∙ c.if-eat.ensures.still refl in
    known c.no_text.result
    (c.skip_space.ensures.leads done spaced_done (in_list ∷ fs)
    ∙ list_stops d.at fs (left d) c.skip_space.ensures.ends (c.if-eat.ensures.other refl) (λ r is. c.if-not-eat.ensures.other refl r (c.if-eat.ensures.unmoved refl ∙ is))
    ∙ ap₂ (λ n bs. Some (plain_refusal n bs)) (sym at) (sym same) ∙ ap Some (sym c.no_text.ensures))

pub returns-clause-found : goal.returns-clause-found
returns-clause-found c =
    rw c.in_default.ensures.ok
    (item_end c.args.stack.now.items c.args.done c.args.item (left c.args.cursor.now) (left c.eat-2.new.self) c.requires
    (sym c.skip_space.ensures.space ∙ sym (c.if-eat.ensures.unmoved refl) ∙ c.if-not-eat.ensures.eaten refl))

pub returns-clause-leads : goal.returns-clause-leads
returns-clause-leads c =
    let fs = levels c.args.stack.now.items in
    c.skip_space.ensures.leads done spaced_done (in_list ∷ fs)
    ∙ still c.skip_space.new.cursor c.eat.new.self (in_list ∷ fs) done (c.if-eat.ensures.unmoved refl) (c.if-eat.ensures.still refl)
    ∙ on c.eat.new.self c.eat-2.new.self (in_list ∷ fs) fs done done 93 (c.if-not-eat.ensures.eaten refl) (c.if-not-eat.ensures.at refl) refl (list_end fs)
