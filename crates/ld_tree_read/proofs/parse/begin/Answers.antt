use Rattle.std.proofs.Common.{◌≡◌, ◌∙◌, ◌-◌, length, refl, sym, ap, subst, Some}
use Rattle.ld_tree.specs.Reading.{IsValue}
use Rattle.ld_tree_read.specs.Cursor.{left, ahead}
use Rattle.ld_tree_read.specs.Stack.{levels}
use Rattle.ld_tree_read.specs.State.{value}
use Rattle.ld_tree_read.specs.Steps.{Known, NoWhite}
use Rattle.ld_tree_read.proofs.Exits.{if_ok, passed_on, more, known_more}
use Rattle.ld_tree_read.proofs.Tokens.{still}
use Rattle.ld_tree_read.proofs.Between.{list_opens, map_opens, deep_list, deep_map, deep, room}
use Rattle.ld_tree_read.proofs.Steps.{value_read}
use Rattle.ld_tree_read.specs.declared.refusal.ReadRefusal.TheVariants as r
use Rattle.ld_tree_read.proofs.parse.begin.Goals as goal

pub returns-then-len-ge-LEVELS-clause-stops : goal.returns-then-len-ge-LEVELS-clause-stops
returns-then-len-ge-LEVELS-clause-stops c =
    let fs = levels c.args.stack.now.items in
    deep_list c.args.cursor.now fs (left c.eat.new.self) (deep c.args.stack.now c.len.ensures c.if-len-ge-LEVELS.true) (c.if-eat.ensures.eaten refl) ∙ ap (λ n. Some (r.TooDeep n)) (sym c.at-at.ensures)

pub returns-then-eat-clause-leads : goal.returns-then-eat-clause-leads
returns-then-eat-clause-leads c =
    let fs = levels c.args.stack.now.items in
    if_ok c.open_list.result (λ due h. list_opens c.args.cursor.now c.eat.new.self fs (c.if-eat.ensures.at refl) (room c.args.stack.now c.len.ensures c.if-len-ge-LEVELS.false) (c.if-eat.ensures.eaten refl) ∙ h) c.open_list.ensures.leads

pub returns-then-eat-clause-stops : goal.returns-then-eat-clause-stops
returns-then-eat-clause-stops c =
    let fs = levels c.args.stack.now.items in
    known_more c.open_list.result (λ e h. list_opens c.args.cursor.now c.eat.new.self fs (c.if-eat.ensures.at refl) (room c.args.stack.now c.len.ensures c.if-len-ge-LEVELS.false) (c.if-eat.ensures.eaten refl) ∙ h) c.open_list.ensures.stops

pub returns-then-len-ge-LEVELS-2-clause-stops : goal.returns-then-len-ge-LEVELS-2-clause-stops
returns-then-len-ge-LEVELS-2-clause-stops c =
    let fs = levels c.args.stack.now.items in
    still c.args.cursor.now c.eat.new.self fs value (c.if-eat.ensures.unmoved refl) (c.if-eat.ensures.still refl)
    ∙ deep_map c.eat.new.self fs (left c.eat-2.new.self) (deep c.args.stack.now c.len-then-eat-2.ensures c.if-len-ge-LEVELS-2.true) (c.if-eat-2.ensures.eaten refl)
    ∙ ap (λ n. Some (r.TooDeep n)) (c.if-eat.ensures.still refl ∙ sym c.at-at.ensures)

pub returns-then-eat-2-clause-leads : goal.returns-then-eat-2-clause-leads
returns-then-eat-2-clause-leads c =
    let fs = levels c.args.stack.now.items in
    if_ok c.open_map.result
    (λ due h. still c.args.cursor.now c.eat.new.self fs value (c.if-eat.ensures.unmoved refl) (c.if-eat.ensures.still refl)
    ∙ map_opens c.eat.new.self c.eat-2.new.self fs (c.if-eat-2.ensures.at refl) (room c.args.stack.now c.len-then-eat-2.ensures c.if-len-ge-LEVELS-2.false) (c.if-eat-2.ensures.eaten refl) ∙ h)
    c.open_map.ensures.leads

pub returns-then-eat-2-clause-stops : goal.returns-then-eat-2-clause-stops
returns-then-eat-2-clause-stops c =
    let fs = levels c.args.stack.now.items in
    known_more c.open_map.result
    (λ e h. still c.args.cursor.now c.eat.new.self fs value (c.if-eat.ensures.unmoved refl) (c.if-eat.ensures.still refl)
    ∙ map_opens c.eat.new.self c.eat-2.new.self fs (c.if-eat-2.ensures.at refl) (room c.args.stack.now c.len-then-eat-2.ensures c.if-len-ge-LEVELS-2.false) (c.if-eat-2.ensures.eaten refl) ∙ h)
    c.open_map.ensures.stops

pub read_scalar-requires : goal.read_scalar-requires
read_scalar-requires c =
    let same = c.if-eat-2.ensures.unmoved refl ∙ c.if-eat.ensures.unmoved refl in
    record {
      space = subst NoWhite (sym same) c.requires.space;
      no_list = λ r e. c.if-eat.ensures.other refl r (sym same ∙ e);
      no_map = λ r e. c.if-eat-2.ensures.other refl r (sym (c.if-eat-2.ensures.unmoved refl) ∙ e);
    }

pub returns-in_err-tree-clause-stops : goal.returns-in_err-tree-clause-stops
returns-in_err-tree-clause-stops c =
    let fs = levels c.args.stack.now.items in
    let e = c.in_err-tree.field-0.0 in
    let same = c.if-eat-2.ensures.unmoved refl ∙ c.if-eat.ensures.unmoved refl in
    let at = c.if-eat-2.ensures.still refl ∙ c.if-eat.ensures.still refl in
    passed_on c.from_residual.result e (λ e. Known e (ahead c.args.cursor.now fs value ≡ Some e)) c.from_residual.ensures.1
    (more e (λ h. still c.args.cursor.now c.eat-2.new.self fs value same at ∙ h fs) c.in_err-tree.ensures.stops)

pub returns-clause-found : goal.returns-clause-found
returns-clause-found c =
    let same = c.if-eat-2.ensures.unmoved refl ∙ c.if-eat.ensures.unmoved refl in
    let d = 128 - length c.args.stack.now.items in
    value_read c.args.stack.now.items (subst (λ b. IsValue d b c.in_ok-tree.tree (left c.read_scalar.new.cursor)) same (c.in_ok-tree.ensures.found d))

pub returns-clause-leads : goal.returns-clause-leads
returns-clause-leads c =
    let fs = levels c.args.stack.now.items in
    let same = c.if-eat-2.ensures.unmoved refl ∙ c.if-eat.ensures.unmoved refl in
    let at = c.if-eat-2.ensures.still refl ∙ c.if-eat.ensures.still refl in
    still c.args.cursor.now c.eat-2.new.self fs value same at ∙ c.in_ok-tree.ensures.leads fs
