use Rattle.std.proofs.Common.{◌∙◌, [], None, Some, sym, ap, subst}
use Rattle.ld_tree_read.specs.Cursor.{left, ahead}
use Rattle.ld_tree_read.specs.Stack.{Becomes, Means, levels, due_here}
use Rattle.ld_tree_read.specs.State.{done}
use Rattle.ld_tree_read.proofs.Exits.{if_ok, if_err, known}
use Rattle.ld_tree_read.proofs.Room.{nil_items, empty}
use Rattle.ld_tree_read.proofs.Steps.{ended}
use Rattle.ld_tree_read.proofs.parse.read_rest.Goals as goal

pub returns-in-None-pop-clause-found : goal.returns-in-None-pop-clause-found
returns-in-None-pop-clause-found c =
    let bytes = left c.args.cursor.now in
    let b = left c.loop-read.cursor in
    let value = c.in-Some.value in
    let nil = empty c.loop-read.stack.items (nil_items c.loop-read.stack c.in-None-pop.ensures.cases.0) in
    let w = subst (λ fs. Becomes [] None bytes fs (Some value) b) nil (subst (λ x. Becomes [] None bytes c.loop-read.stack.items x b) c.in-Some.is c.loop-read.invariant.found) in
    if_ok c.finish.result (λ x h. w.back x (subst (λ y. Means [] (Some value) b y) (sym h.0) (ended value b h.1))) c.finish.ensures.found

pub returns-in-None-pop-clause-ends : goal.returns-in-None-pop-clause-ends
returns-in-None-pop-clause-ends c =
    let d = c.loop-read.cursor in
    let nil = empty c.loop-read.stack.items (nil_items c.loop-read.stack c.in-None-pop.ensures.cases.0) in
    let w = c.loop-read.invariant.same ∙ ap (λ x. ahead d (levels c.loop-read.stack.items) (due_here x)) c.in-Some.is ∙ ap (λ fs. ahead d (levels fs) done) nil in
    if_ok c.finish.result (λ x h. w ∙ h) c.finish.ensures.ends

pub returns-in-None-pop-clause-stops : goal.returns-in-None-pop-clause-stops
returns-in-None-pop-clause-stops c =
    let d = c.loop-read.cursor in
    let nil = empty c.loop-read.stack.items (nil_items c.loop-read.stack c.in-None-pop.ensures.cases.0) in
    let w = c.loop-read.invariant.same ∙ ap (λ x. ahead d (levels c.loop-read.stack.items) (due_here x)) c.in-Some.is ∙ ap (λ fs. ahead d (levels fs) done) nil in
    if_err c.finish.result (λ e h. known e (w ∙ h)) c.finish.ensures.stops

pub begin-requires-clause-space : goal.begin-requires-clause-space
begin-requires-clause-space c = c.loop-read.invariant.space c.in-None.is
