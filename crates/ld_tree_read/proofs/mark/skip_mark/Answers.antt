use Rattle.std.proofs.Common.{◌∙◌, refl, sym, ap, ap₂, Some, ◌∷◌, []}
use Rattle.ld_tree_read.specs.Cursor.{left}
use Rattle.ld_tree_read.specs.Refusals.{mark_refusal}
use Rattle.ld_tree_read.specs.State.{mark, value}
use Rattle.ld_tree_read.proofs.Marks.{no_mark, mark_passed, mark_begins, no_mark_begins, second_mark, third_mark, mark_stops}
use Rattle.ld_tree_read.proofs.Tokens.{on, still}
use Rattle.ld_tree_read.proofs.mark.skip_mark.Goals as goal

pub returns-then-not-eat-clause-leads : goal.returns-then-not-eat-clause-leads
returns-then-not-eat-clause-leads c =
    let d = c.args.cursor.now in
    no_mark_begins d.at [] (left d) (c.if-not-eat.ensures.other refl) ∙ still d c.eat.new.self [] value (c.if-not-eat.ensures.unmoved refl) (c.if-not-eat.ensures.still refl)

pub returns-then-not-eat-2-clause-stops : goal.returns-then-not-eat-2-clause-stops
returns-then-not-eat-2-clause-stops c =
    let d = c.eat.new.self in
    mark_begins c.args.cursor.now d [] (c.if-not-eat.ensures.eaten refl) (c.if-not-eat.ensures.at refl)
    ∙ mark_stops d.at [] 187 (191 ∷ []) (left d) (c.if-not-eat-2.ensures.other refl)
    ∙ ap₂ (λ n bs. Some (mark_refusal n bs)) (sym (c.if-not-eat-2.ensures.still refl)) (sym (c.if-not-eat-2.ensures.unmoved refl)) ∙ ap Some (sym c.no_mark.ensures)

pub returns-then-not-eat-3-clause-stops : goal.returns-then-not-eat-3-clause-stops
returns-then-not-eat-3-clause-stops c =
    let d = c.eat-2.new.self in
    mark_begins c.args.cursor.now c.eat.new.self [] (c.if-not-eat.ensures.eaten refl) (c.if-not-eat.ensures.at refl)
    ∙ on c.eat.new.self d [] [] (mark (187 ∷ 191 ∷ [])) (mark (191 ∷ [])) 187 (c.if-not-eat-2.ensures.eaten refl) (c.if-not-eat-2.ensures.at refl) refl (second_mark [])
    ∙ mark_stops d.at [] 191 [] (left d) (c.if-not-eat-3.ensures.other refl)
    ∙ ap₂ (λ n bs. Some (mark_refusal n bs)) (sym (c.if-not-eat-3.ensures.still refl)) (sym (c.if-not-eat-3.ensures.unmoved refl)) ∙ ap Some (sym c.no_mark-then-not-eat-3.ensures)

pub returns-clause-leads : goal.returns-clause-leads
returns-clause-leads c =
    mark_begins c.args.cursor.now c.eat.new.self [] (c.if-not-eat.ensures.eaten refl) (c.if-not-eat.ensures.at refl)
    ∙ on c.eat.new.self c.eat-2.new.self [] [] (mark (187 ∷ 191 ∷ [])) (mark (191 ∷ [])) 187 (c.if-not-eat-2.ensures.eaten refl) (c.if-not-eat-2.ensures.at refl) refl (second_mark [])
    ∙ on c.eat-2.new.self c.eat-3.new.self [] [] (mark (191 ∷ [])) value 191 (c.if-not-eat-3.ensures.eaten refl) (c.if-not-eat-3.ensures.at refl) refl (third_mark [])

pub returns-then-not-eat-clause-passed : goal.returns-then-not-eat-clause-passed
returns-then-not-eat-clause-passed c = c.if-not-eat.ensures.unmoved refl ∙ sym (no_mark (left c.args.cursor.now) (c.if-not-eat.ensures.other refl))

pub returns-clause-passed : goal.returns-clause-passed
returns-clause-passed c =
    sym (mark_passed (left c.args.cursor.now) (left c.eat.new.self) (left c.eat-2.new.self) (left c.eat-3.new.self) (c.if-not-eat.ensures.eaten refl) (c.if-not-eat-2.ensures.eaten refl) (c.if-not-eat-3.ensures.eaten refl))
