use Rattle.std.proofs.Common.{◌∙◌, refl, sym, ap, Some}
use Rattle.ld_tree_read.specs.Cursor.{left}
use Rattle.ld_tree_read.specs.State.{plain, slash, first, string}
use Rattle.ld_tree_read.proofs.Escapes.{letter_found, letter_is}
use Rattle.ld_tree_read.proofs.Exits.{if_ok, if_err}
use Rattle.ld_tree_read.proofs.Tokens.{still}
use Rattle.ld_tree_read.proofs.Inner.{on_in, stop_in, next_left, slash_u, slash_letter, slash_stops}
use Rattle.ld_tree_read.proofs.escape.read_escape.Goals as goal

pub returns-then-eat-clause-found : goal.returns-then-eat-clause-found
returns-then-eat-clause-found c = if_ok c.read_unit.result (λ x h. rw (c.if-eat.ensures.eaten refl) h) c.read_unit.ensures.found

pub returns-then-eat-clause-leads : goal.returns-then-eat-clause-leads
returns-then-eat-clause-leads c = if_ok c.read_unit.result (λ x h n fs. on_in c.args.cursor.now c.eat.new.self n fs slash first 117 (c.if-eat.ensures.eaten refl) (c.if-eat.ensures.at refl) refl slash_u ∙ h n fs) c.read_unit.ensures.leads

pub returns-then-eat-clause-stops : goal.returns-then-eat-clause-stops
returns-then-eat-clause-stops c = if_err c.read_unit.result (λ x h n fs. on_in c.args.cursor.now c.eat.new.self n fs slash first 117 (c.if-eat.ensures.eaten refl) (c.if-eat.ensures.at refl) refl slash_u ∙ h n fs) c.read_unit.ensures.stops

pub returns-in_default-clause-stops : goal.returns-in_default-clause-stops
returns-in_default-clause-stops c = λ n fs.
    let d = c.eat.new.self in
    still c.args.cursor.now c.eat.new.self fs (string n slash) (c.if-eat.ensures.unmoved refl) (c.if-eat.ensures.still refl)
    ∙ stop_in d.at n fs slash (left d) refl (slash_stops (left d) c.in_default.ensures.none (λ r e. c.if-eat.ensures.other refl r (sym (c.if-eat.ensures.unmoved refl) ∙ e)))
    ∙ ap Some (sym c.no_text.ensures)

pub returns-clause-found : goal.returns-clause-found
returns-clause-found c =
    let next = c.in-Some.ensures.some in
    let is = sym (c.if-eat.ensures.unmoved refl) ∙ next_left (left c.eat.new.self) (left c.advance.new.self) next.1 next.0 next.2 c.advance.ensures.left in
    rw is (letter_found next.0 c.in-Some.value (left c.advance.new.self) next.3)

pub returns-clause-leads : goal.returns-clause-leads
returns-clause-leads c = λ n fs.
    let d = c.eat.new.self in
    let next = c.in-Some.ensures.some in
    still c.args.cursor.now c.eat.new.self fs (string n slash) (c.if-eat.ensures.unmoved refl) (c.if-eat.ensures.still refl)
    ∙ on_in d c.advance.new.self n fs slash plain next.0 (next_left (left d) (left c.advance.new.self) next.1 next.0 next.2 c.advance.ensures.left) c.advance.ensures.at refl (slash_letter next.0 (letter_is next.0 c.in-Some.value next.3))
