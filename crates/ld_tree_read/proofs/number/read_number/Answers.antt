use Rattle.std.proofs.Common.{◌∙◌, refl, sym, ap, false}
use Rattle.ld_tree_read.specs.Cursor.{left}
use Rattle.ld_tree.specs.Numbers.{unsigned_at}
use Rattle.ld_tree_read.proofs.Exits.{if_ok, if_err}
use Rattle.ld_tree_read.proofs.Values.{number_minus, number_plain, on_minus, on_digit}
use Rattle.ld_tree_read.proofs.number.read_number.Goals as goal

pub returns-then-eat-clause-found : goal.returns-then-eat-clause-found
returns-then-eat-clause-found c = if_ok c.read_unsigned.result (λ n h. number_minus (left c.args.cursor.now) (left c.eat.new.self) (c.if-eat.ensures.eaten refl) ∙ h) c.read_unsigned.ensures.found

pub returns-then-eat-clause-leads : goal.returns-then-eat-clause-leads
returns-then-eat-clause-leads c = if_ok c.read_unsigned.result (λ n h none fs. on_minus c.args.cursor.now c.eat.new.self fs none (c.if-eat.ensures.eaten refl) (c.if-eat.ensures.at refl) ∙ h fs) c.read_unsigned.ensures.leads

pub returns-then-eat-clause-none : goal.returns-then-eat-clause-none
returns-then-eat-clause-none c = if_err c.read_unsigned.result (λ e h. number_minus (left c.args.cursor.now) (left c.eat.new.self) (c.if-eat.ensures.eaten refl) ∙ h) c.read_unsigned.ensures.none

pub returns-then-eat-clause-stops : goal.returns-then-eat-clause-stops
returns-then-eat-clause-stops c = if_err c.read_unsigned.result (λ e h none fs. on_minus c.args.cursor.now c.eat.new.self fs none (c.if-eat.ensures.eaten refl) (c.if-eat.ensures.at refl) ∙ h fs) c.read_unsigned.ensures.stops

pub returns-clause-found : goal.returns-clause-found
returns-clause-found c = if_ok c.read_unsigned-2.result (λ n h. number_plain (left c.args.cursor.now) c.requires (c.if-eat.ensures.other refl) ∙ ap (unsigned_at false) (sym (c.if-eat.ensures.unmoved refl)) ∙ h) c.read_unsigned-2.ensures.found

pub returns-clause-leads : goal.returns-clause-leads
returns-clause-leads c = if_ok c.read_unsigned-2.result (λ n h none fs. on_digit c.args.cursor.now c.eat.new.self fs none c.requires (c.if-eat.ensures.other refl) (c.if-eat.ensures.unmoved refl) (c.if-eat.ensures.still refl) ∙ h fs) c.read_unsigned-2.ensures.leads

pub returns-clause-none : goal.returns-clause-none
returns-clause-none c = if_err c.read_unsigned-2.result (λ e h. number_plain (left c.args.cursor.now) c.requires (c.if-eat.ensures.other refl) ∙ ap (unsigned_at false) (sym (c.if-eat.ensures.unmoved refl)) ∙ h) c.read_unsigned-2.ensures.none

pub returns-clause-stops : goal.returns-clause-stops
returns-clause-stops c = if_err c.read_unsigned-2.result (λ e h none fs. on_digit c.args.cursor.now c.eat.new.self fs none c.requires (c.if-eat.ensures.other refl) (c.if-eat.ensures.unmoved refl) (c.if-eat.ensures.still refl) ∙ h fs) c.read_unsigned-2.ensures.stops
