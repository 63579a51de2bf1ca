use Rattle.std.proofs.Common.{refl, sym, ap, ◌∙◌, length, arith}
use Rattle.ld_rec.specs.Terms.{define_step, defined, nested}
use Rattle.ld_term.specs.Waits.{made_of, rest_of, from_stack}
use Rattle.ld_term.proofs.Along.{comes_along}
use Rattle.ld_term.proofs.Stack.{left_most}
use Rattle.ld_term.proofs.run.define.Goals as goal

pub run-requires : goal.run-requires
run-requires c = rw c.new.ensures.items (omega (arith, c.in-Ok.ensures.fits, left_most c.args.local.now.0 c.args.defined.now))

pub returns-in-Ok-clause-gives : goal.returns-in-Ok-clause-gives
returns-in-Ok-clause-gives c = λ check.
    let m = made_of c.args.made.now c.args.defined.now in
    let r = rest_of c.args.rest.now in
    let l = c.args.local.now in
    let n = made_of c.define_step.new.made c.define_step.new.defined in
    let room = length l.0 in
    comes_along _ _ (defined check r l c.args.term.now m).run (from_stack check r l room c.new.result.items c.in-Ok.step n).run
    (λ stock. ap (λ (t : _). (define_step check (nested check r l room) r l t m).run stock) (sym c.in_ok-name.ensures)
    ∙ c.in-Ok.ensures.gives check (nested check r l room) stock
    ∙ ap (λ hs. (from_stack check r l room hs c.in-Ok.step n).run stock) (sym c.new.ensures.items))
    (c.run.ensures.gives check)
