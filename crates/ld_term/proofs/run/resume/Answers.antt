use Rattle.std.proofs.Common.{◌≡◌, sym, ap, subst, ◌+◌, ◌≤◌, ◌<◌, ◌*◌, ℕ, length, arith, Ok, Err, Result}
use Rattle.std.specs.Prelude.{IfOk}
use Rattle.ld_rec.specs.declared.stop.Stop.{Stop}
use Rattle.ld_rec.specs.Records.{Context}
use Rattle.ld_ctx.specs.Flat.{flat}
use Rattle.ld_term.specs.declared.run.Next.{Next}
use Rattle.ld_term.specs.Waits.{made_of, rest_of}
use Rattle.ld_term.specs.Runs.{Told, Resumes, from_next, from_waiting}
use Rattle.ld_term.specs.NextSizes.{next_size}
use Rattle.ld_term.proofs.Resuming.{resumes_ok, resumes_err, resumes_told}
use Rattle.ld_term.proofs.Shrinking.{left_grows}
use Rattle.ld_term.proofs.run.resume.Goals as goal

pub run-requires : goal.run-requires
run-requires c = omega (arith, c.requires, left_grows c.args.local.now.0 c.args.defined.now c.settle.new.defined c.settle.ensures.table)

sized : (r : Result Next Stop) (f : Next → ℕ) (a b w : ℕ) → a ≤ b → IfOk r (λ next. f next ≤ 13 * a + w + 0) → IfOk r (λ next. f next < 13 * b + w + 1)
sized (Ok next) f a b w le h = omega arith
sized (Err e) f a b w le h = tt

pub returns-in-Ok-settle-clause-size : goal.returns-in-Ok-settle-clause-size
returns-in-Ok-settle-clause-size c = sized c.run.result (λ next. next_size c.args.local.now.0 c.run.new.defined next) _ _ _ (left_grows c.args.local.now.0 c.args.defined.now c.settle.new.defined c.settle.ensures.table) c.run.ensures.size

pub returns-in-Ok-settle-clause-gives : goal.returns-in-Ok-settle-clause-gives
returns-in-Ok-settle-clause-gives c = λ check stock told.
    let m = made_of c.args.made.now c.args.defined.now in
    let r = rest_of c.args.rest.now in
    let l = c.args.local.now in
    let t : (context : Context) × (((check (flat c.args.made.now) c.args.waiting.ready.scoped).run stock).result ≡ Ok context) = subst (λ o. Told o ((check (flat c.args.made.now) c.args.waiting.ready.scoped).run stock).result) c.in-Ok.is told in
    resumes_ok check r l c.args.waiting m stock t.0 t.1 (λ next. (from_next check r l next (made_of c.run.new.made c.run.new.defined)).run) c.run.result (made_of c.settle.new.made c.settle.new.defined) c.in-Ok-settle.ensures.gives (c.run.ensures.gives check)

pub returns-in-Err-settle-clause-gives : goal.returns-in-Err-settle-clause-gives
returns-in-Err-settle-clause-gives c = λ check stock told.
    let m = made_of c.args.made.now c.args.defined.now in
    let r = rest_of c.args.rest.now in
    let l = c.args.local.now in
    let t : (context : Context) × (((check (flat c.args.made.now) c.args.waiting.ready.scoped).run stock).result ≡ Ok context) = subst (λ o. Told o ((check (flat c.args.made.now) c.args.waiting.ready.scoped).run stock).result) c.in-Ok.is told in
    resumes_err check r l c.args.waiting m stock t.0 t.1 (λ next. (from_next check r l next (made_of c.settle.new.made c.settle.new.defined)).run stock) c.in-Err-settle.e c.in-Err-settle.ensures.gives

pub returns-in-Err-clause-gives : goal.returns-in-Err-clause-gives
returns-in-Err-clause-gives c = λ check stock told.
    let m = made_of c.args.made.now c.args.defined.now in
    let r = rest_of c.args.rest.now in
    let l = c.args.local.now in
    let checked = (check (flat c.args.made.now) c.args.waiting.ready.scoped).run stock in
    subst (λ e. Resumes (λ next. (from_next check r l next m).run stock) (Err e) checked ((from_waiting check r l c.args.waiting m).run stock)) (sym c.scoped_stop.ensures)
    (resumes_told check r l c.args.waiting m stock (λ next. (from_next check r l next m).run stock) c.in-Err.e (subst (λ o. Told o checked.result) c.in-Err.is told))
