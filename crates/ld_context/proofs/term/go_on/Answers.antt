use Rattle.ld_ctx.specs.Flat.{flat}
use Rattle.ld_term.specs.declared.run.Next.TheVariants as next
use Rattle.ld_term.specs.Runs.{from_next, from_waiting}
use Rattle.ld_term.specs.Waits.{made_of, rest_of}
use Rattle.ld_context.specs.Starts.{left_outcome}
use Rattle.ld_context.proofs.Terms.{resumes, left_is}
use Rattle.ld_context.proofs.term.go_on.Goals as goal

pub returns-clause-gives : goal.returns-clause-gives
returns-clause-gives c = λ check stock context is.
    let r = rest_of c.args.rest.now in
    let l = c.args.entries.now in
    let m = made_of c.args.made.now c.args.defined.now in
    let n = made_of c.resume.new.made c.resume.new.defined in
    let w = c.args.waiting in
    resumes (λ later. (from_next check r l later n).run stock) (λ later. left_outcome check r l later n stock) ((check (flat c.args.made.now) w.ready.scoped).run stock) ((from_waiting check r l w m).run stock) (left_outcome check r l (next.Check w) m stock) c.resume.result
    (λ later. left_is check r l stock later n) (left_is check r l stock (next.Check w) m) (c.resume.ensures.gives check stock (context, is))
