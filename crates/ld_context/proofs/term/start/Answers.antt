use Rattle.ld_rec.specs.Terms.{defined}
use Rattle.ld_term.specs.Runs.{from_next}
use Rattle.ld_term.specs.Waits.{made_of, rest_of}
use Rattle.ld_context.specs.Starts.{term_outcome, left_outcome}
use Rattle.ld_context.proofs.Terms.{starts, term_is, left_is}
use Rattle.ld_context.proofs.term.start.Goals as goal

pub returns-clause-gives : goal.returns-clause-gives
returns-clause-gives c = λ check stock.
    let r = rest_of c.args.rest.now in
    let l = c.args.entries.now in
    let m = made_of c.args.made.now c.args.defined.now in
    let n = made_of c.define.new.made c.define.new.defined in
    starts (λ next. (from_next check r l next n).run) (λ next. left_outcome check r l next n stock) (defined check r l c.args.name.now m).run (term_outcome check r l c.args.name.now m stock) stock c.define.result
    (λ next. left_is check r l stock next n) (term_is check r l stock c.args.name.now m) (c.define.ensures.gives check)
