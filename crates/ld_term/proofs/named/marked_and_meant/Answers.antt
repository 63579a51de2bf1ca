use Rattle.std.proofs.Common.{sym, ap, true}
use Rattle.ld_rec.specs.Terms.{marked}
use Rattle.ld_term.specs.Waits.{made_of, rest_of, first_and_meant}
use Rattle.ld_term.proofs.Along.{comes_along}
use Rattle.ld_term.proofs.named.marked_and_meant.Goals as goal

pub returns-clause-gives : goal.returns-clause-gives
returns-clause-gives c = λ check define.
    let m = made_of c.args.made.now c.args.defined.now in
    let r = rest_of c.args.rest.now in
    let n = made_of c.args.made.now c.mark_term.new.defined in
    comes_along _ _ (first_and_meant check define r c.args.local.now c.args.task c.args.entries.now c.args.iri (marked c.args.task.term true m)).run (first_and_meant check define r c.args.local.now c.args.task c.args.entries.now c.args.iri n).run
    (λ stock. ap (λ t. (first_and_meant check define r c.args.local.now c.args.task c.args.entries.now c.args.iri (made_of c.args.made.now t)).run stock) (sym c.in_ok-mark_term.ensures.put))
    (c.means_itself.ensures.gives check define)
