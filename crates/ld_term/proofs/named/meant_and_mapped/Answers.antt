use Rattle.std.proofs.Common.{refl, sym, ◌∙◌, true}
use Rattle.ld_rec.specs.Terms.{mapped, marked}
use Rattle.ld_term.specs.Waits.{made_of, rest_of, draft_of, meant_and_mapped, first_and_meant}
use Rattle.ld_term.proofs.Along.{comes_along}
use Rattle.ld_term.proofs.Parts.{meant_not, meant_at}
use Rattle.ld_term.proofs.named.meant_and_mapped.Goals as goal

pub returns-then-is_compound-clause-gives : goal.returns-then-is_compound-clause-gives
returns-then-is_compound-clause-gives c = λ check define.
    let m = made_of c.args.made.now c.args.defined.now in
    let r = rest_of c.args.rest.now in
    comes_along _ _ (meant_and_mapped check define r c.args.local.now c.args.task c.args.entries.now c.args.iri m).run (first_and_meant check define r c.args.local.now c.args.task c.args.entries.now c.args.iri (marked c.args.task.term true m)).run
    (meant_at check define r c.args.local.now c.args.task c.args.entries.now m c.args.iri (marked c.args.task.term true m) (sym c.is_compound.ensures ∙ c.if-is_compound.true) refl)
    (c.marked_and_meant.ensures.gives check define)

pub returns-else-is_compound-clause-gives : goal.returns-else-is_compound-clause-gives
returns-else-is_compound-clause-gives c = λ check define.
    let m = made_of c.args.made.now c.args.defined.now in
    let r = rest_of c.args.rest.now in
    comes_along _ _ (meant_and_mapped check define r c.args.local.now c.args.task c.args.entries.now c.args.iri m).run (mapped check r c.args.task.term c.args.entries.now c.args.task.previous (draft_of c.args.task m)).run
    (meant_not check define r c.args.local.now c.args.task c.args.entries.now m c.args.iri (sym c.is_compound.ensures ∙ c.if-is_compound.false))
    (c.mapped.ensures.gives check define c.args.local.now)
