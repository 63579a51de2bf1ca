use Rattle.std.proofs.Common.{rules, ◌≡◌, refl, sym, ◌∙◌, ap, true, false, take}
use Rattle.std.specs.Str.{bytes_eq}
use Rattle.std.proofs.lemmas.List.{take_all}
use Rattle.std.proofs.lemmas.Slice.Eq.{bytes_eq-Decides}
use Rattle.ld_flight.specs.Memory.{answers_for}
use Rattle.ld_flight.proofs.Queues.{first_here, other_next}
use Rattle.ld_flight.proofs.mem_loader.first_for.Goals as goal

pub returns-then-eq : goal.returns-then-eq
returns-then-eq c =
    let is_true = sym (ap (λ k. bytes_eq k c.args.iri.now) c.as_str.ensures) ∙ sym c.eq.ensures ∙ c.if-eq.true in
    first_here _ _ c.loop-at.at c.index-answers-at.result c.loop-at-test.true c.index-answers-at.is ((bytes_eq-Decides _ _).0 is_true) c.loop-at.invariant

pub loop-at-preserved : goal.loop-at-preserved
loop-at-preserved c =
    let is_false = sym (ap (λ k. bytes_eq k c.args.iri.now) c.as_str.ensures) ∙ sym c.eq.ensures ∙ c.if-eq.false in
    other_next _ _ c.loop-at.at c.index-answers-at.result c.loop-at-test.true c.index-answers-at.is is_false c.loop-at.invariant

pub returns : goal.returns
returns c = ap (answers_for c.args.iri.now) (sym (take_all c.loop-at.at c.args.answers.now c.loop-at-test.false)) ∙ c.loop-at.invariant
