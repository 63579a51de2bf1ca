use Rattle.std.proofs.Common.{◌≤◌, ◌∙◌, length, subst}
use Rattle.std.proofs.lemmas.List.{take_all}
use Rattle.ld_tree.specs.Names.{same_sorted}
use Rattle.ld_store.proofs.snapshot.copied.Goals as goal

pub returns : goal.returns
returns c =
    let whole : length c.args.placed.now.0 ≤ c.loop-iri.iri-index
    = subst (λ entries. length entries ≤ c.loop-iri.iri-index) c.as_slice-iri-items.ensures.value c.loop-iri-test.false in
    same_sorted c.from_sorted.result c.args.placed.now (c.from_sorted.ensures ∙ c.loop-iri.invariant ∙ take_all c.loop-iri.iri-index c.args.placed.now.0 whole)
