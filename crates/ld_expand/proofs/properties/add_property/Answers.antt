use Rattle.std.proofs.Common.{◌≡◌, ◌∙◌, ap, sym}
use Rattle.std.specs.Prelude.{option_copied}
use Rattle.ld_rec.specs.declared.def.Containers.{Containers}
use Rattle.ld_rec.specs.Places.{containers_of}
use Rattle.ld_rec.specs.Expansion.{graphed, listed}
use Rattle.ld_expand.proofs.Rules.{property_reversed}
use Rattle.ld_expand.proofs.properties.add_property.Goals as goal

pub returns-then-is_reverse : goal.returns-then-is_reverse
returns-then-is_reverse c stock =
    let containers = containers_of (option_copied c.args.def) in
    property_reversed stock c.add_subjects.new.made c.args.made.now c.args.iri (option_copied c.args.def) (graphed containers (listed containers c.args.tree)) c.in_ok-tree.tree c.in_ok-items.items.items
    c.add_subjects.result (sym c.if-is_reverse.ensures) c.in_ok-items.ensures
    (c.in_ok-tree.ensures ∙ ap (graphed c.containers_of-containers.result) c.in_ok-listed.ensures ∙ ap (λ (k : Containers). graphed k (listed k c.args.tree)) c.containers_of-containers.ensures)
    (c.add_subjects.ensures stock)
