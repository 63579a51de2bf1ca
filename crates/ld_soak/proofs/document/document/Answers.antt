use Rattle.std.proofs.Common.{◌≡◌, ◌∙◌, ap, ap₂, sym}
use Rattle.std.specs.Prelude.{codes}
use Rattle.ld_tree.specs.Maps.{put}
use Rattle.ld_tree.specs.declared.tree.Tree.TheVariants as V
use Rattle.ld_rec.specs.Kinds.{map_of}
use Rattle.ld_soak.proofs.document.document.Goals as goal

pub returns : goal.returns
returns c =
    let context = c.in_ok-put.ensures ∙ ap₂ (λ m t. put m (codes "@context") t) c.empty-entries.ensures c.in_ok-text_tree.ensures in
    let id = c.in_ok-put-2.ensures ∙ ap₂ (λ m t. put m (codes "@id") t) context c.in_ok-iri_tree.ensures in
    let name = c.in_ok-put-3.ensures ∙ ap₂ (λ m t. put m (codes "n") t) id c.in_ok-name_tree.ensures in
    sym (V.rolls-Map c.put-4.new.entries) ∙ ap map_of (c.in_ok-put-4.ensures ∙ ap₂ (λ m t. put m (codes "k") t) name c.in_ok-node.ensures)
