use Rattle.std.proofs.Common.{◌≡◌, ◌∙◌, ap, ap₂, sym}
use Rattle.std.specs.Prelude.{codes}
use Rattle.ld_tree.specs.Maps.{put}
use Rattle.ld_tree.specs.declared.tree.Tree.TheVariants as V
use Rattle.ld_rec.specs.Kinds.{map_of}
use Rattle.ld_answer.proofs.body.load_fault_body.Goals as goal

pub returns : goal.returns
returns c =
    let after = c.in_ok-put.ensures ∙ ap₂ (λ m t. put m (codes "after") t) c.empty-entries.ensures c.number_tree.ensures in
    let before = c.in_ok-put-2.ensures ∙ ap₂ (λ m t. put m (codes "before") t) after c.number_tree-2.ensures in
    let flight = c.in_ok-put-3.ensures ∙ ap₂ (λ m t. put m (codes "flight") t) before c.number_tree-3.ensures in
    let iri = c.in_ok-put-4.ensures ∙ ap₂ (λ m t. put m (codes "iri") t) flight c.in_ok-text_tree.ensures in
    sym (V.rolls-Map c.put-5.new.entries) ∙ ap map_of (c.in_ok-put-5.ensures ∙ ap₂ (λ m t. put m (codes "own") t) iri c.in_ok-text_tree-2.ensures)
