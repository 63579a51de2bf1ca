use Rattle.std.proofs.Common.{◌∙◌, ap, subst, map}
use Rattle.ld_tree.specs.formers.entries.Entries.{on_value}
use Rattle.ld_nodes.specs.Places.{place_of}
use Rattle.ld_nodes.specs.Walks.{walk_of, Gives, text_in, identifier, identify, node_number, meet_node, link}
use Rattle.ld_nodes.specs.Visits.{child_of, visit_met, visit_content}
use Rattle.ld_nodes.proofs.walk.Walker.+visit.Goals as goal

pub visit_met-returns : goal.visit_met-returns
visit_met-returns t c =
    let w = walk_of c.args.self.now in
    let graph = c.args.graph in
    let id = c.args.id.now in
    let copy = c.in_ok-try_copy.ensures in
    let node = c.in_ok-node.ensures.number ∙ ap (λ n. node_number graph n w) copy in
    let met = c.in_ok-node.ensures.walk ∙ ap (λ n. meet_node graph n w) copy in
    let linked = c.in_ok-link.ensures ∙ (λ i. link (place_of c.args.place) id (node i) (met i)) in
    subst (Gives c.visit_content.result (walk_of c.visit_content.new.self)) (λ i. visit_content (map (on_value child_of) c.args.entries.now.0) c.args.element.now graph id (node i) (linked i)) c.visit_content.ensures

pub visit_node-returns : goal.visit_node-returns
visit_node-returns t c =
    let w = walk_of c.args.self.now in
    let given = c.text_in.ensures ∙ ap text_in c.get.ensures in
    let id = c.in_ok-id.ensures.name ∙ ap (λ g. identifier g w) given in
    let named = c.in_ok-id.ensures.walk ∙ ap (λ g. identify g w) given in
    subst (Gives c.visit_met.result (walk_of c.visit_met.new.self)) (λ i. visit_met (map (on_value child_of) c.args.entries.now.0) c.args.element.now c.args.graph (place_of c.args.place) (id i) (named i)) c.visit_met.ensures
