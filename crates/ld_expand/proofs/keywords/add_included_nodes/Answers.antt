use Rattle.std.proofs.Common.{◌≡◌, ◌∙◌, ap, sym, true, rules, Option, Ok}
use Rattle.std.specs.List.{list_all}
use Rattle.ld_tree.specs.declared.tree.Tree.{Tree}
use Rattle.ld_rec.specs.Kinds.{is_node_object}
use Rattle.ld_rec.specs.Expansion.{included}
use Rattle.ld_expand.proofs.Rules.{included_gives}
use Rattle.ld_expand.proofs.keywords.add_included_nodes.Goals as goal

pub returns-in_ok-add_items-in-Some : goal.returns-in_ok-add_items-in-Some
returns-in_ok-add_items-in-Some c stock =
    let fit : list_all is_node_object c.in_ok-items-in-Some.items.items ≡ true = search rules in
    ap (λ (o : Option Tree). ((included o c.args.made.now).run stock).result) c.in-Some.is
    ∙ included_gives stock c.add_items.new.self c.args.made.now c.in-Some.tree c.in_ok-items-in-Some.items.items c.in_ok-name-in-Some.name c.in_ok-items-in-Some.ensures fit c.in_ok-name-in-Some.ensures
    c.in_ok-add_items-in-Some.ensures
