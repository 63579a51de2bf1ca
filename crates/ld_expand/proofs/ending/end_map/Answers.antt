use Rattle.std.proofs.Common.{◌≡◌, ◌∙◌, ap, Ok, rules, Option}
use Rattle.std.specs.Prelude.{option_copied, option_and_then}
use Rattle.ld_tree.specs.declared.tree.Tree.{Tree}
use Rattle.ld_rec.specs.Outcome.{Refuses}
use Rattle.ld_rec.specs.Expansion.{ended, unless_dropped}
use Rattle.ld_expand.proofs.Endings.{ended_refuses, ended_gives}
use Rattle.ld_expand.proofs.ending.end_map.Goals as goal

pub returns-in_err-tree : goal.returns-in_err-tree
returns-in_err-tree c stock =
    let ends : Refuses c.in_err-tree.field-0.0 ((ended (option_copied c.args.property) c.args.made).run stock).result =
    ended_refuses stock (option_copied c.args.property) c.in_ok-entries.entries c.args.made c.in_ok-entries.ensures c.in_err-tree.field-0.0 (c.in_err-tree.ensures stock) in
    search (rules, ends)

pub returns-in-None : goal.returns-in-None
returns-in-None c stock =
    ended_gives stock (option_copied c.args.property) c.in_ok-entries.entries c.args.made c.in_ok-entries.ensures c.in_ok-tree.field-0 (c.in_ok-tree.ensures stock)
    ∙ ap (λ (o : Option Tree). Ok (option_and_then (unless_dropped (option_copied c.args.property)) o)) c.in-None.is
