use Rattle.std.proofs.Common.{ap, sym, ◌∙◌}
use Rattle.std.specs.Prelude.{string_bytes}
use Rattle.std.specs.Map.{lookup}
use Rattle.std.specs.BTreeMap.{insert_entry, is_at}
use Rattle.ld_tree.specs.Names.{Sorted, same_sorted, name_cmp}
use Rattle.ld_tree.specs.Maps.{find as value_at, put as with_put}
use Rattle.ld_tree.specs.Texts.{named}
use Rattle.ld_tree.proofs.Texts.{lookup_named, insert_named, in_order_put}
use Rattle.ld_tree.proofs.name_map.NameMap.put.Goals as goal
use Rattle.ld_tree.proofs.name_map.NameMap.put.Goals.{in-Ok, in-Err}

pub invariant_of-self-inside : goal.invariant_of-self-inside
invariant_of-self-inside g c =
    (in_order_put c.args.value c.insert.result c.into_string.result c.self.inside.by_name.entries c.insert.new.self.entries c.self.inside.in_order c.insert.ensures.entries c.insert.ensures.err, tt)

pub returns-clause-former : goal.returns-clause-former
returns-clause-former g c =
    let es = c.self.inside.by_name.entries in
    let there = lookup_named (string_bytes c.into_string.result) es ∙ ap (λ n. lookup (is_at (name_cmp n)) (named es)) c.into_string.ensures ∙ ap (λ (s : Sorted g.row.T.Denot). value_at s c.args.name) c.self.view_is in
    elim c.match-insert.branch [
      | in-Ok w ↦ rw w.result-is (w.in-Ok.ensures.old ∙ there)
      | in-Err w ↦ rw w.result-is tt
    ]

pub returns-clause-map : goal.returns-clause-map
returns-clause-map g c =
    let es = c.self.inside.by_name.entries in
    let with = insert_named c.args.value c.into_string.result es ∙ ap (λ n. insert_entry name_cmp (named es) n c.args.value) c.into_string.ensures ∙ ap (λ (s : Sorted g.row.T.Denot). (with_put s c.args.name c.args.value).0) c.self.view_is in
    elim c.match-insert.branch [
      | in-Ok w ↦ rw w.result-is (same_sorted _ _ (ap named w.in-Ok.ensures.entries ∙ with))
      | in-Err w ↦ rw w.result-is tt
    ]

pub returns-clause-absent : goal.returns-clause-absent
returns-clause-absent g c =
    let es = c.self.inside.by_name.entries in
    let there = lookup_named (string_bytes c.into_string.result) es ∙ ap (λ n. lookup (is_at (name_cmp n)) (named es)) c.into_string.ensures ∙ ap (λ (s : Sorted g.row.T.Denot). value_at s c.args.name) c.self.view_is in
    elim c.match-insert.branch [
      | in-Ok w ↦ rw w.result-is tt
      | in-Err w ↦ rw w.result-is (sym there ∙ w.in-Err.ensures.absent)
    ]

pub returns-clause-unchanged : goal.returns-clause-unchanged
returns-clause-unchanged g c =
    elim c.match-insert.branch [
      | in-Ok w ↦ rw w.result-is tt
      | in-Err w ↦ rw w.result-is (same_sorted _ _ (ap named w.in-Err.ensures.err ∙ ap (λ (s : Sorted g.row.T.Denot). s.0) c.self.view_is))
    ]
