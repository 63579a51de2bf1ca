use Rattle.std.proofs.Common.{ap, sym, subst, ◌∙◌, Some}
use Rattle.std.specs.Option.{option_copied_mut}
use Rattle.std.specs.Map.{keys_of}
use Rattle.std.specs.BTreeMap.{insert_entry}
use Rattle.ld_tree.specs.Names.{AreInOrder, Sorted, same_sorted, name_cmp}
use Rattle.ld_tree.specs.Maps.{find as value_at, put as with_put}
use Rattle.ld_tree.specs.Texts.{named}
use Rattle.ld_tree.proofs.Texts.{lookup_named, set_named, set_is_put, in_order_set}
use Rattle.ld_tree.proofs.name_map.NameMap.replace.Goals as goal
use Rattle.ld_tree.proofs.name_map.NameMap.replace.Goals.{in-Some, in-None}

pub invariant_of-self-inside : goal.invariant_of-self-inside
invariant_of-self-inside g c =
    let name = c.args.name.now in
    let es = c.self.inside.by_name.entries in
    let there = sym (lookup_named name es) ∙ sym c.get_mut.ensures.value ∙ ap option_copied_mut c.in-Some.is in
    let is = (c.get_mut.follows.holds c.replace.new.dest).0 in
    (subst (λ l. AreInOrder (keys_of l)) (sym (ap named is ∙ set_named c.replace.new.dest name es)) (in_order_set name c.replace.new.dest (named es) c.in-Some.place.now c.self.inside.in_order there), tt)

pub returns-clause-former : goal.returns-clause-former
returns-clause-former g c =
    let name = c.args.name.now in
    let there = ap (λ (s : Sorted g.row.T.Denot). value_at s name) (sym c.self.view_is) ∙ sym (lookup_named name c.self.inside.by_name.entries) ∙ sym c.get_mut.ensures.value in
    elim c.match-get_mut.branch [
      | in-Some w ↦ rw w.result-is (there ∙ ap option_copied_mut w.in-Some.is ∙ ap Some (sym w.replace.ensures.value))
      | in-None w ↦ rw w.result-is tt
    ]

pub returns-clause-map : goal.returns-clause-map
returns-clause-map g c =
    let name = c.args.name.now in
    let es = c.self.inside.by_name.entries in
    elim c.match-get_mut.branch [
      | in-Some w ↦
          let value = w.replace.new.dest in
          let there = sym (lookup_named name es) ∙ sym c.get_mut.ensures.value ∙ ap option_copied_mut w.in-Some.is in
          let is = (c.get_mut.follows.holds value).0 in
          rw (w.result-is, w.self-inside-is) (same_sorted _ _ (ap named is ∙ set_named value name es ∙ set_is_put name value (named es) w.in-Some.place.now c.self.inside.in_order there
          ∙ ap (λ v. insert_entry name_cmp (named es) name v) w.replace.ensures.after ∙ ap (λ (s : Sorted g.row.T.Denot). (with_put s name c.args.value).0) c.self.view_is))
      | in-None w ↦ rw w.result-is tt
    ]

pub returns-clause-absent : goal.returns-clause-absent
returns-clause-absent g c =
    let name = c.args.name.now in
    let there = ap (λ (s : Sorted g.row.T.Denot). value_at s name) (sym c.self.view_is) ∙ sym (lookup_named name c.self.inside.by_name.entries) ∙ sym c.get_mut.ensures.value in
    elim c.match-get_mut.branch [
      | in-Some w ↦ rw w.result-is tt
      | in-None w ↦ rw w.result-is (there ∙ ap option_copied_mut w.in-None.is)
    ]

pub returns-clause-unchanged : goal.returns-clause-unchanged
returns-clause-unchanged g c =
    elim c.match-get_mut.branch [
      | in-Some w ↦ rw w.result-is tt
      | in-None w ↦ rw (w.result-is, w.self-inside-is) (same_sorted _ _ (ap (λ m. named m.entries) c.get_mut.follows.holds-at-none ∙ ap (λ (s : Sorted g.row.T.Denot). s.0) c.self.view_is))
    ]
