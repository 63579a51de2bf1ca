use Rattle.std.proofs.Common.{sym, ap, subst, ◌∙◌, is_ok, true, false}
use Rattle.std.specs.Prelude.{if◌then◌else◌}
use Rattle.ld_tree.specs.Names.{same_sorted, Sorted}
use Rattle.std.specs.List.{insert}
use Rattle.std.specs.Map.{keys_of, lookup}
use Rattle.std.specs.BTreeMap.{insert_entry, is_at}
use Rattle.ld_tree.specs.Names.{AreInOrder, name_cmp, IsAt, IsPlace}
use Rattle.ld_tree.proofs.Search.{found, put_found, none_found, put_new, in_order_insert}
use Rattle.ld_tree.proofs.entries.Entries.put.Goals as goal
use Rattle.ld_tree.proofs.entries.Entries.put.Goals.{in-Ok-insert, in-Err-insert}

pub invariant_of-self-inside : goal.invariant_of-self-inside
invariant_of-self-inside g c =
    let name = c.args.name in
    let es = c.self.inside.entries.items in
    let at = subst (λ s. IsAt name (keys_of s) c.in-Ok.at) c.as_slice.ensures.value (subst (λ n. IsAt n (keys_of c.as_slice.result.now) c.in-Ok.at) c.as_str.ensures c.in-Ok.ensures) in (
      subst (λ s. AreInOrder (keys_of s)) (sym (put_found name es c.in-Ok.at c.index_mut.result.now c.self.inside.in_order at c.index_mut.ensures.value c.replace-former.new.dest))
          (in_order_insert name c.replace-former.new.dest es c.self.inside.in_order),
      tt,
    )

pub returns-in-Ok-clause-former : goal.returns-in-Ok-clause-former
returns-in-Ok-clause-former g c =
    let name = c.args.name in
    let es = c.self.inside.entries.items in
    let at = subst (λ s. IsAt name (keys_of s) c.in-Ok.at) c.as_slice.ensures.value (subst (λ n. IsAt n (keys_of c.as_slice.result.now) c.in-Ok.at) c.as_str.ensures c.in-Ok.ensures) in
    rw c.replace-former.ensures.value (sym (found name es c.in-Ok.at c.index_mut.result.now c.self.inside.in_order at c.index_mut.ensures.value) ∙ ap (λ (s : Sorted g.row.T.Denot). lookup (is_at (name_cmp name)) s.0) c.self.view_is)

pub returns-in-Ok-clause-entries : goal.returns-in-Ok-clause-entries
returns-in-Ok-clause-entries g c =
    let name = c.args.name in
    let es = c.self.inside.entries.items in
    let at = subst (λ s. IsAt name (keys_of s) c.in-Ok.at) c.as_slice.ensures.value (subst (λ n. IsAt n (keys_of c.as_slice.result.now) c.in-Ok.at) c.as_str.ensures c.in-Ok.ensures) in
    put_found name es c.in-Ok.at c.index_mut.result.now c.self.inside.in_order at c.index_mut.ensures.value c.replace-former.new.dest
    ∙ ap (λ v. insert_entry name_cmp es name v) c.replace-former.ensures.after ∙ ap (λ s. insert_entry name_cmp s name c.args.value) (ap (λ s. s.0) c.self.view_is)

pub returns-in-Ok-clause-map : goal.returns-in-Ok-clause-map
returns-in-Ok-clause-map g c = same_sorted _ _ (returns-in-Ok-clause-entries g c)

pub returns-after-insert-clause-former : goal.returns-after-insert-clause-former
returns-after-insert-clause-former g c =
    let name = c.args.name in
    let es = c.self.inside.entries.items in
    let place = subst (λ s. IsPlace name (keys_of s) c.in-Err.at) c.as_slice.ensures.value (subst (λ n. IsPlace n (keys_of c.as_slice.result.now) c.in-Err.at) c.as_str.ensures c.in-Err.ensures) in
    let none = sym (none_found name es c.in-Err.at place) ∙ ap (λ (s : Sorted g.row.T.Denot). lookup (is_at (name_cmp name)) s.0) c.self.view_is in
    elim c.match-insert.branch [
      | in-Ok-insert w ↦ rw w.result-is none
      | in-Err-insert w ↦ rw w.result-is tt
    ]

pub returns-after-insert-clause-entries : goal.returns-after-insert-clause-entries
returns-after-insert-clause-entries g c =
    let name = c.args.name in
    let es = c.self.inside.entries.items in
    let place = subst (λ s. IsPlace name (keys_of s) c.in-Err.at) c.as_slice.ensures.value (subst (λ n. IsPlace n (keys_of c.as_slice.result.now) c.in-Err.at) c.as_str.ensures c.in-Err.ensures) in
    let new = put_new name es c.in-Err.at c.args.value place ∙ ap (λ (s : Sorted g.row.T.Denot). insert_entry name_cmp s.0 name c.args.value) c.self.view_is in
    elim c.match-insert.branch [
      | in-Ok-insert w ↦ rw w.result-is (w.in-Ok-insert.ensures.items ∙ new)
      | in-Err-insert w ↦ rw w.result-is tt
    ]

pub returns-after-insert-clause-map : goal.returns-after-insert-clause-map
returns-after-insert-clause-map g c =
    let name = c.args.name in
    let es = c.self.inside.entries.items in
    let place = subst (λ s. IsPlace name (keys_of s) c.in-Err.at) c.as_slice.ensures.value (subst (λ n. IsPlace n (keys_of c.as_slice.result.now) c.in-Err.at) c.as_str.ensures c.in-Err.ensures) in
    let new = put_new name es c.in-Err.at c.args.value place ∙ ap (λ (s : Sorted g.row.T.Denot). insert_entry name_cmp s.0 name c.args.value) c.self.view_is in
    elim c.match-insert.branch [
      | in-Ok-insert w ↦ rw w.result-is (same_sorted _ _ (w.in-Ok-insert.ensures.items ∙ new))
      | in-Err-insert w ↦ rw w.result-is tt
    ]

pub returns-after-insert-clause-unchanged : goal.returns-after-insert-clause-unchanged
returns-after-insert-clause-unchanged g c =
    elim c.match-insert.branch [
      | in-Ok-insert w ↦ rw w.result-is tt
      | in-Err-insert w ↦ rw w.result-is (same_sorted _ _ (w.in-Err-insert.ensures.items ∙ ap (λ s. s.0) c.self.view_is))
    ]

pub invariant_of-self-inside-in-Err : goal.invariant_of-self-inside-in-Err
invariant_of-self-inside-in-Err g c =
    let name = c.args.name in
    let es = c.self.inside.entries.items in
    let place = subst (λ s. IsPlace name (keys_of s) c.in-Err.at) c.as_slice.ensures.value (subst (λ n. IsPlace n (keys_of c.as_slice.result.now) c.in-Err.at) c.as_str.ensures c.in-Err.ensures) in
    let new = subst (λ s. AreInOrder (keys_of s)) (sym (put_new name es c.in-Err.at c.args.value place)) (in_order_insert name c.args.value es c.self.inside.in_order) in (
      subst (λ s. AreInOrder (keys_of s)) (sym c.insert.ensures.items)
          (elim (is_ok c.insert.result) as (λ b. AreInOrder (keys_of (if b then insert es c.in-Err.at (name, c.args.value) else es))) [ true ↦ new | false ↦ c.self.inside.in_order ]),
      tt,
    )
