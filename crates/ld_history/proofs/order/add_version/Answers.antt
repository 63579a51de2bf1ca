use Rattle.std.proofs.Common.{◌≡◌, ◌∙◌, ℕ, List, refl, subst, nat_cmp}
use Rattle.std.specs.Prelude.{Result, Ok, Err, IsOk, is_ok, if◌then◌else◌}
use Rattle.std.specs.List.Sorted.{IsBinarySearchResult}
use Rattle.ld_history.proofs.Rising.{added, has_added, has_still, has_not}
use Rattle.ld_history.proofs.order.add_version.Goals as goal

ok_items : {T E : Type 0} (r : Result T E) (a b : List ℕ) → IsOk r → (if is_ok r then a else b) ≡ a
ok_items (Ok x) a b h = refl
ok_items (Err e) a b h = cc

pub returns-in-Err-clause-sorted : goal.returns-in-Err-clause-sorted
returns-in-Err-clause-sorted c =
    let ns = c.args.free.now.items in
    let found = subst (λ l. IsBinarySearchResult (λ y. nat_cmp y c.args.version) l c.binary_search.result) c.deref.ensures.value c.binary_search.ensures.position in
    let room = c.requires.room (has_not ns c.args.version c.requires.sorted c.binary_search.result found c.in-Err.place c.in-Err.is) in
    added ns c.args.version c.requires.sorted c.binary_search.result found c.in-Err.place c.in-Err.is c.insert.new.self.items (c.insert.ensures.items ∙ ok_items c.insert.result _ _ (c.insert.ensures.succeeds room))

pub returns-in-Err-clause-has : goal.returns-in-Err-clause-has
returns-in-Err-clause-has c =
    let ns = c.args.free.now.items in
    let found = subst (λ l. IsBinarySearchResult (λ y. nat_cmp y c.args.version) l c.binary_search.result) c.deref.ensures.value c.binary_search.ensures.position in
    let room = c.requires.room (has_not ns c.args.version c.requires.sorted c.binary_search.result found c.in-Err.place c.in-Err.is) in
    has_added ns c.args.version c.requires.sorted c.binary_search.result found c.in-Err.place c.insert.new.self.items (c.insert.ensures.items ∙ ok_items c.insert.result _ _ (c.insert.ensures.succeeds room))

pub returns-in_default-clause-has : goal.returns-in_default-clause-has
returns-in_default-clause-has c =
    let found = subst (λ l. IsBinarySearchResult (λ y. nat_cmp y c.args.version) l c.binary_search.result) c.deref.ensures.value c.binary_search.ensures.position in
    has_still c.args.free.now.items c.args.version c.requires.sorted c.binary_search.result found c.in_default.field-0 c.in_default.is
