use Rattle.std.proofs.Common.{sym, subst, nat_cmp}
use Rattle.std.specs.List.Sorted.{IsStrictlySortedBy, IsBinarySearchResult}
use Rattle.ld_history.proofs.Rising.{cut_rises, has_dropped, has_none}
use Rattle.ld_history.proofs.order.drop_version.Goals as goal

pub returns-in-Ok-clause-sorted : goal.returns-in-Ok-clause-sorted
returns-in-Ok-clause-sorted c = subst (IsStrictlySortedBy nat_cmp) (sym c.remove.ensures.items) (cut_rises c.args.free.now.items c.in-Ok.place c.requires.sorted)

pub returns-in-Ok-clause-has : goal.returns-in-Ok-clause-has
returns-in-Ok-clause-has c =
    let found = subst (λ l. IsBinarySearchResult (λ y. nat_cmp y c.args.version) l c.binary_search.result) c.deref.ensures.value c.binary_search.ensures.position in
    has_dropped c.args.free.now.items c.args.version c.requires.sorted c.binary_search.result found c.in-Ok.place c.in-Ok.is c.remove.new.self.items c.remove.ensures.items

pub returns-in_default-clause-has : goal.returns-in_default-clause-has
returns-in_default-clause-has c =
    let found = subst (λ l. IsBinarySearchResult (λ y. nat_cmp y c.args.version) l c.binary_search.result) c.deref.ensures.value c.binary_search.ensures.position in
    has_none c.args.free.now.items c.args.version c.requires.sorted c.binary_search.result found c.in_default.field-0 c.in_default.is
