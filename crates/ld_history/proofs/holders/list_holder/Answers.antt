use Rattle.std.proofs.Common.{◌≡◌, ap, sym, rules, true, Some, nat_cmp}
use Rattle.std.specs.List.{list_any}
use Rattle.std.specs.BTreeMap.{is_at}
use Rattle.ld_history.specs.Words.{at_iri}
use Rattle.ld_history.proofs.IndexHolders.{IsWritten, marked, same_members, on_err}
use Rattle.ld_history.proofs.holders.list_holder.Goals as goal

pub returns-in_err-first-in-Some-clause-unchanged : goal.returns-in_err-first-in-Some-clause-unchanged
returns-in_err-first-in-Some-clause-unchanged c =
    let holders = c.args.holders.now.entries in
    let was : at_iri holders c.args.iri.now ≡ Some c.in-Some.set.now = sym c.in-Some.ensures.value in
    let put : IsWritten holders (c.get_mut.follows.lender c.insert.new.self).entries c.args.iri.now (Some c.insert.new.self) = ((c.get_mut.follows.holds c.insert.new.self).3 (search rules)).0 in
    on_err c.from_residual.result (same_members holders (c.get_mut.follows.lender c.insert.new.self).entries c.args.iri.now (Some c.insert.new.self) put (Some c.in-Some.set.now) was
    (λ n. ap (list_any (is_at (nat_cmp n))) c.in_err-first-in-Some.ensures.err))

pub returns-in_ok-first-in-Some-clause-listed : goal.returns-in_ok-first-in-Some-clause-listed
returns-in_ok-first-in-Some-clause-listed c =
    let holders = c.args.holders.now.entries in
    let was : at_iri holders c.args.iri.now ≡ Some c.in-Some.set.now = sym c.in-Some.ensures.value in
    let put : IsWritten holders (c.get_mut.follows.lender c.insert.new.self).entries c.args.iri.now (Some c.insert.new.self) = ((c.get_mut.follows.holds c.insert.new.self).3 (search rules)).0 in
    marked holders (c.get_mut.follows.lender c.insert.new.self).entries c.args.iri.now (Some c.insert.new.self) put (Some c.in-Some.set.now) was c.args.session true c.in_ok-first-in-Some.ensures.updates.0
