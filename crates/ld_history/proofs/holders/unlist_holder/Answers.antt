use Rattle.std.proofs.Common.{◌≡◌, sym, ◌∙◌, rules, false, Some, None, length}
use Rattle.ld_history.specs.Words.{at_iri}
use Rattle.ld_history.proofs.IndexHolders.{IsWritten, marked, written_twice, none_in, empty_from}
use Rattle.ld_history.proofs.holders.unlist_holder.Goals as goal

pub returns-then-is_empty-clause-unlisted : goal.returns-then-is_empty-clause-unlisted
returns-then-is_empty-clause-unlisted c =
    let holders = c.args.holders.now.entries in
    let middle = (c.get_mut.follows.lender c.remove.new.self).entries in
    let was : at_iri holders c.args.iri.now ≡ Some c.in-Some.set.now = sym c.in-Some.ensures.value in
    let put : IsWritten holders middle c.args.iri.now (Some c.remove.new.self) = ((c.get_mut.follows.holds c.remove.new.self).3 (search rules)).0 in
    let gone : IsWritten middle c.remove-then-is_empty.new.self.entries c.args.iri.now None = c.remove-then-is_empty.ensures.updates.0 in
    let none : length c.remove.new.self.keys ≡ 0 = search rules in
    marked holders c.remove-then-is_empty.new.self.entries c.args.iri.now None (written_twice holders middle c.remove-then-is_empty.new.self.entries c.args.iri.now (Some c.remove.new.self) None put gone) (Some c.in-Some.set.now) was
    c.args.session false (λ n. sym (none_in c.remove.new.self n (empty_from c.remove.new.self.keys none)) ∙ c.remove.ensures.updates.0 n)

pub returns-else-is_empty-clause-unlisted : goal.returns-else-is_empty-clause-unlisted
returns-else-is_empty-clause-unlisted c =
    let holders = c.args.holders.now.entries in
    let was : at_iri holders c.args.iri.now ≡ Some c.in-Some.set.now = sym c.in-Some.ensures.value in
    let put : IsWritten holders (c.get_mut.follows.lender c.remove.new.self).entries c.args.iri.now (Some c.remove.new.self) = ((c.get_mut.follows.holds c.remove.new.self).3 (search rules)).0 in
    marked holders (c.get_mut.follows.lender c.remove.new.self).entries c.args.iri.now (Some c.remove.new.self) put (Some c.in-Some.set.now) was c.args.session false c.remove.ensures.updates.0
