use Rattle.std.proofs.Common.{ap, ◌∙◌, true, cond, Some, None, nat_cmp}
use Rattle.std.specs.BTreeMap.{is_at}
use Rattle.ld_tree.specs.Names.{name_cmp}
use Rattle.ld_history.specs.Words.{at_iri}
use Rattle.ld_history.proofs.IndexHolders.{marked, none_in}
use Rattle.ld_history.proofs.holders.list_first.Goals as goal

pub returns-clause-listed : goal.returns-clause-listed
returns-clause-listed c =
    marked c.args.holders.now.entries c.insert-2.new.self.entries c.args.iri.now (Some c.insert.new.self) (λ q. c.in_ok-insert-2.ensures.updates.0 q ∙ ap (λ k. cond (is_at (name_cmp k) q) (Some c.insert.new.self) (at_iri c.args.holders.now.entries q)) c.in_ok-key.ensures) None c.requires.absent c.args.session true
    (λ n. c.in_ok-insert.ensures.updates.0 n ∙ ap (cond (is_at (nat_cmp c.args.session) n) true) (none_in c.new-set.result n c.new-set.ensures.empty))
