use Rattle.std.proofs.Common.{◌∙◌}
use Rattle.ld_history.proofs.IndexHolders.{unlisted_more}
use Rattle.ld_history.proofs.holders.unlist_all.Goals as goal

pub loop-iri-preserved : goal.loop-iri-preserved
loop-iri-preserved c =
    let before = c.loop-iri.holders.entries in
    let after = c.unlist_holder.new.holders.entries in
    record {
      filled = c.unlist_holder.ensures.filled;
      there = λ q n other. c.unlist_holder.ensures.unlisted.there q n (λ e f. other f) ∙ c.loop-iri.invariant.there q n other;
      left = unlisted_more before after c.args.held.now c.args.session c.loop-iri.iri-index c.iri-item.result c.loop-iri-test.true c.iri-item.is c.unlist_holder.ensures.unlisted c.loop-iri.invariant.left;
    }
