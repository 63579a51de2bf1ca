use Rattle.std.proofs.Common.{◌≡◌, ◌∙◌, ◌++◌, ◌≤◌, take, vec_len, rules}
use Rattle.ld_items.proofs.Taken.{took_more, took_part}
use Rattle.ld_items.proofs.body.next_body.Goals as goal

pub returns-then-is_err-clause-body : goal.returns-then-is_err-clause-body
returns-then-is_err-clause-body g c =
    let f = c.fetch.ensures.came in
    let t = took_more (g.S.Source.incoming c.args.source.now) (g.S.Source.incoming c.loop-pending.source) (g.S.Source.incoming c.fetch.new.source) _ _ _ _ c.loop-pending.invariant.1 f.0 f.1 f.2 in
    (t.came, t.comes, tt)

pub loop-pending-preserved : goal.loop-pending-preserved
loop-pending-preserved g c =
    let f = c.fetch.ensures.came in
    let t = took_more (g.S.Source.incoming c.args.source.now) (g.S.Source.incoming c.loop-pending.source) (g.S.Source.incoming c.fetch.new.source) _ _ _ _ c.loop-pending.invariant.1 f.0 f.1 f.2 in
    let within : vec_len c.extend_from_slice.new.self ≤ c.args.length = search rules in
    let items : c.extend_from_slice.new.self.items ≡ c.loop-pending.body.items ++ take c.min-count.result c.fetch.new.self = search rules in (
      within,
      took_part _ _ _ _ _ _ _ c.min-count.result t items c.skip.ensures,
      c.in-Ok-true.ensures.keeps_count ∙ c.loop-pending.invariant.2,
      c.fetch.ensures.keeps_beside ∙ c.loop-pending.invariant.3,
    )
