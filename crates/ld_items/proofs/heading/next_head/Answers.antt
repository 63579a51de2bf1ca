use Rattle.std.proofs.Common.{◌∙◌}
use Rattle.ld_items.proofs.Taken.{head_ended, head_failed, head_more, head_too_long, head_unknown, head_whole, took_more}
use Rattle.ld_items.proofs.heading.next_head.Goals as goal

pub returns-in-Err-clause-heading : goal.returns-in-Err-clause-heading
returns-in-Err-clause-heading g c =
    let f = c.fetch.ensures.came in
    head_failed _ _ _ _ _ (took_more (g.S.Source.incoming c.args.source.now) (g.S.Source.incoming c.loop.source) (g.S.Source.incoming c.fetch.new.source) _ _ _ _ c.loop.invariant.0 f.0 f.1 f.2) c.fetch.new.self c.ending.result c.in-Err.ensures.failed c.ending.ensures.opens c.ending.ensures.not_due

pub returns-in-Ok-false-clause-heading : goal.returns-in-Ok-false-clause-heading
returns-in-Ok-false-clause-heading g c =
    let f = c.fetch.ensures.came in
    head_ended _ _ _ _ _ (took_more (g.S.Source.incoming c.args.source.now) (g.S.Source.incoming c.loop.source) (g.S.Source.incoming c.fetch.new.source) _ _ _ _ c.loop.invariant.0 f.0 f.1 f.2) c.fetch.new.self c.ending-in-Ok-false.result (c.in-Ok-false.ensures.end c.in-Ok-false.field-0-test).0 c.ending-in-Ok-false.ensures.opens c.ending-in-Ok-false.ensures.not_due

pub returns-in-Whole-clause-heading : goal.returns-in-Whole-clause-heading
returns-in-Whole-clause-heading g c =
    let f = c.fetch.ensures.came in
    head_whole _ _ _ _ _ (took_more (g.S.Source.incoming c.args.source.now) (g.S.Source.incoming c.loop.source) (g.S.Source.incoming c.fetch.new.source) _ _ _ _ c.loop.invariant.0 f.0 f.1 f.2) c.skip.new.self c.bytes.result.now _ _ c.in-Whole.used c.told.result c.bytes.ensures c.in-Whole.ensures.1 c.skip.ensures c.as_slice.ensures c.told.ensures

pub returns-in-TooLong-clause-heading : goal.returns-in-TooLong-clause-heading
returns-in-TooLong-clause-heading g c =
    let f = c.fetch.ensures.came in
    head_too_long _ _ _ _ _ (took_more (g.S.Source.incoming c.args.source.now) (g.S.Source.incoming c.loop.source) (g.S.Source.incoming c.fetch.new.source) _ _ _ _ c.loop.invariant.0 f.0 f.1 f.2) c.fetch.new.self c.bytes.result.now c.bytes.ensures c.in-TooLong.ensures

pub returns-in-NoMemory-clause-heading : goal.returns-in-NoMemory-clause-heading
returns-in-NoMemory-clause-heading g c =
    let f = c.fetch.ensures.came in
    head_unknown _ _ _ _ _ (took_more (g.S.Source.incoming c.args.source.now) (g.S.Source.incoming c.loop.source) (g.S.Source.incoming c.fetch.new.source) _ _ _ _ c.loop.invariant.0 f.0 f.1 f.2) c.fetch.new.self

pub loop-preserved : goal.loop-preserved
loop-preserved g c =
    let f = c.fetch.ensures.came in (
      head_more _ _ _ _ _ (took_more (g.S.Source.incoming c.args.source.now) (g.S.Source.incoming c.loop.source) (g.S.Source.incoming c.fetch.new.source) _ _ _ _ c.loop.invariant.0 f.0 f.1 f.2) c.bytes.result.now c.in-More.more c.clear.new.self c.bytes.ensures c.in-More.ensures c.clear.ensures,
      c.in-Ok-true.ensures.keeps_count ∙ c.loop.invariant.1,
      c.fetch.ensures.keeps_beside ∙ c.loop.invariant.2,
    )
