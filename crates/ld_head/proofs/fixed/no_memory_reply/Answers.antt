use Rattle.std.proofs.Common.{◌∙◌}
use Rattle.ld_head.proofs.fixed.no_memory_reply.Goals as goal

pub returns : goal.returns
returns c = c.as_bytes.ensures.value ∙ c.no_memory_text.ensures c.args.marks.interim
