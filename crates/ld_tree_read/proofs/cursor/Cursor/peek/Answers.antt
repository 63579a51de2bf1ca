use Rattle.std.proofs.Common.{suc, drop, drop-cons}
use Rattle.ld_tree_read.proofs.cursor.Cursor.peek.Goals as goal

pub returns-clause-some : goal.returns-clause-some
returns-clause-some c = (drop (suc c.args.self.now.at) c.args.self.now.input.now, drop-cons c.args.self.now.input.now c.args.self.now.at 0 c.if-self.false)
