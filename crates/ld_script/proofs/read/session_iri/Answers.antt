use Rattle.std.proofs.Common.{sym}
use Rattle.ld_script.proofs.Arguments.{no_session, no_iri}
use Rattle.ld_script.proofs.read.session_iri.Goals as goal

pub returns-in_err-session-2 : goal.returns-in_err-session-2
returns-in_err-session-2 c = rw c.from_residual-in_err-session-2.ensures (no_session c.in_ok-session.ensures c.in_err-session-2.ensures)

pub returns-else-is_word : goal.returns-else-is_word
returns-else-is_word c = no_iri c.in_ok-session.ensures (sym c.if-is_word.ensures)
