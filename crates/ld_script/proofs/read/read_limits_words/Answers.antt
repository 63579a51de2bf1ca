use Rattle.std.proofs.Common.{◌∙◌, ap}
use Rattle.ld_history.specs.declared.limits.Limits.{Limits}
use Rattle.ld_script.proofs.Arguments.{no_limits_few, no_contexts, no_held, no_events, no_bytes}
use Rattle.ld_script.proofs.read.read_limits_words.Goals as goal

pub returns-in_err-held : goal.returns-in_err-held
returns-in_err-held c = rw c.from_residual-in_err-held.ensures (no_limits_few c.in_ok-contexts.ensures c.in_err-held.ensures)

pub returns-in_err-contexts-2 : goal.returns-in_err-contexts-2
returns-in_err-contexts-2 c = rw c.from_residual-in_err-contexts-2.ensures (no_contexts c.in_ok-contexts.ensures c.in_ok-held.ensures (c.from.ensures ∙ ap (λ (l : Limits). l.contexts) c.server-server.ensures) c.in_err-contexts-2.ensures)

pub returns-in_err-held-2 : goal.returns-in_err-held-2
returns-in_err-held-2 c = rw c.from_residual-in_err-held-2.ensures (no_held c.in_ok-contexts.ensures c.in_ok-held.ensures (c.from-2.ensures ∙ ap (λ (l : Limits). l.held) c.server-server.ensures) c.in_err-held-2.ensures)

pub returns-in_err-events : goal.returns-in_err-events
returns-in_err-events c = rw c.from_residual-in_err-events.ensures (no_events c.in_ok-contexts.ensures c.in_ok-held.ensures (ap (λ (l : Limits). l.events) c.server-server.ensures) c.in_err-events.ensures)

pub returns-in_err-bytes : goal.returns-in_err-bytes
returns-in_err-bytes c = rw c.from_residual-in_err-bytes.ensures (no_bytes c.in_ok-contexts.ensures c.in_ok-held.ensures (ap (λ (l : Limits). l.bytes) c.server-server.ensures) c.in_err-bytes.ensures)
