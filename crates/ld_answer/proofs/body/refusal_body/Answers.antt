use Rattle.std.proofs.Common.{sym, ap, ◌∙◌, Some}
use Rattle.ld_answer.specs.Bodies.{refusal_body}
use Rattle.ld_answer.proofs.body.refusal_body.Goals as goal

pub returns-in_ok-own_text_body-in-NotAnEnvelope : goal.returns-in_ok-own_text_body-in-NotAnEnvelope
returns-in_ok-own_text_body-in-NotAnEnvelope c = ap Some c.in_ok-own_text_body-in-NotAnEnvelope.ensures ∙ sym (ap refusal_body c.in-NotAnEnvelope.is)
