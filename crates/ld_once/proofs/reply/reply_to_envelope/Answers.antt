use Rattle.std.proofs.Common.{refl, inl, inr}
use Rattle.ld_once.proofs.Steps.{IfOk-map, OnErr-always, OnErr-both}
use Rattle.ld_once.proofs.reply.reply_to_envelope.Goals as goal

pub returns-in-Ok : goal.returns-in-Ok
returns-in-Ok g c = record {
  reply = IfOk-map c.answer.result _ _ (λ r reached. inr (record { envelope = c.in-Ok.envelope; accepted = c.in-Ok.ensures.accepted; reached = reached })) c.answer.ensures.reached;
  unfinished = OnErr-both c.answer.result _ _ _
      (λ in_part never_falls. inr (record {
        op = c.args.op;
        command_is = refl;
        envelope = c.in-Ok.envelope;
        accepted = c.in-Ok.ensures.accepted;
        in_part = in_part;
        never_falls = never_falls;
      }))
      c.answer.ensures.in_part c.answer.ensures.never_falls;
}

pub returns-in-Err : goal.returns-in-Err
returns-in-Err g c = record {
  reply = IfOk-map c.refuse_envelope.result _ _ (λ r refusal. inl (record {
    refusal = c.in-Err.e;
    refused = c.in-Err.ensures.refused;
    body = refusal.1;
    status_is = refusal.0;
    unasked = refl;
  })) c.refuse_envelope.ensures;
  unfinished = OnErr-always c.refuse_envelope.result _ (inl refl);
}
