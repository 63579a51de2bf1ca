use Rattle.std.proofs.Common.{◌∙◌, ap, arith, take, drop}
use Rattle.std.proofs.lemmas.List.{take_rest}
use Rattle.std.specs.Io.KnownBytes.{append_known}
use Rattle.ld_edge.proofs.Known.{append_known-take}
use Rattle.ld_edge.proofs.writing.write_all.Goals as goal

pub loop-done-preserved : goal.loop-done-preserved
loop-done-preserved g c =
    let sink = g.K.Sink in
    let done = c.loop-done.done in
    let count = c.in_ok-done.field-0 in
    let text = c.args.bytes.now in
    let before = c.loop-done.invariant in (
      omega (arith, c.in_ok-done.ensures.within),
      c.in_ok-done.ensures.taken ∙ ap (λ rest. append_known (sink.outgoing c.loop-done.sink).held (take count rest)) (take_rest text done)
          ∙ ap (λ held. append_known held (take count (drop done text))) before.1
          ∙ append_known-take (sink.outgoing c.args.sink.now).held done count text,
      c.in_ok-done.ensures.keeps_count ∙ before.2,
      c.in_ok-done.ensures.keeps_beside ∙ before.3,
    )
