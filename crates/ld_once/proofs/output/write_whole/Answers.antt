use Rattle.std.proofs.Common.{◌∙◌, ap, arith, take, drop}
use Rattle.std.proofs.lemmas.List.{take_rest}
use Rattle.std.specs.Io.KnownBytes.{append_known}
use Rattle.ld_once.proofs.Known.{append_known-take}
use Rattle.ld_once.proofs.output.write_whole.Goals as goal

pub loop-done-preserved : goal.loop-done-preserved
loop-done-preserved g c =
    let done = c.loop-done.done in
    let count = c.in_ok-done.field-0 in
    let text = c.args.text.now in
    let written = c.loop-done.invariant.1 in (
      omega (arith, c.in_ok-done.ensures.within),
      (
        c.in_ok-done.ensures.taken ∙ ap (λ rest. append_known (g.K.Sink.outgoing c.loop-done.output).held (take count rest)) (take_rest text done)
            ∙ ap (λ held. append_known held (take count (drop done text))) written.0
            ∙ append_known-take (g.K.Sink.outgoing c.args.output.now).held done count text,
        c.in_ok-done.ensures.keeps_count ∙ written.1,
      ),
    )
