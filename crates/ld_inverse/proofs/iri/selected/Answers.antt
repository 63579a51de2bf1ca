use Rattle.std.proofs.Common.{◌≡◌, ℕ, List, Option, None, Ok, true, false, ap, sym, ◌∙◌}
use Rattle.std.specs.Option.{option_copied}
use Rattle.ld_rec.specs.Compacting.{selected}
use Rattle.ld_inverse.proofs.Unmapped.{not_selected, not_without_vocab}
use Rattle.ld_inverse.proofs.iri.selected.Goals as goal
use Rattle.ld_inverse.proofs.iri.selected.Goals.{then-not-vocab-via-then-not-vocab, then-not-vocab-via-else-not-vocab+then-not-maps}

pub returns-then-not-vocab : goal.returns-then-not-vocab
returns-then-not-vocab g c =
    let context = g.V.View.flat c.args.ctx.now in
    elim c.then-not-vocab.branch [
      | then-not-vocab-via-then-not-vocab w ↦ not_without_vocab context c.args.iri.now (option_copied c.args.value) c.args.vocab c.args.reverse w.if-not-vocab.true
      | then-not-vocab-via-else-not-vocab+then-not-maps w ↦ not_selected context c.args.iri.now (option_copied c.args.value) c.args.vocab c.args.reverse w.maps.result (w.maps.ensures context c.requires.inverse) w.if-not-maps.true
    ]
