use Rattle.std.proofs.Common.{◌≡◌, ap, sym, ◌∙◌}
use Rattle.std.proofs.lemmas.Result.{IfOk-weaker}
use Rattle.ld_tree.specs.CompactText.{text}
use Rattle.ld_head.specs.Outcomes.{body_of}
use Rattle.ld_head.proofs.Texts.{archive_text_is, history_text_is}
use Rattle.ld_head.proofs.body.body_text.Goals as goal

pub returns-in-ArchiveFull : goal.returns-in-ArchiveFull
returns-in-ArchiveFull c =
    let due = archive_text_is c.in-ArchiveFull.bytes ∙ sym (ap (λ o. text (body_of o)) c.in-ArchiveFull.is) in
    IfOk-weaker c.number_text-in-ArchiveFull.result _ (λ body. body ≡ text (body_of c.args.outcome.now)) (λ body is. is ∙ due) c.number_text-in-ArchiveFull.ensures

pub returns-in-HistoryFull : goal.returns-in-HistoryFull
returns-in-HistoryFull c =
    let due = history_text_is c.in-HistoryFull.events ∙ sym (ap (λ o. text (body_of o)) c.in-HistoryFull.is) in
    IfOk-weaker c.number_text-in-HistoryFull.result _ (λ body. body ≡ text (body_of c.args.outcome.now)) (λ body is. is ∙ due) c.number_text-in-HistoryFull.ensures
