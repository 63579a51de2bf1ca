use Rattle.std.proofs.Common.{◌≡◌, sym, ap, ◌∙◌, Some, None, take, get_or}
use Rattle.std.proofs.lemmas.List.{take_more}
use Rattle.ld_rec.specs.Terms.{texts_of}
use Rattle.ld_rec.specs.Words.{text_of}
use Rattle.ld_term.proofs.TextLists.{texts_push, texts_stop}
use Rattle.ld_term.proofs.containers.texts_of.Goals as goal

pub returns-in-None : goal.returns-in-None
returns-in-None c =
    let xs = c.as_slice-item-items.result.now in
    let i = c.loop-item.item-index in
    sym (ap texts_of (sym c.as_slice-item-items.ensures) ∙ texts_stop xs i c.item-item.result c.loop-item-test.true (ap text_of (sym c.item-item.is) ∙ sym c.in-None.ensures))

pub loop-item-preserved : goal.loop-item-preserved
loop-item-preserved c =
    let xs = c.as_slice-item-items.result.now in
    let i = c.loop-item.item-index in
    let here : text_of (get_or xs i c.item-item.result) ≡ Some c.in_ok-try_copy-in-Some.field-0 = ap text_of (sym c.item-item.is) ∙ sym c.in-Some.ensures ∙ ap Some (sym c.in_ok-try_copy-in-Some.ensures) in
    ap texts_of (take_more xs i c.item-item.result c.loop-item-test.true)
    ∙ texts_push (take i xs) c.loop-item.texts (get_or xs i c.item-item.result) c.in_ok-try_copy-in-Some.field-0 c.loop-item.invariant here
    ∙ ap Some (sym c.in_ok-push_name-in-Some.ensures)
