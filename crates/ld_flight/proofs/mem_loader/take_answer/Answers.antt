use Rattle.std.proofs.Common.{rules, ◌≡◌, [], ◌∷◌, ◌++◌, refl, sym, ◌∙◌, ap, subst, drop, ◌+◌, ◌≤◌, length}
use Rattle.ld_flight.specs.Loads.{longest_text}
use Rattle.ld_flight.specs.Memory.{answers_for, answer_in, IsAnswerAt}
use Rattle.ld_flight.proofs.Queues.{only_stays, one_goes, is_first, at_place, told, answer_at, short_at, inside}
use Rattle.ld_flight.proofs.mem_loader.take_answer.Goals as goal

pub returns-in-Some-clause-next : goal.returns-in-Some-clause-next
returns-in-Some-clause-next c =
    let at = subst (λ xs. IsAnswerAt c.in-Some.answer.0 c.in-Some.answer.1 xs c.args.at) c.as_slice.ensures.value (told _ _ _ c.in-Some.is c.in_ok-only.ensures.last).1 in
    is_first _ _ c.args.at _ c.requires.first (at_place c.args.pass.now.iri _ c.args.at _ _ c.requires.first at)

pub returns-in-Some-clause-left : goal.returns-in-Some-clause-left
returns-in-Some-clause-left c =
    let last = subst (λ xs. answers_for c.args.pass.now.iri (drop (c.args.at + 1) xs) ≡ []) c.as_slice.ensures.value (told _ _ _ c.in-Some.is c.in_ok-only.ensures.last).0 in
    only_stays _ _ c.args.at c.requires.first last

pub returns-in-Some-clause-given : goal.returns-in-Some-clause-given
returns-in-Some-clause-given c =
    let at = subst (λ xs. IsAnswerAt c.in-Some.answer.0 c.in-Some.answer.1 xs c.args.at) (c.as_slice.ensures.value ∙ sym c.as_slice-2.ensures.value) (told _ _ _ c.in-Some.is c.in_ok-only.ensures.last).1 in
    c.in_ok-push.ensures.items ∙ ap (λ entry. c.args.given.now.items ++ entry ∷ []) (c.in_ok-entry.ensures _ _ at)

pub returns-in-Some-clause-length : goal.returns-in-Some-clause-length
returns-in-Some-clause-length c =
    let at = subst (λ xs. IsAnswerAt c.in-Some.answer.0 c.in-Some.answer.1 xs c.args.at) c.as_slice.ensures.value (told _ _ _ c.in-Some.is c.in_ok-only.ensures.last).1 in
    let short = short_at _ _ c.args.at c.requires.first.kept c.requires.first (inside _ _ c.args.at c.requires.first) c.requires.short in
    subst (λ text. length text ≤ longest_text) (ap (λ answer. answer.1) (at_place c.args.pass.now.iri _ c.args.at _ _ c.requires.first at)) short

pub returns-in-None-clause-next : goal.returns-in-None-clause-next
returns-in-None-clause-next c =
    is_first _ _ c.args.at _ c.requires.first (at_place c.args.pass.now.iri _ c.args.at _ _ c.requires.first (answer_at _ _ c.args.at c.remove-url.result c.requires.first c.remove-url.ensures.value))

pub returns-in-None-clause-left : goal.returns-in-None-clause-left
returns-in-None-clause-left c = λ iri.
    let some = subst (λ xs. answers_for c.args.pass.now.iri (drop (c.args.at + 1) xs) ≡ [] → ⊥) c.as_slice.ensures.value (c.in_ok-only.ensures.not_last c.in-None.is) in
    ap (answers_for iri) c.remove-url.ensures.items ∙ one_goes c.args.pass.now.iri _ c.args.at c.requires.first some iri

pub returns-in-None-clause-given : goal.returns-in-None-clause-given
returns-in-None-clause-given c =
    let at = subst (λ xs. IsAnswerAt c.remove-url.result.1 c.remove-url.result.2 xs c.args.at) (sym c.as_slice-2.ensures.value) (answer_at _ _ c.args.at c.remove-url.result c.requires.first c.remove-url.ensures.value) in
    c.in_ok-push.ensures.items ∙ ap (λ entry. c.args.given.now.items ++ entry ∷ []) (c.in_ok-entry.ensures _ _ at)
