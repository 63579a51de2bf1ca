use Rattle.std.proofs.Common.{◌≡◌, ◌∙◌, [], None, Some, ap, ap₂, sym, subst}
use Rattle.ld_tree.specs.Reading.{reads, past_space, past_mark}
use Rattle.ld_tree.specs.declared.tree.Tree.{Tree}
use Rattle.ld_tree_read.specs.Refusals.{first_refusal, refusal}
use Rattle.ld_tree_read.specs.Stack.{Means}
use Rattle.ld_tree_read.specs.State.{start, value}
use Rattle.ld_tree_read.specs.Steps.{Known}
use Rattle.ld_tree_read.proofs.Between.{spaced_value}
use Rattle.ld_tree_read.proofs.Clear.{not_read, answered, answered_err}
use Rattle.ld_tree_read.proofs.Exits.{if_ok, if_err, known, known_more, passed_on}
use Rattle.ld_tree_read.proofs.Steps.{read_from}
use Rattle.ld_tree_read.proofs.parse.read_tree.Goals as goal

pub returns-in_err-skip_mark-clause-refused : goal.returns-in_err-skip_mark-clause-refused
returns-in_err-skip_mark-clause-refused c =
    let bytes = c.args.bytes.now in
    let e = c.in_err-skip_mark.field-0.0 in
    passed_on c.from_residual.result e (λ e. Known e (first_refusal bytes ≡ Some e)) c.from_residual.ensures.1 (known e (sym (ap₂ (λ n bs. refusal n [] start bs) c.new-cursor.ensures.at c.new-cursor.ensures.left) ∙ c.in_err-skip_mark.ensures.stops))

pub returns-in_err-skip_mark-clause-unread : goal.returns-in_err-skip_mark-clause-unread
returns-in_err-skip_mark-clause-unread c =
    let bytes = c.args.bytes.now in
    let e = c.in_err-skip_mark.field-0.0 in
    passed_on c.from_residual.result e (λ e. Known e ((t : Tree) → reads bytes t → ⊥)) c.from_residual.ensures.1 (not_read bytes e (known e (sym (ap₂ (λ n bs. refusal n [] start bs) c.new-cursor.ensures.at c.new-cursor.ensures.left) ∙ c.in_err-skip_mark.ensures.stops)))

pub returns-in_err-skip_mark-clause-complete : goal.returns-in_err-skip_mark-clause-complete
returns-in_err-skip_mark-clause-complete c =
    let bytes = c.args.bytes.now in
    let e = c.in_err-skip_mark.field-0.0 in
    λ t h. answered_err bytes c.from_residual.result e c.from_residual.ensures.1 (known e (sym (ap₂ (λ n bs. refusal n [] start bs) c.new-cursor.ensures.at c.new-cursor.ensures.left) ∙ c.in_err-skip_mark.ensures.stops)) t h

pub returns-clause-found : goal.returns-clause-found
returns-clause-found c =
    let bytes = c.args.bytes.now in
    let at = c.skip_space.ensures.space ∙ ap past_space (c.in_ok-skip_mark.ensures.passed ∙ ap past_mark c.new-cursor.ensures.left) in
    if_ok c.read_rest.result (λ x h. read_from bytes x (subst (λ b. Means [] None b x) at h)) c.read_rest.ensures.found

pub returns-clause-unrefused : goal.returns-clause-unrefused
returns-clause-unrefused c =
    if_ok c.read_rest.result (λ x h. sym (ap₂ (λ n bs. refusal n [] start bs) c.new-cursor.ensures.at c.new-cursor.ensures.left) ∙ c.in_ok-skip_mark.ensures.leads ∙ c.skip_space.ensures.leads value spaced_value [] ∙ h) c.read_rest.ensures.ends

pub returns-clause-refused : goal.returns-clause-refused
returns-clause-refused c =
    known_more c.read_rest.result (λ e h. sym (ap₂ (λ n bs. refusal n [] start bs) c.new-cursor.ensures.at c.new-cursor.ensures.left) ∙ c.in_ok-skip_mark.ensures.leads ∙ c.skip_space.ensures.leads value spaced_value [] ∙ h) c.read_rest.ensures.stops

pub returns-clause-unread : goal.returns-clause-unread
returns-clause-unread c =
    let bytes = c.args.bytes.now in
    if_err c.read_rest.result (λ e k. not_read bytes e k)
    (known_more c.read_rest.result (λ e h. sym (ap₂ (λ n bs. refusal n [] start bs) c.new-cursor.ensures.at c.new-cursor.ensures.left) ∙ c.in_ok-skip_mark.ensures.leads ∙ c.skip_space.ensures.leads value spaced_value [] ∙ h) c.read_rest.ensures.stops)

pub returns-clause-complete : goal.returns-clause-complete
returns-clause-complete c =
    let bytes = c.args.bytes.now in
    let at = c.skip_space.ensures.space ∙ ap past_space (c.in_ok-skip_mark.ensures.passed ∙ ap past_mark c.new-cursor.ensures.left) in
    let found = if_ok c.read_rest.result (λ x h. read_from bytes x (subst (λ b. Means [] None b x) at h)) c.read_rest.ensures.found in
    let refused = known_more c.read_rest.result (λ e h. sym (ap₂ (λ n bs. refusal n [] start bs) c.new-cursor.ensures.at c.new-cursor.ensures.left) ∙ c.in_ok-skip_mark.ensures.leads ∙ c.skip_space.ensures.leads value spaced_value [] ∙ h) c.read_rest.ensures.stops in
    λ t h. answered bytes c.read_rest.result found refused t h
