use Rattle.std.proofs.Common.{◌∙◌, refl, sym, ap, ap₂, Some, true}
use Rattle.ld_tree_read.specs.Cursor.{left, Stops}
use Rattle.ld_tree_read.specs.Refusals.{plain_refusal}
use Rattle.ld_tree_read.specs.State.{string, plain, value, name, colon}
use Rattle.ld_tree_read.specs.Steps.{Known}
use Rattle.ld_tree_read.proofs.Exits.{passed_on, known, more}
use Rattle.ld_tree_read.proofs.Tokens.{on}
use Rattle.ld_tree_read.proofs.Between.{spaced_colon, spaced_value, name_begins, colon_next, name_stops, colon_stops}
use Rattle.ld_tree_read.proofs.Steps.{name_found}
use Rattle.ld_tree_read.proofs.parse.read_name.Goals as goal

pub returns-then-not-eat-clause-stops : goal.returns-then-not-eat-clause-stops
returns-then-not-eat-clause-stops c =
    let d = c.args.cursor.now in
    known c.no_text.result
    (λ fs. name_stops d.at fs (left d) c.requires (c.if-not-eat.ensures.other refl)
    ∙ ap₂ (λ n bs. Some (plain_refusal n bs)) (sym (c.if-not-eat.ensures.still refl)) (sym (c.if-not-eat.ensures.unmoved refl)) ∙ ap Some (sym c.no_text.ensures))

pub returns-in_err-name-clause-stops : goal.returns-in_err-name-clause-stops
returns-in_err-name-clause-stops c =
    let e = c.in_err-name.field-0.0 in
    passed_on c.from_residual.result e (λ e. Known e (Stops c.args.cursor.now name e)) c.from_residual.ensures.1
    (more e
    (λ h fs. on c.args.cursor.now c.eat.new.self fs fs name (string true plain) 34 (c.if-not-eat.ensures.eaten refl) (c.if-not-eat.ensures.at refl) refl (name_begins fs) ∙ h true fs)
    c.in_err-name.ensures.stops)

pub returns-then-not-eat-2-clause-stops : goal.returns-then-not-eat-2-clause-stops
returns-then-not-eat-2-clause-stops c =
    let d = c.skip_space.new.cursor in
    known c.no_text-then-not-eat-2.result
    (λ fs. on c.args.cursor.now c.eat.new.self fs fs name (string true plain) 34 (c.if-not-eat.ensures.eaten refl) (c.if-not-eat.ensures.at refl) refl (name_begins fs)
    ∙ c.in_ok-name.ensures.leads true fs ∙ c.skip_space.ensures.leads colon spaced_colon fs
    ∙ colon_stops d.at fs (left d) c.skip_space.ensures.ends (c.if-not-eat-2.ensures.other refl)
    ∙ ap₂ (λ n bs. Some (plain_refusal n bs)) (sym (c.if-not-eat-2.ensures.still refl)) (sym (c.if-not-eat-2.ensures.unmoved refl)) ∙ ap Some (sym c.no_text-then-not-eat-2.ensures))

pub returns-clause-found : goal.returns-clause-found
returns-clause-found c = rw c.skip_space-2.ensures.space (name_found (c.if-not-eat.ensures.eaten refl) c.in_ok-name.ensures.found (sym c.skip_space.ensures.space ∙ c.if-not-eat-2.ensures.eaten refl))

pub returns-clause-leads : goal.returns-clause-leads
returns-clause-leads c = λ fs.
    on c.args.cursor.now c.eat.new.self fs fs name (string true plain) 34 (c.if-not-eat.ensures.eaten refl) (c.if-not-eat.ensures.at refl) refl (name_begins fs)
    ∙ c.in_ok-name.ensures.leads true fs ∙ c.skip_space.ensures.leads colon spaced_colon fs
    ∙ on c.skip_space.new.cursor c.eat-2.new.self fs fs colon value 58 (c.if-not-eat-2.ensures.eaten refl) (c.if-not-eat-2.ensures.at refl) refl (colon_next fs)
    ∙ c.skip_space-2.ensures.leads value spaced_value fs
