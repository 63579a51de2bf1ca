use Rattle.std.proofs.Common.{◌∙◌, refl, sym, ap, ap₂, subst, Some, false}
use Rattle.ld_tree.specs.Reading.{IsNumber, a_null, a_true, a_false, a_number, a_text}
use Rattle.ld_tree_read.specs.Cursor.{left, Stops}
use Rattle.ld_tree_read.specs.Refusals.{plain_refusal}
use Rattle.ld_tree_read.specs.State.{value}
use Rattle.ld_tree_read.specs.Steps.{Known}
use Rattle.ld_tree_read.proofs.Exits.{passed_on, known, more}
use Rattle.ld_tree_read.proofs.Tokens.{still}
use Rattle.ld_tree_read.proofs.Between.{quote, null, truth, falsehood, value_stops, neither}
use Rattle.ld_tree_read.proofs.scalar.read_scalar.Goals as goal

pub returns-in_err-read_string-clause-stops : goal.returns-in_err-read_string-clause-stops
returns-in_err-read_string-clause-stops c =
    let e = c.in_err-read_string.field-0.0 in
    passed_on c.from_residual.result e (λ e. Known e (Stops c.args.cursor.now value e)) c.from_residual.ensures.1
    (more e (λ h fs. quote c.args.cursor.now c.eat.new.self fs (c.if-eat.ensures.at refl) (c.if-eat.ensures.eaten refl) ∙ h false fs) c.in_err-read_string.ensures.stops)

pub returns-then-eat-clause-found : goal.returns-then-eat-clause-found
returns-then-eat-clause-found c = λ d. rw (c.if-eat.ensures.eaten refl) (a_text c.in_ok-read_string.ensures.found)

pub returns-then-eat-clause-leads : goal.returns-then-eat-clause-leads
returns-then-eat-clause-leads c = λ fs. quote c.args.cursor.now c.eat.new.self fs (c.if-eat.ensures.at refl) (c.if-eat.ensures.eaten refl) ∙ c.in_ok-read_string.ensures.leads false fs

pub returns-in_err-skip_word-clause-stops : goal.returns-in_err-skip_word-clause-stops
returns-in_err-skip_word-clause-stops c =
    let e = c.in_err-skip_word.field-0.0 in
    passed_on c.from_residual-in_err-skip_word.result e (λ e. Known e (Stops c.args.cursor.now value e)) c.from_residual-in_err-skip_word.ensures.1
    (known e (λ fs. still c.args.cursor.now c.eat.new.self fs value (c.if-eat.ensures.unmoved refl) (c.if-eat.ensures.still refl) ∙ null c.eat.new.self c.eat-2.new.self fs (c.if-eat-2.ensures.at refl) (c.if-eat-2.ensures.eaten refl) ∙ c.in_err-skip_word.ensures.stops fs))

pub returns-then-eat-2-clause-found : goal.returns-then-eat-2-clause-found
returns-then-eat-2-clause-found c = λ d. rw (sym (c.if-eat.ensures.unmoved refl), c.if-eat-2.ensures.eaten refl, c.in_ok-skip_word.ensures.passed) a_null

pub returns-then-eat-2-clause-leads : goal.returns-then-eat-2-clause-leads
returns-then-eat-2-clause-leads c = λ fs. still c.args.cursor.now c.eat.new.self fs value (c.if-eat.ensures.unmoved refl) (c.if-eat.ensures.still refl) ∙ null c.eat.new.self c.eat-2.new.self fs (c.if-eat-2.ensures.at refl) (c.if-eat-2.ensures.eaten refl) ∙ c.in_ok-skip_word.ensures.leads fs

pub returns-in_err-skip_word-2-clause-stops : goal.returns-in_err-skip_word-2-clause-stops
returns-in_err-skip_word-2-clause-stops c =
    let e = c.in_err-skip_word-2.field-0.0 in
    passed_on c.from_residual-in_err-skip_word-2.result e (λ e. Known e (Stops c.args.cursor.now value e)) c.from_residual-in_err-skip_word-2.ensures.1
    (known e (λ fs. still c.args.cursor.now c.eat-2.new.self fs value (c.if-eat-2.ensures.unmoved refl ∙ c.if-eat.ensures.unmoved refl) (c.if-eat-2.ensures.still refl ∙ c.if-eat.ensures.still refl) ∙ truth c.eat-2.new.self c.eat-3.new.self fs (c.if-eat-3.ensures.at refl) (c.if-eat-3.ensures.eaten refl) ∙ c.in_err-skip_word-2.ensures.stops fs))

pub returns-then-eat-3-clause-found : goal.returns-then-eat-3-clause-found
returns-then-eat-3-clause-found c = λ d. rw (sym (c.if-eat-2.ensures.unmoved refl ∙ c.if-eat.ensures.unmoved refl), c.if-eat-3.ensures.eaten refl, c.in_ok-skip_word-2.ensures.passed) a_true

pub returns-then-eat-3-clause-leads : goal.returns-then-eat-3-clause-leads
returns-then-eat-3-clause-leads c = λ fs. still c.args.cursor.now c.eat-2.new.self fs value (c.if-eat-2.ensures.unmoved refl ∙ c.if-eat.ensures.unmoved refl) (c.if-eat-2.ensures.still refl ∙ c.if-eat.ensures.still refl) ∙ truth c.eat-2.new.self c.eat-3.new.self fs (c.if-eat-3.ensures.at refl) (c.if-eat-3.ensures.eaten refl) ∙ c.in_ok-skip_word-2.ensures.leads fs

pub returns-in_err-skip_word-3-clause-stops : goal.returns-in_err-skip_word-3-clause-stops
returns-in_err-skip_word-3-clause-stops c =
    let e = c.in_err-skip_word-3.field-0.0 in
    passed_on c.from_residual-in_err-skip_word-3.result e (λ e. Known e (Stops c.args.cursor.now value e)) c.from_residual-in_err-skip_word-3.ensures.1
    (known e (λ fs. still c.args.cursor.now c.eat-3.new.self fs value (c.if-eat-3.ensures.unmoved refl ∙ c.if-eat-2.ensures.unmoved refl ∙ c.if-eat.ensures.unmoved refl) (c.if-eat-3.ensures.still refl ∙ c.if-eat-2.ensures.still refl ∙ c.if-eat.ensures.still refl) ∙ falsehood c.eat-3.new.self c.eat-4.new.self fs (c.if-eat-4.ensures.at refl) (c.if-eat-4.ensures.eaten refl) ∙ c.in_err-skip_word-3.ensures.stops fs))

pub returns-then-eat-4-clause-found : goal.returns-then-eat-4-clause-found
returns-then-eat-4-clause-found c = λ d. rw (sym (c.if-eat-3.ensures.unmoved refl ∙ c.if-eat-2.ensures.unmoved refl ∙ c.if-eat.ensures.unmoved refl), c.if-eat-4.ensures.eaten refl, c.in_ok-skip_word-3.ensures.passed) a_false

pub returns-then-eat-4-clause-leads : goal.returns-then-eat-4-clause-leads
returns-then-eat-4-clause-leads c = λ fs. still c.args.cursor.now c.eat-3.new.self fs value (c.if-eat-3.ensures.unmoved refl ∙ c.if-eat-2.ensures.unmoved refl ∙ c.if-eat.ensures.unmoved refl) (c.if-eat-3.ensures.still refl ∙ c.if-eat-2.ensures.still refl ∙ c.if-eat.ensures.still refl) ∙ falsehood c.eat-3.new.self c.eat-4.new.self fs (c.if-eat-4.ensures.at refl) (c.if-eat-4.ensures.eaten refl) ∙ c.in_ok-skip_word-3.ensures.leads fs

pub returns-then-not-begins_number-clause-stops : goal.returns-then-not-begins_number-clause-stops
returns-then-not-begins_number-clause-stops c =
    let first = c.args.cursor.now in
    let one = c.if-eat.ensures.unmoved refl in
    let two = c.if-eat-2.ensures.unmoved refl ∙ one in
    let three = c.if-eat-3.ensures.unmoved refl ∙ two in
    let same = c.if-eat-4.ensures.unmoved refl ∙ three in
    let at = c.if-eat-4.ensures.still refl ∙ c.if-eat-3.ensures.still refl ∙ c.if-eat-2.ensures.still refl ∙ c.if-eat.ensures.still refl in
    known c.no_text.result
    (λ fs. value_stops first.at fs (left first) (record {
      space = c.requires.space;
      list = c.requires.no_list;
      map = c.requires.no_map;
      quote = c.if-eat.ensures.other refl;
      n = λ r e. c.if-eat-2.ensures.other refl r (one ∙ e);
      t = λ r e. c.if-eat-3.ensures.other refl r (two ∙ e);
      f = λ r e. c.if-eat-4.ensures.other refl r (three ∙ e);
      number = λ b r e. neither _ _ (c.if-not-begins_number.ensures.none refl b r (same ∙ e));
    })
    ∙ ap₂ (λ n bs. Some (plain_refusal n bs)) (sym at) (sym same) ∙ ap Some (sym c.no_text.ensures))

pub returns-in_err-read_num-clause-stops : goal.returns-in_err-read_num-clause-stops
returns-in_err-read_num-clause-stops c =
    let e = c.in_err-read_num.field-0.0 in
    let same = c.if-eat-4.ensures.unmoved refl ∙ c.if-eat-3.ensures.unmoved refl ∙ c.if-eat-2.ensures.unmoved refl ∙ c.if-eat.ensures.unmoved refl in
    let at = c.if-eat-4.ensures.still refl ∙ c.if-eat-3.ensures.still refl ∙ c.if-eat-2.ensures.still refl ∙ c.if-eat.ensures.still refl in
    passed_on c.from_residual-in_err-read_num.result e (λ e. Known e (Stops c.args.cursor.now value e)) c.from_residual-in_err-read_num.ensures.1
    (known e (λ fs. still c.args.cursor.now c.eat-4.new.self fs value same at ∙ c.in_err-read_num.ensures.stops fs))

pub returns-clause-found : goal.returns-clause-found
returns-clause-found c =
    let num = c.in_ok-read_num.field-0 in
    let rest = left c.read_num.new.cursor in
    let same = c.if-eat-4.ensures.unmoved refl ∙ c.if-eat-3.ensures.unmoved refl ∙ c.if-eat-2.ensures.unmoved refl ∙ c.if-eat.ensures.unmoved refl in
    let found = subst (λ b. IsNumber b num rest) same c.in_ok-read_num.ensures.found in
    λ d. a_number found

pub returns-clause-leads : goal.returns-clause-leads
returns-clause-leads c = λ fs.
    let same = c.if-eat-4.ensures.unmoved refl ∙ c.if-eat-3.ensures.unmoved refl ∙ c.if-eat-2.ensures.unmoved refl ∙ c.if-eat.ensures.unmoved refl in
    let at = c.if-eat-4.ensures.still refl ∙ c.if-eat-3.ensures.still refl ∙ c.if-eat-2.ensures.still refl ∙ c.if-eat.ensures.still refl in
    still c.args.cursor.now c.eat-4.new.self fs value same at ∙ c.in_ok-read_num.ensures.leads fs
