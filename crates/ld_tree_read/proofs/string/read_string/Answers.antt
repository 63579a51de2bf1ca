use Rattle.std.proofs.Common.{◌∙◌, refl, sym, subst, ap, ap₂, arith, length, Some, Bool, ◌∷◌}
use Rattle.std.proofs.lemmas.Str.{IsUtf8-string_bytes}
use Rattle.ld_tree.specs.Reading.{is_unescaped}
use Rattle.ld_tree_read.specs.Refusals.{plain_refusal}
use Rattle.ld_tree_read.proofs.Follows.{run_ends}
use Rattle.ld_tree_read.proofs.Glides.{at_control}
use Rattle.std.proofs.lemmas.List.{length-drop}
use Rattle.std.specs.Char.{encode_utf8}
use Rattle.std.specs.Prelude.{string_bytes}
use Rattle.ld_tree_read.specs.Cursor.{left, Stops}
use Rattle.ld_tree_read.specs.State.{string, plain, slash, string_end}
use Rattle.ld_tree_read.specs.Steps.{Known}
use Rattle.ld_tree_read.proofs.Exits.{known, passed_on}
use Rattle.ld_tree_read.proofs.Tokens.{on, still}
use Rattle.ld_tree_read.proofs.Inner.{on_in, quote_ends, plain_slash, stop_in}
use Rattle.ld_tree_read.proofs.Scan.{Continues, continue_start, run, continue_here, continue_char, string_found}
use Rattle.ld_tree_read.proofs.string.read_string.Goals as goal

pub loop-text-init : goal.loop-text-init
loop-text-init c =
    let b = left c.args.cursor.now in
    record { continues = subst (λ t. Continues b t b) (sym c.new-text.ensures.bytes) (continue_start b); leads = λ n fs. refl; shorter = omega arith }

pub returns-then-eat-clause-found : goal.returns-then-eat-clause-found
returns-then-eat-clause-found c =
    let b = left c.args.cursor.now in
    let text = string_bytes c.read_run.new.text in
    let here = continue_here c.loop-text.invariant.continues c.in_ok-read_run.ensures.text c.in_ok-read_run.ensures.left in
    rw c.from_string.ensures (string_found (subst (Continues b text) (c.if-eat.ensures.eaten refl) here) (IsUtf8-string_bytes c.read_run.new.text))

pub returns-then-eat-clause-leads : goal.returns-then-eat-clause-leads
returns-then-eat-clause-leads c = λ n fs.
    c.loop-text.invariant.leads n fs ∙ c.in_ok-read_run.ensures.leads n fs ∙ on c.read_run.new.cursor c.eat.new.self fs fs (string n plain) (string_end n) 34 (c.if-eat.ensures.eaten refl) (c.if-eat.ensures.at refl) refl (quote_ends fs n)

pub returns-then-eat-clause-shorter : goal.returns-then-eat-clause-shorter
returns-then-eat-clause-shorter c =
    omega (arith, c.loop-text.invariant.shorter, ap length c.in_ok-read_run.ensures.left, length-drop (run (left c.loop-text.cursor)) (left c.loop-text.cursor), ap length (c.if-eat.ensures.eaten refl))

pub returns-then-not-eat-clause-stops : goal.returns-then-not-eat-clause-stops
returns-then-not-eat-clause-stops c =
    let d = c.read_run.new.cursor in
    let same = c.if-not-eat.ensures.unmoved refl ∙ c.if-eat.ensures.unmoved refl in
    let at = c.if-not-eat.ensures.still refl ∙ c.if-eat.ensures.still refl in
    known c.no_text.result
    (λ n fs. c.loop-text.invariant.leads n fs ∙ c.in_ok-read_run.ensures.leads n fs
    ∙ stop_in d.at n fs plain (left d) refl (λ b r e. at_control b (run_ends is_unescaped (left c.loop-text.cursor) b r (sym c.in_ok-read_run.ensures.left ∙ e))
    (λ is. c.if-eat.ensures.other refl r (e ∙ ap (λ b. b ∷ r) is)) (λ is. c.if-not-eat.ensures.other refl r (c.if-eat.ensures.unmoved refl ∙ e ∙ ap (λ b. b ∷ r) is)))
    ∙ ap₂ (λ n bs. Some (plain_refusal n bs)) (sym at) (sym same) ∙ ap Some (sym c.no_text.ensures))

pub returns-in_err-c-clause-stops : goal.returns-in_err-c-clause-stops
returns-in_err-c-clause-stops c =
    let e = c.in_err-c.field-0.0 in
    passed_on c.from_residual-in_err-c.result e (λ e. Known e ((n : Bool) → Stops c.args.cursor.now (string n plain) e)) c.from_residual-in_err-c.ensures.1
    (known e (λ n fs. c.loop-text.invariant.leads n fs ∙ c.in_ok-read_run.ensures.leads n fs
    ∙ still c.read_run.new.cursor c.eat.new.self fs (string n plain) (c.if-eat.ensures.unmoved refl) (c.if-eat.ensures.still refl)
    ∙ on_in c.eat.new.self c.eat-in-loop-text.new.self n fs plain slash 92 (c.if-not-eat.ensures.eaten refl) (c.if-not-eat.ensures.at refl) refl plain_slash
    ∙ c.in_err-c.ensures.stops n fs))

pub loop-text-preserved : goal.loop-text-preserved
loop-text-preserved c =
    let b = left c.args.cursor.now in
    let text = string_bytes c.read_run.new.text in
    let here = continue_here c.loop-text.invariant.continues c.in_ok-read_run.ensures.text c.in_ok-read_run.ensures.left in
    let to_slash = sym (c.if-eat.ensures.unmoved refl) ∙ c.if-not-eat.ensures.eaten refl in
    let next = continue_char (encode_utf8 c.in_ok-c.c) (left c.read_escape.new.cursor) c.in_ok-c.ensures.found (subst (Continues b text) to_slash here) in
    record {
      continues = subst (λ t. Continues b t (left c.read_escape.new.cursor)) (sym c.in_ok-push.ensures.bytes) next;
      leads = λ n fs. c.loop-text.invariant.leads n fs ∙ c.in_ok-read_run.ensures.leads n fs
          ∙ still c.read_run.new.cursor c.eat.new.self fs (string n plain) (c.if-eat.ensures.unmoved refl) (c.if-eat.ensures.still refl)
          ∙ on_in c.eat.new.self c.eat-in-loop-text.new.self n fs plain slash 92 (c.if-not-eat.ensures.eaten refl) (c.if-not-eat.ensures.at refl) refl plain_slash
          ∙ c.in_ok-c.ensures.leads n fs;
      shorter = omega (arith, c.loop-text.invariant.shorter, ap length c.in_ok-read_run.ensures.left, length-drop (run (left c.loop-text.cursor)) (left c.loop-text.cursor), ap length to_slash, c.in_ok-c.ensures.shorter);
    }

pub loop-text-smaller : goal.loop-text-smaller
loop-text-smaller c =
    let to_slash = sym (c.if-eat.ensures.unmoved refl) ∙ c.if-not-eat.ensures.eaten refl in
    omega (arith, ap length c.in_ok-read_run.ensures.left, length-drop (run (left c.loop-text.cursor)) (left c.loop-text.cursor), ap length to_slash, c.in_ok-c.ensures.shorter)
