use Rattle.std.proofs.Common.{◌∙◌, refl, sym, ap, ap₂, Some, ◌∷◌, arith}
use Rattle.ld_tree_read.specs.Cursor.{left}
use Rattle.ld_tree_read.specs.Refusals.{plain_refusal}
use Rattle.ld_tree_read.specs.Strings.{StopsIn}
use Rattle.ld_tree_read.specs.State.{digits, low_slash, low_u, low_first, low_second}
use Rattle.ld_tree_read.proofs.Escapes.{unit_of}
use Rattle.ld_tree_read.proofs.Exits.{passed_on}
use Rattle.ld_tree_read.proofs.Inner.{on_in, stop_in, hop_in, takes_low_first, takes_low_second, low_first_step, low_second_step, low_slash_step, low_u_step, low_slash_stops, low_u_stops}
use Rattle.ld_tree_read.proofs.escape.read_low_half.Goals as goal

pub returns-then-not-eat-clause-stops : goal.returns-then-not-eat-clause-stops
returns-then-not-eat-clause-stops c = λ n fs.
    let d = c.args.cursor.now in
    stop_in d.at n fs low_slash (left d) refl (low_slash_stops (left d) (c.if-not-eat.ensures.other refl))
    ∙ ap₂ (λ n bs. Some (plain_refusal n bs)) (sym (c.if-not-eat.ensures.still refl)) (sym (c.if-not-eat.ensures.unmoved refl)) ∙ ap Some (sym c.no_text.ensures)

pub returns-then-not-eat-2-clause-stops : goal.returns-then-not-eat-2-clause-stops
returns-then-not-eat-2-clause-stops c = λ n fs.
    let d = c.eat.new.self in
    on_in c.args.cursor.now c.eat.new.self n fs low_slash low_u 92 (c.if-not-eat.ensures.eaten refl) (c.if-not-eat.ensures.at refl) refl low_slash_step
    ∙ stop_in d.at n fs low_u (left d) refl (low_u_stops (left d) (c.if-not-eat-2.ensures.other refl))
    ∙ ap₂ (λ n bs. Some (plain_refusal n bs)) (sym (c.if-not-eat-2.ensures.still refl)) (sym (c.if-not-eat-2.ensures.unmoved refl)) ∙ ap Some (sym c.no_text-then-not-eat-2.ensures)

pub returns-in_err-first-clause-stops : goal.returns-in_err-first-clause-stops
returns-in_err-first-clause-stops c =
    passed_on c.from_residual.result c.in_err-first.field-0.0 (StopsIn c.args.cursor.now low_slash) c.from_residual.ensures.1
    (λ n fs. on_in c.args.cursor.now c.eat.new.self n fs low_slash low_u 92 (c.if-not-eat.ensures.eaten refl) (c.if-not-eat.ensures.at refl) refl low_slash_step ∙ on_in c.eat.new.self c.eat-2.new.self n fs low_u low_first 117 (c.if-not-eat-2.ensures.eaten refl) (c.if-not-eat-2.ensures.at refl) refl low_u_step ∙ c.in_err-first.ensures.stops low_first takes_low_first n fs)

pub returns-in_err-second-clause-stops : goal.returns-in_err-second-clause-stops
returns-in_err-second-clause-stops c =
    passed_on c.from_residual-in_err-second.result c.in_err-second.field-0.0 (StopsIn c.args.cursor.now low_slash) c.from_residual-in_err-second.ensures.1
    (λ n fs. on_in c.args.cursor.now c.eat.new.self n fs low_slash low_u 92 (c.if-not-eat.ensures.eaten refl) (c.if-not-eat.ensures.at refl) refl low_slash_step ∙ on_in c.eat.new.self c.eat-2.new.self n fs low_u low_first 117 (c.if-not-eat-2.ensures.eaten refl) (c.if-not-eat-2.ensures.at refl) refl low_u_step ∙ hop_in c.eat-2.new.self c.eat_hex.new.cursor low_first low_second c.in_ok-first.ensures.leads refl (λ b h. low_first_step b _ h.0 h.1 h.2) n fs ∙ c.in_err-second.ensures.stops low_second takes_low_second n fs)

pub returns-in_err-rest-clause-stops : goal.returns-in_err-rest-clause-stops
returns-in_err-rest-clause-stops c =
    passed_on c.from_residual-in_err-rest.result c.in_err-rest.field-0.0 (StopsIn c.args.cursor.now low_slash) c.from_residual-in_err-rest.ensures.1
    (λ n fs. on_in c.args.cursor.now c.eat.new.self n fs low_slash low_u 92 (c.if-not-eat.ensures.eaten refl) (c.if-not-eat.ensures.at refl) refl low_slash_step ∙ on_in c.eat.new.self c.eat-2.new.self n fs low_u low_first 117 (c.if-not-eat-2.ensures.eaten refl) (c.if-not-eat-2.ensures.at refl) refl low_u_step ∙ hop_in c.eat-2.new.self c.eat_hex.new.cursor low_first low_second c.in_ok-first.ensures.leads refl (λ b h. low_first_step b _ h.0 h.1 h.2) n fs ∙ hop_in c.eat_hex.new.cursor c.eat_hex-2.new.cursor low_second (digits 1) c.in_ok-second.ensures.leads refl (λ b h. low_second_step b _ h.0 h.1) n fs ∙ c.in_err-rest.ensures.stops n fs)

pub returns-clause-found : goal.returns-clause-found
returns-clause-found c =
    let a = c.in_ok-first.ensures.leads in
    let b = c.in_ok-second.ensures.leads in (
      left c.eat-2.new.self,
      c.if-not-eat.ensures.eaten refl ∙ ap (λ bs. 92 ∷ bs) (c.if-not-eat-2.ensures.eaten refl),
      unit_of a.byte b.byte c.in_ok-first.first c.in_ok-second.second c.in_ok-rest.rest (left c.eat-2.new.self) (left c.eat_hex-2.new.cursor) (left c.two_digits.new.cursor) (a.is ∙ ap (λ bs. a.byte ∷ bs) b.is) a.holds.0 b.holds.0 c.in_ok-rest.ensures.found,
    )

pub returns-clause-from : goal.returns-clause-from
returns-clause-from c =
    let a = c.in_ok-first.ensures.leads.holds in
    let b = c.in_ok-second.ensures.leads.holds in
    omega (arith, a.1, b.1)

pub returns-clause-below : goal.returns-clause-below
returns-clause-below c =
    let a = c.in_ok-first.ensures.leads.holds in
    let b = c.in_ok-second.ensures.leads.holds in
    omega (arith, a.2, b.2, c.in_ok-rest.ensures.low)

pub returns-clause-leads : goal.returns-clause-leads
returns-clause-leads c = λ n fs. on_in c.args.cursor.now c.eat.new.self n fs low_slash low_u 92 (c.if-not-eat.ensures.eaten refl) (c.if-not-eat.ensures.at refl) refl low_slash_step ∙ on_in c.eat.new.self c.eat-2.new.self n fs low_u low_first 117 (c.if-not-eat-2.ensures.eaten refl) (c.if-not-eat-2.ensures.at refl) refl low_u_step ∙ hop_in c.eat-2.new.self c.eat_hex.new.cursor low_first low_second c.in_ok-first.ensures.leads refl (λ b h. low_first_step b _ h.0 h.1 h.2) n fs ∙ hop_in c.eat_hex.new.cursor c.eat_hex-2.new.cursor low_second (digits 1) c.in_ok-second.ensures.leads refl (λ b h. low_second_step b _ h.0 h.1) n fs ∙ c.in_ok-rest.ensures.leads n fs
