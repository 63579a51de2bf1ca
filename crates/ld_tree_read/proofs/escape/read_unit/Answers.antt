use Rattle.std.proofs.Common.{◌∙◌, refl, sym, ap, subst, ◌+◌, ◌*◌, ◌∷◌, inl, inr, arith}
use Rattle.std.specs.Char.{encode_utf8}
use Rattle.ld_tree.specs.Reading.{IsChar}
use Rattle.ld_tree_read.specs.Cursor.{left}
use Rattle.ld_tree_read.specs.Strings.{StopsIn}
use Rattle.ld_tree_read.specs.State.{first, second, digits, high}
use Rattle.ld_tree_read.specs.Tokens.{IsUnit}
use Rattle.ld_tree_read.proofs.Escapes.{unit_of, no_half_d, halves, alone_found, pair_found}
use Rattle.ld_tree_read.proofs.Exits.{passed_on}
use Rattle.ld_tree_read.proofs.Inner.{hop_in, takes_digits, takes_first, takes_second, digits_step, first_plain, first_d, second_plain, second_high}
use Rattle.ld_tree_read.proofs.escape.read_unit.Goals as goal

pub returns-in_err-one-clause-stops : goal.returns-in_err-one-clause-stops
returns-in_err-one-clause-stops c = passed_on c.from_residual.result c.in_err-one.field-0.0 (StopsIn c.args.cursor.now first) c.from_residual.ensures.1 (c.in_err-one.ensures.stops first takes_first)

pub returns-in_err-two-clause-stops : goal.returns-in_err-two-clause-stops
returns-in_err-two-clause-stops c =
    passed_on c.from_residual-in_err-two.result c.in_err-two.field-0.0 (StopsIn c.args.cursor.now first) c.from_residual-in_err-two.ensures.1
    (λ n fs. hop_in c.args.cursor.now c.eat_hex.new.cursor first (digits 2) c.in_ok-one.ensures.leads refl (λ b h. first_plain b _ h.0 c.if-one-ne13.true) n fs ∙ c.in_err-two.ensures.stops (digits 2) (takes_digits 2) n fs)

pub returns-in_err-rest-clause-stops : goal.returns-in_err-rest-clause-stops
returns-in_err-rest-clause-stops c =
    passed_on c.from_residual-in_err-rest.result c.in_err-rest.field-0.0 (StopsIn c.args.cursor.now first) c.from_residual-in_err-rest.ensures.1
    (λ n fs. hop_in c.args.cursor.now c.eat_hex.new.cursor first (digits 2) c.in_ok-one.ensures.leads refl (λ b h. first_plain b _ h.0 c.if-one-ne13.true) n fs ∙ hop_in c.eat_hex.new.cursor c.eat_hex-then-one-ne13.new.cursor (digits 2) (digits 1) c.in_ok-two.ensures.leads refl (λ b h. digits_step b _ h.0 2) n fs ∙ c.in_err-rest.ensures.stops n fs)

pub returns-then-one-ne13-clause-found : goal.returns-then-one-ne13-clause-found
returns-then-one-ne13-clause-found c =
    let one = c.in_ok-one.ensures.leads.holds in
    let two = c.in_ok-two.ensures.leads.holds in
    subst (λ n. IsChar (92 ∷ 117 ∷ left c.args.cursor.now) (encode_utf8 n) (left c.two_digits.new.cursor)) (sym c.character.ensures)
    (alone_found (left c.args.cursor.now) (left c.two_digits.new.cursor) (4096 * c.in_ok-one.one + 256 * c.in_ok-two.two + c.in_ok-rest.rest) (unit_of c.in_ok-one.ensures.leads.byte c.in_ok-two.ensures.leads.byte c.in_ok-one.one c.in_ok-two.two c.in_ok-rest.rest (left c.args.cursor.now) (left c.eat_hex-then-one-ne13.new.cursor) (left c.two_digits.new.cursor) (c.in_ok-one.ensures.leads.is ∙ ap (λ bs. c.in_ok-one.ensures.leads.byte ∷ bs) c.in_ok-two.ensures.leads.is) c.in_ok-one.ensures.leads.holds.0 c.in_ok-two.ensures.leads.holds.0 c.in_ok-rest.ensures.found)
    (no_half_d c.in_ok-one.one c.in_ok-two.two c.in_ok-rest.rest (omega (arith, one.2)) (omega (arith, two.2)) c.in_ok-rest.ensures.low (inl c.if-one-ne13.true)))

pub returns-then-one-ne13-clause-leads : goal.returns-then-one-ne13-clause-leads
returns-then-one-ne13-clause-leads c = λ n fs. hop_in c.args.cursor.now c.eat_hex.new.cursor first (digits 2) c.in_ok-one.ensures.leads refl (λ b h. first_plain b _ h.0 c.if-one-ne13.true) n fs ∙ hop_in c.eat_hex.new.cursor c.eat_hex-then-one-ne13.new.cursor (digits 2) (digits 1) c.in_ok-two.ensures.leads refl (λ b h. digits_step b _ h.0 2) n fs ∙ c.in_ok-rest.ensures.leads n fs

pub returns-in_err-two-2-clause-stops : goal.returns-in_err-two-2-clause-stops
returns-in_err-two-2-clause-stops c =
    passed_on c.from_residual-in_err-two-2.result c.in_err-two-2.field-0.0 (StopsIn c.args.cursor.now first) c.from_residual-in_err-two-2.ensures.1
    (λ n fs. hop_in c.args.cursor.now c.eat_hex.new.cursor first second c.in_ok-one.ensures.leads refl (λ b h. first_d b _ h.0 c.if-one-ne13.false) n fs ∙ c.in_err-two-2.ensures.stops second takes_second n fs)

pub returns-in_err-rest-2-clause-stops : goal.returns-in_err-rest-2-clause-stops
returns-in_err-rest-2-clause-stops c =
    passed_on c.from_residual-in_err-rest-2.result c.in_err-rest-2.field-0.0 (StopsIn c.args.cursor.now first) c.from_residual-in_err-rest-2.ensures.1
    (λ n fs. hop_in c.args.cursor.now c.eat_hex.new.cursor first second c.in_ok-one.ensures.leads refl (λ b h. first_d b _ h.0 c.if-one-ne13.false) n fs ∙ hop_in c.eat_hex.new.cursor c.eat_hex-2.new.cursor second (digits 1) c.in_ok-two-2.ensures.leads refl (λ b h. second_plain b _ h.0 c.if-two-lt8.true) n fs ∙ c.in_err-rest-2.ensures.stops n fs)

pub returns-then-two-lt8-clause-found : goal.returns-then-two-lt8-clause-found
returns-then-two-lt8-clause-found c =
    let one = c.in_ok-one.ensures.leads.holds in
    let two = c.in_ok-two-2.ensures.leads.holds in
    subst (λ n. IsChar (92 ∷ 117 ∷ left c.args.cursor.now) (encode_utf8 n) (left c.two_digits-then-two-lt8.new.cursor)) (sym c.character-then-two-lt8.ensures)
    (alone_found (left c.args.cursor.now) (left c.two_digits-then-two-lt8.new.cursor) (4096 * c.in_ok-one.one + 256 * c.in_ok-two-2.two + c.in_ok-rest-2.rest) (unit_of c.in_ok-one.ensures.leads.byte c.in_ok-two-2.ensures.leads.byte c.in_ok-one.one c.in_ok-two-2.two c.in_ok-rest-2.rest (left c.args.cursor.now) (left c.eat_hex-2.new.cursor) (left c.two_digits-then-two-lt8.new.cursor) (c.in_ok-one.ensures.leads.is ∙ ap (λ bs. c.in_ok-one.ensures.leads.byte ∷ bs) c.in_ok-two-2.ensures.leads.is) c.in_ok-one.ensures.leads.holds.0 c.in_ok-two-2.ensures.leads.holds.0 c.in_ok-rest-2.ensures.found)
    (no_half_d c.in_ok-one.one c.in_ok-two-2.two c.in_ok-rest-2.rest (omega (arith, one.2)) (omega (arith, two.2)) c.in_ok-rest-2.ensures.low (inr c.if-two-lt8.true)))

pub returns-then-two-lt8-clause-leads : goal.returns-then-two-lt8-clause-leads
returns-then-two-lt8-clause-leads c = λ n fs. hop_in c.args.cursor.now c.eat_hex.new.cursor first second c.in_ok-one.ensures.leads refl (λ b h. first_d b _ h.0 c.if-one-ne13.false) n fs ∙ hop_in c.eat_hex.new.cursor c.eat_hex-2.new.cursor second (digits 1) c.in_ok-two-2.ensures.leads refl (λ b h. second_plain b _ h.0 c.if-two-lt8.true) n fs ∙ c.in_ok-rest-2.ensures.leads n fs

pub returns-in_err-rest-3-clause-stops : goal.returns-in_err-rest-3-clause-stops
returns-in_err-rest-3-clause-stops c =
    passed_on c.from_residual-in_err-rest-3.result c.in_err-rest-3.field-0.0 (StopsIn c.args.cursor.now first) c.from_residual-in_err-rest-3.ensures.1
    (λ n fs. hop_in c.args.cursor.now c.eat_hex.new.cursor first second c.in_ok-one.ensures.leads refl (λ b h. first_d b _ h.0 c.if-one-ne13.false) n fs ∙ hop_in c.eat_hex.new.cursor c.eat_hex-2.new.cursor second (high 1) c.in_ok-two-2.ensures.leads refl (λ b h. second_high b _ h.0 c.if-two-lt8.false h.2) n fs ∙ c.in_err-rest-3.ensures.half_stops n fs)

pub returns-in_err-low-clause-stops : goal.returns-in_err-low-clause-stops
returns-in_err-low-clause-stops c =
    passed_on c.from_residual-in_err-low.result c.in_err-low.field-0.0 (StopsIn c.args.cursor.now first) c.from_residual-in_err-low.ensures.1
    (λ n fs. hop_in c.args.cursor.now c.eat_hex.new.cursor first second c.in_ok-one.ensures.leads refl (λ b h. first_d b _ h.0 c.if-one-ne13.false) n fs ∙ hop_in c.eat_hex.new.cursor c.eat_hex-2.new.cursor second (high 1) c.in_ok-two-2.ensures.leads refl (λ b h. second_high b _ h.0 c.if-two-lt8.false h.2) n fs ∙ c.in_ok-rest-3.ensures.half n fs ∙ c.in_err-low.ensures.stops n fs)

pub returns-clause-found : goal.returns-clause-found
returns-clause-found c =
    let one = c.in_ok-one.ensures.leads.holds in
    let two = c.in_ok-two-2.ensures.leads.holds in
    let is = c.if-one-ne13.false in
    let high = (4096 * c.in_ok-one.one + 256 * c.in_ok-two-2.two + c.in_ok-rest-3.rest) in
    let w = c.in_ok-low.ensures.found in
    let first = (unit_of c.in_ok-one.ensures.leads.byte c.in_ok-two-2.ensures.leads.byte c.in_ok-one.one c.in_ok-two-2.two c.in_ok-rest-3.rest (left c.args.cursor.now) (left c.eat_hex-2.new.cursor) (left c.two_digits-2.new.cursor) (c.in_ok-one.ensures.leads.is ∙ ap (λ bs. c.in_ok-one.ensures.leads.byte ∷ bs) c.in_ok-two-2.ensures.leads.is) c.in_ok-one.ensures.leads.holds.0 c.in_ok-two-2.ensures.leads.holds.0 c.in_ok-rest-3.ensures.found) in
    subst (λ n. IsChar (92 ∷ 117 ∷ left c.args.cursor.now) (encode_utf8 n) (left c.read_low_half.new.cursor)) (sym c.character-2.ensures)
    (pair_found (left c.args.cursor.now) w.0 (left c.read_low_half.new.cursor) high c.in_ok-low.low (subst (λ r. IsUnit (left c.args.cursor.now) high r) w.1 first) w.2
    (halves high c.in_ok-low.low (omega (arith, is, c.if-two-lt8.false)) (omega (arith, is, two.2, c.in_ok-rest-3.ensures.low)) c.in_ok-low.ensures.from c.in_ok-low.ensures.below))

pub returns-clause-leads : goal.returns-clause-leads
returns-clause-leads c = λ n fs. hop_in c.args.cursor.now c.eat_hex.new.cursor first second c.in_ok-one.ensures.leads refl (λ b h. first_d b _ h.0 c.if-one-ne13.false) n fs ∙ hop_in c.eat_hex.new.cursor c.eat_hex-2.new.cursor second (high 1) c.in_ok-two-2.ensures.leads refl (λ b h. second_high b _ h.0 c.if-two-lt8.false h.2) n fs ∙ c.in_ok-rest-3.ensures.half n fs ∙ c.in_ok-low.ensures.leads n fs
