use Rattle.std.proofs.Common.{◌∙◌, refl, sym, ap, subst, ◌+◌, ◌*◌, ◌∷◌}
use Rattle.ld_tree_read.specs.Cursor.{left}
use Rattle.ld_tree_read.specs.Tokens.{IsTwo, two}
use Rattle.ld_tree_read.specs.Strings.{StopsIn}
use Rattle.ld_tree_read.specs.State.{plain, digits, high, low_slash}
use Rattle.ld_tree_read.proofs.Exits.{passed_on}
use Rattle.ld_tree_read.proofs.Inner.{hop_in, takes_digits, takes_high, digits_step, high_step}
use Rattle.ld_tree_read.proofs.escape.two_digits.Goals as goal

pub returns-in_err-third-clause-stops : goal.returns-in_err-third-clause-stops
returns-in_err-third-clause-stops c =
    passed_on c.from_residual.result c.in_err-third.field-0.0 (StopsIn c.args.cursor.now (digits 1)) c.from_residual.ensures.1 (c.in_err-third.ensures.stops (digits 1) (takes_digits 1))

pub returns-in_err-fourth-clause-stops : goal.returns-in_err-fourth-clause-stops
returns-in_err-fourth-clause-stops c =
    passed_on c.from_residual-in_err-fourth.result c.in_err-fourth.field-0.0 (StopsIn c.args.cursor.now (digits 1)) c.from_residual-in_err-fourth.ensures.1
    (λ n fs. hop_in c.args.cursor.now c.eat_hex.new.cursor (digits 1) (digits 0) c.in_ok-third.ensures.leads refl (λ b h. digits_step b _ h.0 1) n fs ∙ c.in_err-fourth.ensures.stops (digits 0) (takes_digits 0) n fs)

pub returns-in_err-third-clause-half_stops : goal.returns-in_err-third-clause-half_stops
returns-in_err-third-clause-half_stops c =
    passed_on c.from_residual.result c.in_err-third.field-0.0 (StopsIn c.args.cursor.now (high 1)) c.from_residual.ensures.1 (c.in_err-third.ensures.stops (high 1) (takes_high 1))

pub returns-in_err-fourth-clause-half_stops : goal.returns-in_err-fourth-clause-half_stops
returns-in_err-fourth-clause-half_stops c =
    passed_on c.from_residual-in_err-fourth.result c.in_err-fourth.field-0.0 (StopsIn c.args.cursor.now (high 1)) c.from_residual-in_err-fourth.ensures.1
    (λ n fs. hop_in c.args.cursor.now c.eat_hex.new.cursor (high 1) (high 0) c.in_ok-third.ensures.leads refl (λ b h. high_step b _ h.0 1) n fs ∙ c.in_err-fourth.ensures.stops (high 0) (takes_high 0) n fs)

pub returns-clause-leads : goal.returns-clause-leads
returns-clause-leads c = λ n fs.
    hop_in c.args.cursor.now c.eat_hex.new.cursor (digits 1) (digits 0) c.in_ok-third.ensures.leads refl (λ b h. digits_step b _ h.0 1) n fs
    ∙ hop_in c.eat_hex.new.cursor c.eat_hex-2.new.cursor (digits 0) plain c.in_ok-fourth.ensures.leads refl (λ b h. digits_step b _ h.0 0) n fs

pub returns-clause-half : goal.returns-clause-half
returns-clause-half c = λ n fs.
    hop_in c.args.cursor.now c.eat_hex.new.cursor (high 1) (high 0) c.in_ok-third.ensures.leads refl (λ b h. high_step b _ h.0 1) n fs
    ∙ hop_in c.eat_hex.new.cursor c.eat_hex-2.new.cursor (high 0) low_slash c.in_ok-fourth.ensures.leads refl (λ b h. high_step b _ h.0 0) n fs

pub returns-clause-found : goal.returns-clause-found
returns-clause-found c =
    let a = c.in_ok-third.ensures.leads in
    let b = c.in_ok-fourth.ensures.leads in
    subst (λ bs. IsTwo bs (16 * c.in_ok-third.third + c.in_ok-fourth.fourth) (left c.eat_hex-2.new.cursor)) (sym (a.is ∙ ap (λ bs. a.byte ∷ bs) b.is)) (two a.byte b.byte c.in_ok-third.third c.in_ok-fourth.fourth a.holds.0 b.holds.0)
