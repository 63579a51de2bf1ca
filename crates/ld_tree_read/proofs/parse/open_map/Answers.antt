use Rattle.std.proofs.Common.{◌≡◌, ◌∙◌, refl, sym, ap, subst, Some, ◌∷◌}
use Rattle.ld_tree_read.specs.Cursor.{left, ahead}
use Rattle.ld_tree_read.specs.Stack.{levels, IsName}
use Rattle.ld_tree_read.specs.State.{in_map, value, name_or_end, name, done}
use Rattle.ld_tree_read.specs.Steps.{Known, NoWhite}
use Rattle.ld_tree_read.proofs.Exits.{passed_on, more}
use Rattle.ld_tree_read.proofs.Tokens.{on, still}
use Rattle.ld_tree_read.proofs.Between.{spaced_first, first_alike, first_end, pushed}
use Rattle.ld_tree_read.proofs.Steps.{map_opens, map_empty}
use Rattle.ld_tree_read.proofs.parse.open_map.Goals as goal

pub returns-then-eat-clause-found : goal.returns-then-eat-clause-found
returns-then-eat-clause-found c = map_empty c.args.stack.now.items c.new.result c.requires (sym c.skip_space.ensures.space ∙ c.if-eat.ensures.eaten refl) c.new.ensures

pub returns-then-eat-clause-leads : goal.returns-then-eat-clause-leads
returns-then-eat-clause-leads c =
    let fs = levels c.args.stack.now.items in
    c.skip_space.ensures.leads name_or_end spaced_first (in_map ∷ fs)
    ∙ on c.skip_space.new.cursor c.eat.new.self (in_map ∷ fs) fs name_or_end done 125 (c.if-eat.ensures.eaten refl) (c.if-eat.ensures.at refl) refl (first_end fs)

pub read_name-requires : goal.read_name-requires
read_name-requires c = subst NoWhite (sym (c.if-eat.ensures.unmoved refl)) c.skip_space.ensures.ends

pub returns-in_err-name-clause-stops : goal.returns-in_err-name-clause-stops
returns-in_err-name-clause-stops c =
    let fs = levels c.args.stack.now.items in
    let d = c.skip_space.new.cursor in
    let start = c.args.cursor.now in
    let e = c.in_err-name.field-0.0 in
    passed_on c.from_residual.result e (λ e. Known e (ahead start (in_map ∷ fs) name_or_end ≡ Some e)) c.from_residual.ensures.1
    (more e
    (λ h. c.skip_space.ensures.leads name_or_end spaced_first (in_map ∷ fs)
    ∙ first_alike d.at (in_map ∷ fs) (left d) c.skip_space.ensures.ends (c.if-eat.ensures.other refl)
    ∙ still d c.eat.new.self (in_map ∷ fs) name (c.if-eat.ensures.unmoved refl) (c.if-eat.ensures.still refl)
    ∙ h (in_map ∷ fs)) c.in_err-name.ensures.stops)

pub returns-clause-found : goal.returns-clause-found
returns-clause-found c =
    let rest = left c.read_name.new.cursor in
    rw (c.in_ok-push.ensures.items, c.new-2.ensures)
    (map_opens c.args.stack.now.items (left c.args.cursor.now) c.in_ok-name.name rest c.requires (subst (λ b. IsName b c.in_ok-name.name rest) (c.if-eat.ensures.unmoved refl ∙ c.skip_space.ensures.space) c.in_ok-name.ensures.found))

pub returns-clause-leads : goal.returns-clause-leads
returns-clause-leads c =
    let fs = levels c.args.stack.now.items in
    let d = c.skip_space.new.cursor in
    let e = c.eat.new.self in
    c.skip_space.ensures.leads name_or_end spaced_first (in_map ∷ fs)
    ∙ first_alike d.at (in_map ∷ fs) (left d) c.skip_space.ensures.ends (c.if-eat.ensures.other refl)
    ∙ still d e (in_map ∷ fs) name (c.if-eat.ensures.unmoved refl) (c.if-eat.ensures.still refl)
    ∙ c.in_ok-name.ensures.leads (in_map ∷ fs)
    ∙ ap (λ gs. ahead c.read_name.new.cursor gs value) (sym (pushed c.args.stack.now.items c.push.new.self.items _ c.in_ok-push.ensures.items))
