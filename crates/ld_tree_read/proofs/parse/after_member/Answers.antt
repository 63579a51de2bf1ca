use Rattle.std.proofs.Common.{◌≡◌, ◌∙◌, refl, sym, ap, ap₂, subst, Some, [], ◌∷◌}
use Rattle.ld_tree.specs.Reading.{put_all}
use Rattle.ld_tree_read.specs.Cursor.{left, ahead}
use Rattle.ld_tree_read.specs.Refusals.{plain_refusal}
use Rattle.ld_tree_read.specs.Stack.{levels, IsName}
use Rattle.ld_tree_read.specs.State.{in_map, value, name, done}
use Rattle.ld_tree_read.specs.Steps.{Known}
use Rattle.ld_tree_read.proofs.Exits.{passed_on, known, more}
use Rattle.ld_tree_read.proofs.Tokens.{on, still}
use Rattle.ld_tree_read.proofs.Between.{spaced_done, spaced_name, map_next, map_end, map_stops, pushed}
use Rattle.ld_tree_read.proofs.Steps.{member_comma, member_end}
use Rattle.ld_tree_read.proofs.parse.after_member.Goals as goal

pub returns-in_err-next-clause-stops : goal.returns-in_err-next-clause-stops
returns-in_err-next-clause-stops c =
    let fs = levels c.args.stack.now.items in
    let start = c.args.cursor.now in
    let e = c.in_err-next.field-0.0 in
    passed_on c.from_residual.result e (λ e. Known e (ahead start (in_map ∷ fs) done ≡ Some e)) c.from_residual.ensures.1
    (more e
    (λ h. c.skip_space.ensures.leads done spaced_done (in_map ∷ fs)
    ∙ on c.skip_space.new.cursor c.eat.new.self (in_map ∷ fs) (in_map ∷ fs) done name 44 (c.if-eat.ensures.eaten refl) (c.if-eat.ensures.at refl) refl (map_next fs)
    ∙ c.skip_space-then-eat.ensures.leads name spaced_name (in_map ∷ fs)
    ∙ h (in_map ∷ fs)) c.in_err-next.ensures.stops)

pub returns-then-eat-clause-found : goal.returns-then-eat-clause-found
returns-then-eat-clause-found c =
    let rest = left c.read_name.new.cursor in
    let named = subst (λ b. IsName b c.in_ok-next.next rest) c.skip_space-then-eat.ensures.space c.in_ok-next.ensures.found in
    rw (c.in_ok-push.ensures.items, c.in_default.ensures.ok)
    (member_comma c.args.stack.now.items c.args.done c.args.name c.args.value (left c.args.cursor.now) (left c.eat.new.self) c.in_ok-next.next rest (sym c.skip_space.ensures.space ∙ c.if-eat.ensures.eaten refl) named)

pub returns-then-eat-clause-leads : goal.returns-then-eat-clause-leads
returns-then-eat-clause-leads c =
    let fs = levels c.args.stack.now.items in
    c.skip_space.ensures.leads done spaced_done (in_map ∷ fs)
    ∙ on c.skip_space.new.cursor c.eat.new.self (in_map ∷ fs) (in_map ∷ fs) done name 44 (c.if-eat.ensures.eaten refl) (c.if-eat.ensures.at refl) refl (map_next fs)
    ∙ c.skip_space-then-eat.ensures.leads name spaced_name (in_map ∷ fs)
    ∙ c.in_ok-next.ensures.leads (in_map ∷ fs)
    ∙ ap (λ gs. ahead c.read_name.new.cursor gs value) (sym (pushed c.args.stack.now.items c.push-then-eat.new.self.items _ c.in_ok-push.ensures.items))

pub returns-then-not-eat-clause-stops : goal.returns-then-not-eat-clause-stops
returns-then-not-eat-clause-stops c =
    let fs = levels c.args.stack.now.items in
    let d = c.skip_space.new.cursor in
    let same = c.if-not-eat.ensures.unmoved refl ∙ c.if-eat.ensures.unmoved refl in
    let at = c.if-not-eat.ensures.still refl ∙ c.if-eat.ensures.still refl in
    known c.no_text.result
    (c.skip_space.ensures.leads done spaced_done (in_map ∷ fs)
    ∙ map_stops d.at fs (left d) c.skip_space.ensures.ends (c.if-eat.ensures.other refl) (λ r is. c.if-not-eat.ensures.other refl r (c.if-eat.ensures.unmoved refl ∙ is))
    ∙ ap₂ (λ n bs. Some (plain_refusal n bs)) (sym at) (sym same) ∙ ap Some (sym c.no_text.ensures))

pub returns-clause-found : goal.returns-clause-found
returns-clause-found c =
    member_end c.args.stack.now.items c.args.done c.args.name c.args.value c.in_ok-entries.entries (left c.args.cursor.now) (left c.eat-2.new.self) c.requires
    (sym c.skip_space.ensures.space ∙ sym (c.if-eat.ensures.unmoved refl) ∙ c.if-not-eat.ensures.eaten refl) (c.in_ok-entries.ensures ∙ ap (put_all []) (c.into_vec.ensures ∙ c.in_default.ensures.ok))

pub returns-clause-leads : goal.returns-clause-leads
returns-clause-leads c =
    let fs = levels c.args.stack.now.items in
    c.skip_space.ensures.leads done spaced_done (in_map ∷ fs)
    ∙ still c.skip_space.new.cursor c.eat.new.self (in_map ∷ fs) done (c.if-eat.ensures.unmoved refl) (c.if-eat.ensures.still refl)
    ∙ on c.eat.new.self c.eat-2.new.self (in_map ∷ fs) fs done done 125 (c.if-not-eat.ensures.eaten refl) (c.if-not-eat.ensures.at refl) refl (map_end fs)
