use Rattle.std.proofs.Common.{◌≡◌, ◌∷◌, ◌++◌, sym, ap, ◌∙◌, arith}
use Rattle.std.proofs.lemmas.Grind.{common_steps}
use Rattle.ld_tree.specs.Names.{same_sorted}
use Rattle.ld_tree.proofs.Texts.{put_next}
use Rattle.ld_tree.proofs.name_map.NameMap.from_entries.Goals as goal

pub loop-name-preserved-in-Ok : goal.loop-name-preserved-in-Ok
loop-name-preserved-in-Ok g c =
    let rest = c.next.new.self.rest.items in
    let step : c.loop-name.name-iterator.rest.items ≡ (c.in-Some.name, c.in-Some.value) ∷ rest = grind (arith, common_steps) in
    put_next c.in-Some.name c.in-Some.value c.loop-name.map c.put.new.self c.args.entries rest c.in-Ok.ensures.map (ap (λ l. c.loop-name.map.0 ++ l) (sym step) ∙ c.loop-name.invariant)

pub loop-name-preserved-in-Ok-2 : goal.loop-name-preserved-in-Ok-2
loop-name-preserved-in-Ok-2 g c =
    let rest = c.next.new.self.rest.items in
    let step : c.loop-name.name-iterator.rest.items ≡ (c.in-Some.name, c.in-Some.value) ∷ rest = grind (arith, common_steps) in
    put_next c.in-Some.name c.in-Some.value c.loop-name.map c.put.new.self c.args.entries rest c.in-Ok.ensures.map (ap (λ l. c.loop-name.map.0 ++ l) (sym step) ∙ c.loop-name.invariant)

pub returns : goal.returns
returns g c =
    let all : c.loop-name.map.0 ≡ c.args.entries.0 = grind (arith, common_steps) in
    same_sorted _ _ all
