use Rattle.std.proofs.Common.{rules, ◌≡◌, ◌++◌, ◌∷◌, [], sym, length, subst, Some}
use Rattle.ld_turn.specs.History.{IsOwnFrom, said_by}
use Rattle.ld_turn_tests.specs.declared.log.Mark.{Mark}
use Rattle.ld_turn_tests.proofs.Marks.{said_by_last}
use Rattle.ld_turn_tests.proofs.log.Log.add.Goals as goal

pub returns-clause-own : goal.returns-clause-own
returns-clause-own c =
    let items : c.push.new.self.items ≡ c.args.self.now.marks.items ++ c.args.mark ∷ [] = search rules in
    subst (λ l. IsOwnFrom (said_by (λ (m : Mark). Some m.seat)) l (length c.args.self.now.marks.items) c.args.mark.seat) (sym items)
    (λ i k le lt e. let one = said_by_last (λ (m : Mark). Some m.seat) c.args.self.now.marks.items c.args.mark i k le lt e in cc one)
