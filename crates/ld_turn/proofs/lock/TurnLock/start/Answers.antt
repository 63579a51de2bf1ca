use Rattle.std.proofs.Common.{rules, ◌∷◌, [], ◌≡◌, Some}
use Rattle.ld_turn.proofs.Numbering.{starts}
use Rattle.ld_turn.proofs.lock.TurnLock.start.Goals as goal

pub new-requires : goal.new-requires
new-requires g c =
    let items : c.push.new.self.items ≡ Some c.args.value ∷ [] = search rules in
    rw (items, c.of-key.ensures) (starts g.V.Told.list g.V.Told.seat_of c.args.value c.first_words-words.result (rw (← c.told.ensures) c.first_words-words.ensures.reads) c.first_words-words.ensures.made c.requires)
