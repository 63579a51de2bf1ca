use Rattle.std.proofs.Common.{All, subst, sym, arith}
use Rattle.std.proofs.lemmas.List.Elements.{All-drop}
use Rattle.ld_edge.specs.Doors.{IsNew}
use Rattle.ld_edge.proofs.mem_door.MemDoorDoor.next.Goals as goal

pub invariant_of-self-2 : goal.invariant_of-self-2
invariant_of-self-2 c =
    let room = c.self.invariant.1 in
    let one_fewer = c.in-Some.ensures.cases in
    (subst (λ links. All IsNew links) (sym c.in-Some.ensures.rest) (All-drop IsNew 1 _ c.self.invariant.0), omega (arith, room, one_fewer))
