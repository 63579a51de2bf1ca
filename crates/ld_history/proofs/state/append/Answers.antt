use Rattle.std.proofs.Common.{arith}
use Rattle.ld_history.specs.Seen.{seen}
use Rattle.ld_history.proofs.Readied.{allowed_inside, most, few, relies, has_room, ready-push}
use Rattle.ld_history.proofs.state.append.Goals as goal

pub take_room-requires : goal.take_room-requires
take_room-requires c = record { ready = c.state.invariant.room; most = most _ _ _ c.state.invariant }

pub take-requires : goal.take-requires
take-requires c =
    let ok = allowed_inside _ _ _ c.state.invariant c.args.state.now c.state.view_is c.args.entry c.requires in
    record { change = relies _ _ _ c.state.invariant c.args.entry ok; events = omega (arith, few _ _ _ c.state.invariant) }

pub push-requires : goal.push-requires
push-requires c =
    let ok = allowed_inside _ _ _ c.state.invariant c.args.state.now c.state.view_is c.args.entry c.requires in
    has_room _ _ _ c.state.invariant c.args.entry ok c.take_room.new.history c.take_room.ensures.items c.in_ok-take_room.ensures.room

pub invariant_of-state-2 : goal.invariant_of-state-2
invariant_of-state-2 c =
    let ok = allowed_inside _ _ _ c.state.invariant c.args.state.now c.state.view_is c.args.entry c.requires in
    ready-push _ _ _ c.state.invariant c.args.entry ok c.take_room.new.history c.take_room.ensures.items c.in_ok-take_room.ensures.room
    c.push.new.self (seen c.take.new.self) c.push.ensures.items c.push.ensures.capacity c.in_ok-take.ensures.ok
