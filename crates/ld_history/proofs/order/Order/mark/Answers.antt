use Rattle.std.proofs.Common.{sym, subst, ◌<◌}
use Rattle.std.specs.Prelude.{vec_capacity}
use Rattle.ld_history.proofs.Rising.{room_for}
use Rattle.ld_history.proofs.order.Order.mark.Goals as goal

pub add_version-requires-clause-room : goal.add_version-requires-clause-room
add_version-requires-clause-room c =
    let o = c.args.self.now in
    λ not_yet. subst (λ n. n < vec_capacity o.free) (sym o.free.ok.0) (room_for o.published.entries o.free.items c.args.version (vec_capacity o.free) o.sorted o.known c.requires o.room not_yet)
