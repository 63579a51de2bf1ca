use Rattle.std.proofs.Common.{[], subst, arith, ◌≡◌}
use Rattle.ld_tree_read.specs.Begun.{place, IsLongest}
use Rattle.ld_tree_read.specs.State.{start}
use Rattle.ld_tree_read.proofs.LeastPlaces.{longest}
use Rattle.ld_tree_read.proofs.laws.longest.Goals as goal

pub returns : goal.returns
returns c = λ bytes e stop h.
    let (k, is, w) = longest 0 [] start bytes e stop h in
    subst (IsLongest [] start bytes) (let same : k ≡ place e = omega (arith, is) in same) w
