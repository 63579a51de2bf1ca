use Rattle.std.proofs.Common.{[]}
use Rattle.ld_tree_read.specs.State.{start}
use Rattle.ld_tree_read.proofs.LeastPlaces.{stands, least, none_stands}
use Rattle.ld_tree_read.proofs.laws.least.Goals as goal

pub returns-clause-first : goal.returns-clause-first
returns-clause-first c = λ bytes e f h w. least 0 [] start bytes e f h w

pub returns-clause-stands : goal.returns-clause-stands
returns-clause-stands c = λ bytes e h. stands 0 [] start bytes e h

pub returns-clause-none : goal.returns-clause-none
returns-clause-none c = λ bytes f h w. none_stands 0 [] start bytes f h w
