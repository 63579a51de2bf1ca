use Rattle.std.proofs.Common.{◌≡◌, true, take}
use Rattle.std.specs.List.{list_all}
use Rattle.ld_rec.specs.Terms.{container_names}
use Rattle.ld_rec.specs.Words.{is_among}
use Rattle.ld_term.proofs.containers.are_container_names.Given as goal

abbrev pub invariant-loop-name : goal.invariant-loop-name
invariant-loop-name l = list_all (is_among container_names) (take l.name-index l.name-items) ≡ true
