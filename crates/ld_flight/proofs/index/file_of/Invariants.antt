use Rattle.std.proofs.Common.{◌≡◌, All, List, ℕ, Bor, map}
use Rattle.ld_flight.specs.Index.{NamesNone}
use Rattle.ld_flight.proofs.index.file_of.Given as goal

-- none of the lines so far names a file
abbrev pub invariant-loop-line : goal.invariant-loop-line
invariant-loop-line l = All (NamesNone l.iri) (map (λ (line : Bor (List ℕ)). line.now) l.yielded)
