-- Short histories, as examples.
use Rattle.std.specs.Prelude.{[], ◌∷◌}
use Rattle.ld_history.specs.declared.event.Event.TheVariants as event
use Rattle.ld_history.specs.declared.event.How.TheVariants as how
use Rattle.ld_history.specs.Legal.{Entries}
use Rattle.ld_history.specs.Steps.{plain}

-- a session that was opened and closed
abbrev pub unrecorded : Entries
unrecorded = plain (event.Opened 1 0) ∷ plain (event.Closed 1) ∷ []

-- and one with a request in between
abbrev pub evaluated : Entries
evaluated = plain (event.Opened 1 0) ∷ plain (event.Pinned 1 1 1 0) ∷ plain (event.Answered 1 1 how.Done) ∷ plain (event.Closed 1) ∷ []
