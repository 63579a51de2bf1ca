-- What a ticket to build an inverse is for.
use Rattle.std.specs.Prelude.{◌≡◌, ℕ, Option, Some, None}
use Rattle.ld_inverse.specs.declared.ticket.BuildTicket.{BuildTicket}

-- no number, or the number of the context
abbrev pub IsNumberFor : Option ℕ → Option ℕ → Type 0
IsNumberFor None number = Unit {0}
IsNumberFor (Some n) number = number ≡ Some n

-- the ticket is for a context of this number
abbrev pub IsFor : BuildTicket → Option ℕ → Type 0
IsFor ticket number = IsNumberFor ticket.number number
