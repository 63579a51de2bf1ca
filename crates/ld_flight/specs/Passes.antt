-- Flights: each is the load of one context.
use Rattle.std.specs.Prelude.{ℕ, ◌-◌, ◌^◌, List}

-- the flight that a pass stands for: its number, and the IRI of the context
pub record Flight : Type 0 where
  pub number : ℕ
  pub iri : List ℕ

-- how many passes a tower makes at most
abbrev pub last_flight : ℕ
last_flight = 2 ^ 32 - 1
