-- The state after a history, as far as a rule asks for it.
use Rattle.std.specs.Prelude.{ℕ, List, [], Option, None}
use Rattle.ld_history.specs.declared.session.Session.{Session}
use Rattle.ld_history.specs.declared.session.Flight.{Flight}
use Rattle.ld_history.specs.declared.session.Flying.{Flying}
use Rattle.ld_history.specs.declared.session.Stored.{Stored}
use Rattle.ld_history.specs.declared.session.Eviction.{Eviction}

pub record Store : Type 0 where
  -- the number of the current version
  pub version : ℕ
  -- how many entries the history has
  pub events : ℕ
  -- how many bytes are kept: the lengths of all texts that were published, other than oversize
  -- ones, and the length of each IRI that was ever led, once
  pub bytes : ℕ
  -- how many sessions were opened
  pub opened : ℕ
  -- the open sessions, by number
  pub sessions : List (ℕ × Session)
  -- the flights, of which the first has the number 1
  pub flights : List Flight
  -- the Lead flights under way, by IRI, and the Revise flights
  pub leads : List (List ℕ × Flying)
  pub revisions : List (List ℕ × Flying)
  -- what is stored now, by IRI
  pub stored : List (List ℕ × Stored)
  -- for each IRI that was ever led, the versions at which it came into the store and went out, in turn: the
  -- code's index of what a version had. A rule asks no more of it than whether an IRI was ever led.
  pub turns : List (List ℕ × List ℕ)
  -- the last entry, where it is an Evicted
  pub evicted : Option Eviction

-- no entry as yet: version 0, with nothing stored
abbrev pub empty_store : Store
empty_store = record {
  version = 0;
  events = 0;
  bytes = 0;
  opened = 0;
  sessions = [];
  flights = [];
  leads = [];
  revisions = [];
  stored = [];
  turns = [];
  evicted = None;
}
