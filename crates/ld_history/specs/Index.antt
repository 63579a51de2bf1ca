-- What the index tells of the open sessions.
use Rattle.std.specs.Prelude.{◌≡◌, ℕ, ◌^◌, ◌<◌, nat_le, Bool, true, ◌&&◌, List, [], length, Option, Some, count_by}
use Rattle.std.specs.List.{list_all}
use Rattle.std.specs.List.Sorted.{IsStrictlySortedBy}
use Rattle.std.specs.Option.{option_map}
use Rattle.std.specs.Ordering.{nat_cmp}
use Rattle.std.specs.Map.{keys_of, values_of}
use Rattle.ld_history.specs.declared.session.Session.{Session}
use Rattle.ld_history.specs.declared.index.Index.{Index}
use Rattle.ld_history.specs.Words.{at_number, has_request, is_idle, holds, is_some_and}
use Rattle.ld_history.specs.Holders.{held_by, AreFilled}

-- the numbers are at most this one, and so are as many
abbrev pub are_numbered : ℕ → List ℕ → Bool
are_numbered opened numbers = list_all (λ n. nat_le n opened) numbers && nat_le (length numbers) opened

-- where the session sits
abbrev pub sits_at : List (ℕ × Session) → ℕ → Option ℕ
sits_at sessions n = option_map (λ s. s.seat) (at_number sessions n)

pub record IsIndex (sessions : List (ℕ × Session)) (index : Index) : Type 0 where
  pub sorted : IsStrictlySortedBy nat_cmp (keys_of sessions)
  pub few : length sessions < 2 ^ 32
  pub busy : index.busy ≡ count_by has_request (values_of sessions)
  -- a session sits in its seat, and who sits in a seat is a session
  pub seated : (n seat : ℕ) → sits_at sessions n ≡ Some seat → at_number index.seats.entries seat ≡ Some n
  pub sits : (seat n : ℕ) → at_number index.seats.entries seat ≡ Some n → sits_at sessions n ≡ Some seat
  -- an idle session holds nothing, and the holders of an IRI are the sessions that hold it
  pub idle : (n : ℕ) (s : Session) → at_number sessions n ≡ Some s → is_idle s.last ≡ true → s.held ≡ []
  pub filled : AreFilled index.holders.entries
  pub held : (iri : List ℕ) (n : ℕ) → held_by index.holders.entries iri n ≡ is_some_and (λ s. holds s iri) (at_number sessions n)
