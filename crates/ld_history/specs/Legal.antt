-- Whole histories.
use Rattle.std.specs.Prelude.{◌≡◌, ℕ, ◌≤◌, nat_le, Bool, true, List, [], ◌∷◌, ◌++◌, map, take_while, is_some}
use Rattle.ld_history.specs.declared.limits.Limits.{Limits}
use Rattle.ld_history.specs.declared.event.Given.{Given}
use Rattle.ld_history.specs.declared.event.Event.{Event}
use Rattle.ld_history.specs.declared.event.Event.TheVariants as event
use Rattle.ld_history.specs.declared.event.Entry.{Entry}
use Rattle.ld_history.specs.Store.{Store, empty_store}
use Rattle.ld_history.specs.Words.{at_iri}
use Rattle.ld_history.specs.Rules.{allows}
use Rattle.ld_history.specs.After.{after}

abbrev pub Entries : Type 0
Entries = List (Entry (List ℕ) Given)

-- what a `State` stands for
pub record History : Type 0 where
  pub limits : Limits
  pub entries : Entries

-- the state after the entries that follow on this one
abbrev pub replay : Store → Entries → Store
replay store [] = store
replay store (entry ∷ entries) = replay (after store entry) entries

abbrev pub state : Entries → Store
state entries = replay empty_store entries

-- the entry makes no version above this one
abbrev pub is_by : ℕ → Event (List ℕ) → Bool
is_by version (event.Published flight made) = nat_le made version
is_by version (event.Evicted session iri made) = nat_le made version
is_by version _ = true

-- The stock of a version is what the entries up to it published and evicted: for each IRI that is
-- stored then, the flight whose answer stands there.
abbrev pub stock : Entries → ℕ → List (List ℕ × ℕ)
stock entries version = map (λ e. (e.0, e.1.flight)) (state (take_while (λ entry. is_by version entry.event) entries)).stored

-- the IRI is in the version's stock
unfoldable pub is_in_stock : Entries → List ℕ → ℕ → Bool
is_in_stock entries iri version = is_some (at_iri (stock entries version) iri)

-- the entry may come next after these, and what a version had is its stock
abbrev pub is_allowed : Limits → Entries → Entry (List ℕ) Given → Bool
is_allowed limits entries entry = allows (is_in_stock entries) limits (state entries) entry

-- each entry is allowed after the entries before it
abbrev pub LegalAfter : Limits → Entries → Entries → Type 0
LegalAfter limits before [] = Unit {0}
LegalAfter limits before (entry ∷ entries) = (is_allowed limits before entry ≡ true) × LegalAfter limits (before ++ entry ∷ []) entries

abbrev pub Legal : Limits → Entries → Type 0
Legal limits entries = LegalAfter limits [] entries

-- no limit is above the server's
pub record AreWithin (limits : Limits) : Type 0 where
  pub contexts : limits.contexts ≤ 256
  pub held : limits.held ≤ 64
  pub events : limits.events ≤ 16777216
  pub bytes : limits.bytes ≤ 134217728
