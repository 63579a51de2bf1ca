-- The stored IRIs by the version that published them, and the versions of those that may go.
use Rattle.std.specs.Prelude.{◌≡◌, ℕ, ◌≤◌, List, Option, Some, None, Bool, true, false, not, ◌&&◌, is_some}
use Rattle.std.specs.List.{list_any}
use Rattle.std.specs.List.Sorted.{IsStrictlySortedBy}
use Rattle.std.specs.Option.{option_map}
use Rattle.std.specs.Ordering.{nat_cmp}
use Rattle.std.specs.Map.{keys_of, remove_entry}
use Rattle.std.specs.BTreeMap.{is_at}
use Rattle.ld_tree.specs.Names.{name_cmp}
use Rattle.ld_history.specs.declared.session.Stored.{Stored}
use Rattle.ld_history.specs.declared.session.Flying.{Flying}
use Rattle.ld_history.specs.Words.{at_number, at_iri, same_iri}
use Rattle.ld_history.specs.Holders.{Holders}

-- the version that published the IRI, where it is stored
abbrev pub version_of : List (List ℕ × Stored) → List ℕ → Option ℕ
version_of stored iri = option_map (λ x. x.version) (at_iri stored iri)

-- what stands in the order, with nothing at the version, where there is one
abbrev pub without : List (ℕ × List ℕ) → Option ℕ → List (ℕ × List ℕ)
without order None = order
without order (Some version) = remove_entry (is_at (nat_cmp version)) order

pub record IsOrder (stored : List (List ℕ × Stored)) (order : List (ℕ × List ℕ)) : Type 0 where
  pub by_iri : IsStrictlySortedBy name_cmp (keys_of stored)
  pub sorted : IsStrictlySortedBy nat_cmp (keys_of order)
  -- a stored IRI stands at its version, and what stands at a version is stored with it
  pub listed : (iri : List ℕ) (version : ℕ) → version_of stored iri ≡ Some version → at_number order version ≡ Some iri
  pub stands : (version : ℕ) (iri : List ℕ) → at_number order version ≡ Some iri → version_of stored iri ≡ Some version

-- none of the stored IRIs was published after this version
pub record ArePast (version : ℕ) (stored : List (List ℕ × Stored)) : Type 0 where
  pub each : (iri : List ℕ) (made : ℕ) → version_of stored iri ≡ Some made → made ≤ version

-- ---- which versions may go
-- the version is among them
abbrev pub has : List ℕ → ℕ → Bool
has versions version = list_any (is_at (nat_cmp version)) versions

-- this is the version, where there is one
abbrev pub is_version : Option ℕ → ℕ → Bool
is_version None version = false
is_version (Some own) version = is_at (nat_cmp own) version

-- at each of the versions stands an IRI
pub record AreKnown (order : List (ℕ × List ℕ)) (free : List ℕ) : Type 0 where
  pub each : (version : ℕ) → has free version ≡ true → is_some (at_number order version) ≡ true

-- nobody holds the IRI, and it isn't under revision
abbrev pub goes : Holders → List (List ℕ × Flying) → List ℕ → Bool
goes holders revisions iri = not (is_some (at_iri holders iri)) && not (is_some (at_iri revisions iri))

-- one of the IRIs is this one
abbrev pub is_among : List (List ℕ) → List ℕ → Bool
is_among iris iri = list_any (λ k. same_iri k iri) iris

-- The versions are those of the IRIs that may go, but for some IRIs, of which nothing is said.
pub record IsFree (but : List (List ℕ)) (order : List (ℕ × List ℕ)) (free : List ℕ) (holders : Holders) (revisions : List (List ℕ × Flying)) : Type 0 where
  pub each : (version : ℕ) (iri : List ℕ) → at_number order version ≡ Some iri → is_among but iri ≡ false → has free version ≡ goes holders revisions iri

-- whether an IRI is held is as it was, but for some IRIs
pub record IsHeldAlike (but : List (List ℕ)) (before after : Holders) : Type 0 where
  pub each : (iri : List ℕ) → is_among but iri ≡ false → is_some (at_iri after iri) ≡ is_some (at_iri before iri)
