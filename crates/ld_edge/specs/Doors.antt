-- What is told of a door.
use Rattle.std.specs.Prelude.{◌≡◌, ℕ, suc, ◌≤◌, length, List, [], ◌∷◌, ◌++◌, Option, Some, IfSome}
use Rattle.std.specs.Option.{option_map}
use Rattle.ld_edge.specs.Memory.{Ends, Plan}
use Rattle.ld_edge.specs.Sides.{Incoming, Outgoing}

-- what is told of the two sides of a link
abbrev pub Sides : Type 0
Sides = Incoming × Outgoing

pub record Doorway : Type 0 where
  -- how many links were given, and how many of them came back
  pub given : ℕ
  pub back : ℕ
  -- how many links are left, where that is told
  pub left : Option ℕ
  -- the sides of each link that came back, in the order in which they came, where that is told
  pub returned : Option (List Sides)
  -- how many calls failed
  pub faults : ℕ

-- one link fewer is left
abbrev pub IsOneFewer : Option ℕ → Option ℕ → Type 0
IsOneFewer before after = before ≡ option_map suc after

-- the link came back behind the others
abbrev pub with_link : Option (List Sides) → Sides → Option (List Sides)
with_link returned sides = option_map (λ others. others ++ sides ∷ []) returned

-- nothing was read of the link's bytes, and none was written, as far as they are told
abbrev pub IsUnused : Sides → Type 0
IsUnused sides = IfSome sides.0.given (λ given. given ≡ []) × IfSome sides.1.held (λ held. held ≡ [])

-- all bytes of the link are told
pub record IsTold (sides : Sides) : Type 0 where
  pub given : List ℕ
  pub given_is : sides.0.given ≡ Some given
  pub left : List ℕ
  pub left_is : sides.0.left ≡ Some left
  pub held : List ℕ
  pub held_is : sides.1.held ≡ Some held

-- ---- over memory

-- a link on which nothing was done
pub record IsNew (link : Ends) : Type 0 where
  pub unread : link.source.given ≡ []
  pub unwritten : link.sink.held ≡ []
  pub no_read_fault : link.source.plan.faults.number ≡ 0
  pub no_write_fault : link.sink.plan.faults.number ≡ 0

-- the links that are left, how many were given, those that came back, and which calls fail
pub record Keeping : Type 0 where
  pub left : List Ends
  pub given : ℕ
  pub returned : List Ends
  pub plan : Plan
  pub at_most_given : length returned ≤ given
