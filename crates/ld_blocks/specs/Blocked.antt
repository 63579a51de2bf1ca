-- How blocks of 4,096 items hold a list: full ones, the last one, and spare ones, which are empty.
use Rattle.std.specs.Prelude.{◌≡◌, ◌+◌, ◌*◌, ◌^◌, ◌≤◌, List, ◌++◌, All, vec_len, vec_capacity}
use Rattle.std.specs.List.{flat_map}
use Rattle.std.specs.declared.vec.Vec.{Vec}
use Rattle.std.specs.declared.alloc.Global.{Global}
use Rattle.ld_blocks.specs.Listed.{Listed}

abbrev pub Block : Type 0 → Type 0
Block T = Vec T Global

-- what the blocks hold together
abbrev pub joined : {T : Type 0} → List (Vec T Global) → List T
joined blocks = flat_map (λ b. b.items) blocks

abbrev pub listed : {T : Type 0} → Vec (Vec T Global) Global → Vec T Global → Vec (Vec T Global) Global → Listed T
listed full last spare = record { items = joined full.items ++ last.items; capacity = 4096 * (vec_len full + vec_len spare + 1) }

abbrev pub IsFull : {T : Type 0} → Vec T Global → Type 0
IsFull block = vec_len block ≡ 4096

-- it is empty, with room for a block's items
abbrev pub IsSpare : {T : Type 0} → Vec T Global → Type 0
IsSpare block = (vec_len block ≡ 0) × (vec_capacity block ≡ 4096)

pub record IsBlocked {T : Type 0} (full : Vec (Vec T Global) Global) (last : Vec T Global) (spare : Vec (Vec T Global) Global) : Type 0 where
  pub filled : All IsFull full.items
  pub last_room : vec_capacity last ≡ 4096
  pub last_most : vec_len last ≤ 4096
  pub empty : All IsSpare spare.items
  -- a spare block has its place among the full ones
  pub places : vec_len full + vec_len spare ≤ vec_capacity full
  pub few : vec_len full + vec_len spare + 1 ≤ 2 ^ 32
