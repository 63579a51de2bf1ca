-- The versions at which an IRI came into the store and went out of it, as the code counts them.
use Rattle.std.specs.Prelude.{ℕ, nat_le, Bool, true, ◌&&◌, List, [], ◌∷◌, count_by}
use Rattle.std.specs.List.{list_all}

-- how many turns came with the version or before it
abbrev pub turns_until : List ℕ → ℕ → ℕ
turns_until turns version = count_by (λ turn. nat_le turn version) turns

-- none is below low or below one before it
abbrev pub is_rising : ℕ → List ℕ → Bool
is_rising low [] = true
is_rising low (turn ∷ turns) = nat_le low turn && is_rising turn turns

-- the turns rise, and none is past the version
abbrev pub is_turns : ℕ → List ℕ → Bool
is_turns version turns = is_rising 0 turns && list_all (λ turn. nat_le turn version) turns

-- the same of each IRI's
abbrev pub are_turns : ℕ → List (List ℕ × List ℕ) → Bool
are_turns version entries = list_all (λ e. is_turns version e.1) entries
