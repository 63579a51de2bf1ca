-- Entries by texts, read as entries by names.
use Rattle.std.specs.Prelude.{ℕ, List, string_bytes, map}
use Rattle.std.specs.declared.string.String.{String}

-- each text as its bytes
abbrev pub named : {A T : Type 0} → List (String A × T) → List (List ℕ × T)
named es = map (λ e. (string_bytes e.0, e.1)) es
