-- What the output buffer of RFC 3986, section 5.2.4, becomes.
use Rattle.std.specs.Prelude.{ℕ, List, [], ◌∷◌, ◌++◌, codes, string_bytes}
use Rattle.ld_iri.specs.declared.dots.Output.{Output}
use Rattle.ld_iri.specs.declared.dots.Last.{Last}
use Rattle.ld_iri.specs.declared.dots.Last.TheVariants.{Nothing, Segment, Dots}
use Rattle.ld_iri.specs.Resolution.{moved, without_dots}

-- the text once the rest of the segments has come too
abbrev pub completed : Last → List ℕ → List (List ℕ) → List ℕ
completed Nothing text rest = without_dots rest
completed Segment text rest = moved text rest
completed Dots text [] = text ++ codes "/"
completed Dots text (s ∷ rest) = moved text (s ∷ rest)

abbrev pub completes : Output → List (List ℕ) → List ℕ
completes output rest = completed output.last (string_bytes output.text) rest
