-- Loaders over memory.
use Rattle.std.specs.Prelude.{◌≡◌, ℕ, ◌+◌, ◌≤◌, List, [], ◌∷◌, length, take, drop, if◌then◌else◌}
use Rattle.std.specs.Str.{bytes_eq}
use Rattle.ld_edge.specs.Memory.{Plan}
use Rattle.ld_flight.specs.Loads.{Answer, longest_text, rest_of}
use Rattle.ld_flight.specs.declared.given.Given.{Given}

-- an answer with the IRI that it is for
abbrev pub Kept : Type 0
Kept = List ℕ × List ℕ × List ℕ

abbrev pub iri_in : Kept → List ℕ
iri_in kept = kept.0

abbrev pub answer_in : Kept → Answer
answer_in kept = (kept.1, kept.2)

-- the answers for an IRI, in their order
abbrev pub answers_for : List ℕ → List Kept → List Answer
answers_for iri [] = []
answers_for iri (kept ∷ more) = if bytes_eq (iri_in kept) iri then answer_in kept ∷ answers_for iri more else answers_for iri more

abbrev pub IsShort : Kept → Type 0
IsShort kept = length kept.2 ≤ longest_text

-- the answers to come, those given, and which calls fail
pub record Holding : Type 0 where
  pub answers : List Kept
  pub given : List Given
  pub plan : Plan

-- the first answer for the IRI stands at this place
pub record IsFirstAt (iri : List ℕ) (answers : List Kept) (at : ℕ) : Type 0 where
  pub none_before : answers_for iri (take at answers) ≡ []
  pub kept : Kept
  pub here : drop at answers ≡ kept ∷ drop (at + 1) answers
  pub is_for : iri_in kept ≡ iri

-- the answers for an IRI once the first for the IRI given was taken
abbrev pub taken_from : List ℕ → (given : List ℕ) → List Answer → List Answer
taken_from iri given answers = if bytes_eq iri given then rest_of answers else answers

-- this is the answer at the place
abbrev pub IsAnswerAt : List ℕ → List ℕ → List Kept → ℕ → Type 0
IsAnswerAt url text answers at = (kept : Kept) × (drop at answers ≡ kept ∷ drop (at + 1) answers) × (answer_in kept ≡ (url, text))
