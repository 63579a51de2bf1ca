-- What a loader tells of its loads.
use Rattle.std.specs.Prelude.{◌≡◌, ℕ, ◌+◌, List, [], ◌∷◌, length, Option, IfSome, option_map, if◌then◌else◌}
use Rattle.std.specs.Str.{bytes_eq}
use Rattle.sha2.specs.Sha256.{sha256}
use Rattle.ld_rec.specs.Documents.{text_limit, Keeps}
use Rattle.ld_rec.specs.declared.doc.Doc.{Doc}
use Rattle.ld_flight.specs.Passes.{Flight}
use Rattle.ld_flight.specs.declared.given.Given.{Given}

-- the greatest length of a text that is handed on; one of this length stands for all that are too long
abbrev pub longest_text : ℕ
longest_text = text_limit + 1

-- the entry of an answer in the list of a loader's answers
abbrev pub entry_of : Flight → List ℕ → List ℕ → Given
entry_of flight url text = record { flight = flight.number; iri = flight.iri; url = url; length = length text; mark = sha256 text }

-- an answer that is to come: the place that the document comes from, and its text
abbrev pub Answer : Type 0
Answer = List ℕ × List ℕ

-- what is told of a loader
pub record Loading : Type 0 where
  -- the answers that it gave, in their order
  pub given : List Given
  -- for each IRI the answers that are to come, where they are told
  pub held : List ℕ → Option (List Answer)
  -- how many loads failed
  pub faults : ℕ

-- the answer is the first of those to come
abbrev pub IsFirst : List Answer → Answer → Type 0
IsFirst [] answer = ⊥
IsFirst (first ∷ more) answer = first ≡ answer

-- where the answers to come are told
abbrev pub IsNext : Option (List Answer) → Answer → Type 0
IsNext answers answer = IfSome answers (λ told. IsFirst told answer)

-- the answers to come once the first was given: it goes, unless it is the only one
abbrev pub rest_of : List Answer → List Answer
rest_of (first ∷ next ∷ more) = next ∷ more
rest_of answers = answers

-- the answers to come for an IRI once one for another IRI, or for this one, was given
abbrev pub left_of : List ℕ → (given : List ℕ) → Option (List Answer) → Option (List Answer)
left_of iri given answers = if bytes_eq iri given then option_map rest_of answers else answers

-- the document of a place's text
pub record IsDocument (doc : Doc) (url : List ℕ) (text : List ℕ) : Type 0 where
  pub url_is : doc.url ≡ url
  pub keeps : Keeps text doc.body
