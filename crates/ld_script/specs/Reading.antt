-- How a script is read: what the readers of its parts answer.
use Rattle.std.specs.Prelude.{◌≡◌, ◌==◌, ℕ, ◌+◌, ◌^◌, ◌<◌, ◌≤◌, Bool, true, not, Option, Some, None, List, [], ◌∷◌, ◌++◌, length, codes, decimal}
use Rattle.std.specs.List.{list_all}
use Rattle.ld_history.specs.declared.limits.Limits.{Limits}
use Rattle.ld_script.specs.declared.line.Line.{Line}
use Rattle.ld_script.specs.declared.line.Line.TheVariants as line
use Rattle.ld_script.specs.declared.verb.Verb.{Verb}
use Rattle.ld_script.specs.declared.verb.Verb.TheVariants as verb
use Rattle.ld_script.specs.Lines.{spaced, spelled, is_word, IsGood}
use Rattle.ld_script.specs.Scripts.{text_of, AreGood, BeginsWithLine}

-- the byte doesn't stand in the text
abbrev pub lacks : ℕ → List ℕ → Bool
lacks byte text = list_all (λ b. not (b == byte)) text

-- the parts before and after the first such byte
pub record IsSplit (byte : ℕ) (text front back : List ℕ) : Type 0 where
  pub parts : text ≡ front ++ byte ∷ back
  pub first : lacks byte front ≡ true

-- the parts around the first two spaces
pub record IsSplitTwice (text first second third : List ℕ) : Type 0 where
  pub parts : text ≡ first ++ 32 ∷ (second ++ 32 ∷ third)
  pub one : lacks 32 first ≡ true
  pub two : lacks 32 second ≡ true

-- a line's first word
abbrev pub name : Verb → List ℕ
name verb.Open = codes "open"
name verb.Pin = codes "pin"
name verb.Lack = codes "lack"
name verb.Give = codes "give"
name verb.Fail = codes "fail"
name verb.Lapse = codes "lapse"
name verb.Evict = codes "evict"
name verb.Revise = codes "revise"
name verb.Answer = codes "answer"
name verb.Close = codes "close"

abbrev pub verb_of : Line → Verb
verb_of (line.Open seat) = verb.Open
verb_of (line.Pin session) = verb.Pin
verb_of (line.Lack session iri) = verb.Lack
verb_of (line.Give flight length mark) = verb.Give
verb_of (line.Fail flight before after) = verb.Fail
verb_of (line.Lapse flight) = verb.Lapse
verb_of (line.Evict session iri) = verb.Evict
verb_of (line.Revise session iri) = verb.Revise
verb_of (line.Answer session) = verb.Answer
verb_of (line.Close session) = verb.Close

-- the words after it
abbrev pub arguments : Line → List ℕ
arguments (line.Open seat) = decimal seat
arguments (line.Pin session) = decimal session
arguments (line.Lack session iri) = spaced (decimal session ∷ iri ∷ [])
arguments (line.Give flight length mark) = spaced (decimal flight ∷ decimal length ∷ mark ∷ [])
arguments (line.Fail flight before after) = spaced (decimal flight ∷ decimal before ∷ decimal after ∷ [])
arguments (line.Lapse flight) = decimal flight
arguments (line.Evict session iri) = spaced (decimal session ∷ iri ∷ [])
arguments (line.Revise session iri) = spaced (decimal session ∷ iri ∷ [])
arguments (line.Answer session) = decimal session
arguments (line.Close session) = decimal session

-- the verb of this name, if there is one
abbrev pub IsVerb : List ℕ → Option Verb → Type 0
IsVerb word None = (v : Verb) → word ≡ name v → ⊥
IsVerb word (Some v) = word ≡ name v

-- the good line of this verb whose further words these are, if there is one
abbrev pub AreArguments : Verb → List ℕ → Option Line → Type 0
AreArguments v rest None = (line : Line) → IsGood line → verb_of line ≡ v → rest ≡ arguments line → ⊥
AreArguments v rest (Some line) = IsGood line × (verb_of line ≡ v) × (rest ≡ arguments line)

-- the good line that the text spells, if there is one
abbrev pub IsLine : List ℕ → Option Line → Type 0
IsLine text None = (line : Line) → IsGood line → text ≡ spelled line → ⊥
IsLine text (Some line) = IsGood line × (text ≡ spelled line)

-- a session and an IRI as words
pub record IsSessionIri (rest : List ℕ) (session : ℕ) (iri : List ℕ) : Type 0 where
  pub spelled : rest ≡ decimal session ++ 32 ∷ iri
  pub fits : session < 2 ^ 32
  pub word : is_word iri ≡ true

-- a flight, a length and a mark as words
pub record IsGiven (rest : List ℕ) (flight length : ℕ) (mark : List ℕ) : Type 0 where
  pub spelled : rest ≡ decimal flight ++ 32 ∷ (decimal length ++ 32 ∷ mark)
  pub fits : flight < 2 ^ 32
  pub short : length ≤ 1048577
  pub word : is_word mark ≡ true

-- the words after the first of the line that sets limits
abbrev pub limits_words : Limits → List ℕ
limits_words limits = decimal limits.contexts ++ 32 ∷ (decimal limits.held ++ 32 ∷ (decimal limits.events ++ 32 ∷ decimal limits.bytes))

-- The first bad line of a text without a line that sets limits has this number, where its first line
-- has the number `from`.
pub record IsStuckAt (text : List ℕ) (from number : ℕ) : Type 0 where
  pub lines : List Line
  pub good : AreGood lines
  pub rest : List ℕ
  pub split : text ≡ text_of lines ++ rest
  pub counted : number ≡ from + length lines
  pub some_left : rest ≡ [] → ⊥
  pub no_line : BeginsWithLine rest → ⊥
