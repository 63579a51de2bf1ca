-- The lines of a script, and how each is spelled.
use Rattle.std.specs.Prelude.{◌≡◌, ℕ, ◌^◌, ◌<◌, ◌≤◌, nat_le, Bool, not, IsTrue, ◌==◌, ◌&&◌, List, [], ◌∷◌, ◌++◌, length, codes, decimal}
use Rattle.std.specs.List.{list_all}
use Rattle.ld_history.specs.declared.limits.Limits.{Limits}
use Rattle.ld_script.specs.declared.line.Line.{Line}
use Rattle.ld_script.specs.declared.line.Line.TheVariants as line

-- the word spells the number, which is at most this
pub record IsNumber (word : List ℕ) (most number : ℕ) : Type 0 where
  pub bounded : number ≤ most
  pub spelled : word ≡ decimal number

-- words with one space between them
abbrev pub spaced : List (List ℕ) → List ℕ
spaced [] = []
spaced (word ∷ []) = word
spaced (word ∷ next ∷ words) = word ++ 32 ∷ spaced (next ∷ words)

-- the words of a line
abbrev pub words : Line → List (List ℕ)
words (line.Open seat) = codes "open" ∷ decimal seat ∷ []
words (line.Pin session) = codes "pin" ∷ decimal session ∷ []
words (line.Lack session iri) = codes "lack" ∷ decimal session ∷ iri ∷ []
words (line.Give flight length mark) = codes "give" ∷ decimal flight ∷ decimal length ∷ mark ∷ []
words (line.Fail flight before after) = codes "fail" ∷ decimal flight ∷ decimal before ∷ decimal after ∷ []
words (line.Lapse flight) = codes "lapse" ∷ decimal flight ∷ []
words (line.Evict session iri) = codes "evict" ∷ decimal session ∷ iri ∷ []
words (line.Revise session iri) = codes "revise" ∷ decimal session ∷ iri ∷ []
words (line.Answer session) = codes "answer" ∷ decimal session ∷ []
words (line.Close session) = codes "close" ∷ decimal session ∷ []

-- the one spelling of a line, without the line feed that ends it
abbrev pub spelled : Line → List ℕ
spelled line = spaced (words line)

-- the spelling of the line that sets the limits
abbrev pub spelled_limits : Limits → List ℕ
spelled_limits limits = spaced (codes "limits" ∷ decimal limits.contexts ∷ decimal limits.held ∷ decimal limits.events ∷ decimal limits.bytes ∷ [])

-- a byte that may stand in a word: ASCII, and neither a space nor a control character
abbrev pub is_graphic : ℕ → Bool
is_graphic byte = nat_le 0x21 byte && nat_le byte 0x7E

-- one or more such bytes
abbrev pub is_word : List ℕ → Bool
is_word bytes = not (length bytes == 0) && list_all is_graphic bytes

-- the bounds on what a line names
abbrev pub IsGood : Line → Type 0
IsGood (line.Open seat) = seat < 2 ^ 32
IsGood (line.Pin session) = session < 2 ^ 32
IsGood (line.Lack session iri) = (session < 2 ^ 32) × IsTrue (is_word iri)
IsGood (line.Give flight length mark) = (flight < 2 ^ 32) × (length ≤ 1048577) × IsTrue (is_word mark)
IsGood (line.Fail flight before after) = (flight < 2 ^ 32) × (before < 2 ^ 63) × (after < 2 ^ 63)
IsGood (line.Lapse flight) = flight < 2 ^ 32
IsGood (line.Evict session iri) = (session < 2 ^ 32) × IsTrue (is_word iri)
IsGood (line.Revise session iri) = (session < 2 ^ 32) × IsTrue (is_word iri)
IsGood (line.Answer session) = session < 2 ^ 32
IsGood (line.Close session) = session < 2 ^ 32
