-- Which texts are scripts, and which line is bad in a text that isn't.
use Rattle.std.specs.Prelude.{◌≡◌, ℕ, ◌+◌, Option, Some, None, IfSome, List, [], ◌∷◌, ◌++◌, length}
use Rattle.ld_history.specs.declared.limits.Limits.{Limits}
use Rattle.ld_history.specs.Legal.{AreWithin}
use Rattle.ld_script.specs.declared.line.Line.{Line}
use Rattle.ld_script.specs.Lines.{spelled, spelled_limits, IsGood}

-- lines in turn, each ended by a line feed
abbrev pub text_of : List Line → List ℕ
text_of [] = []
text_of (line ∷ lines) = spelled line ++ 10 ∷ text_of lines

abbrev pub AreGood : List Line → Type 0
AreGood [] = Unit {0}
AreGood (line ∷ lines) = IsGood line × AreGood lines

-- the first line, where it sets the limits
abbrev pub heading : Option Limits → List ℕ
heading None = []
heading (Some limits) = spelled_limits limits ++ 10 ∷ []

-- how many lines that is
abbrev pub heading_lines : Option Limits → ℕ
heading_lines None = 0
heading_lines (Some limits) = 1

-- the server's limits
abbrev pub server : Limits
server = record { contexts = 256; held = 64; events = 16777216; bytes = 134217728 }

-- the limits that hold: the server's, where no line sets others
abbrev pub limits_of : Option Limits → Limits
limits_of None = server
limits_of (Some limits) = limits

-- limits that a line may set: none is above the server's
abbrev pub MaySet : Option Limits → Type 0
MaySet first = IfSome first (λ limits. AreWithin limits)

-- the text is a script of these lines, under these limits
pub record IsScript (text : List ℕ) (limits : Limits) (lines : List Line) : Type 0 where
  pub first : Option Limits
  pub within : MaySet first
  pub under : limits ≡ limits_of first
  pub good : AreGood lines
  pub spelled : text ≡ heading first ++ text_of lines

-- a good line is next, with its line feed
abbrev pub BeginsWithLine : List ℕ → Type 0
BeginsWithLine text = (line : Line) × (rest : List ℕ) × IsGood line × (text ≡ spelled line ++ 10 ∷ rest)

-- limits within the server's are next, with their line feed
abbrev pub BeginsWithLimits : List ℕ → Type 0
BeginsWithLimits text = (limits : Limits) × (rest : List ℕ) × AreWithin limits × (text ≡ spelled_limits limits ++ 10 ∷ rest)

-- the first bad line of the text is the line of this number, counted from 1: what follows the good
-- lines before it isn't empty, and begins with no good line; nor, at line 1, with limits
pub record IsBadAt (text : List ℕ) (number : ℕ) : Type 0 where
  pub first : Option Limits
  pub within : MaySet first
  pub lines : List Line
  pub good : AreGood lines
  pub rest : List ℕ
  pub split : text ≡ heading first ++ (text_of lines ++ rest)
  pub counted : number ≡ heading_lines first + length lines + 1
  pub some_left : rest ≡ [] → ⊥
  pub no_line : BeginsWithLine rest → ⊥
  pub no_limits : number ≡ 1 → BeginsWithLimits rest → ⊥
