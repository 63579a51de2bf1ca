-- What the bytes of a connection say (RFC 9112, sections 2.2, 3, 6.2 and 9.3). The limits, and which items close the
-- connection with what status, are the project's own.
use Rattle.std.specs.Prelude.{◌≡◌, ℕ, ◌+◌, Bool, true, false, ◌||◌, List, [], ◌∷◌, ◌++◌, length, take, drop, Option, Some, None, if◌then◌else◌, nat_le, nat_lt, ◌==◌, codes, bytes_eq}
use Rattle.ld_head.specs.declared.dialogue.Ending.{Ending}
use Rattle.ld_head.specs.declared.dialogue.Ending.TheVariants.{Between, Inside, Shut}
use Rattle.ld_head.specs.declared.dialogue.Marks.{Marks}
use Rattle.ld_head.specs.declared.finding.Place.{Place}
use Rattle.ld_head.specs.declared.finding.Place.TheVariants.{Before, BeforeCr, Within, AfterLf, AfterLfCr, Done}
use Rattle.ld_head.specs.declared.head.Head.{Head}
use Rattle.ld_head.specs.declared.path.Path.{Path}
use Rattle.ld_head.specs.Heads.{Verdict, Accepts, Refuses, Says}
use Rattle.ld_head.specs.Paths.{path_of}

-- ---- where a head ends

-- Where a byte leads. Empty lines may come before a head, and an empty line ends it. It is LF or CR LF.
abbrev pub step : Place → ℕ → Place
step Before b = if b == 10 then Before else (if b == 13 then BeforeCr else Within)
step BeforeCr b = if b == 10 then Before else Within
step Within b = if b == 10 then AfterLf else Within
step AfterLf b = if b == 10 then Done else (if b == 13 then AfterLfCr else Within)
step AfterLfCr b = if b == 10 then Done else Within
step Done b = Done

abbrev pub is_done : Place → Bool
is_done Done = true
is_done _ = false

-- how bytes begin
pub data Front : Type 0 where
  Whole : (head rest : List ℕ) → Front
  TooLong : Front
  Unfinished : Place → Front

-- After these bytes of a head, which lead to the place. A head has at most 16,384, with the empty lines before it and
-- the one that ends it.
abbrev pub front_from : List ℕ → Place → List ℕ → Front
front_from seen place [] = if nat_le 16384 (length seen) then TooLong else Unfinished place
front_from seen place (b ∷ bs) =
    if nat_le 16384 (length seen) then TooLong
    else (if is_done (step place b) then Whole (seen ++ b ∷ []) bs
    else front_from (seen ++ b ∷ []) (step place b) bs)

abbrev pub front : List ℕ → Front
front bytes = front_from [] Before bytes

-- ---- what is asked

pub data Item : Type 0 where
  Ask : Path → (body : List ℕ) → Item
  Bad : (status : ℕ) → Item

-- an item with its marks
pub record Marked : Type 0 where
  pub item : Item
  pub marks : Marks

-- the path is looked at before the method
abbrev pub asked_at : Option Path → (method body : List ℕ) → Item
asked_at None method body = Bad 404
asked_at (Some path) method body = if bytes_eq method (codes "POST") then Ask path body else Bad 405

abbrev pub asked : Head → List ℕ → Item
asked h body = asked_at (path_of h.path) h.method body

-- of item n of the connection, counted from 0; the 65,536th closes
abbrev pub marks_of : ℕ → Head → Marks
marks_of n h = record { interim = h.interim; closes = h.closes || nat_le 65535 n; head_alone = bytes_eq h.method (codes "HEAD") }

abbrev pub good : ℕ → Head → List ℕ → Marked
good n h body = record { item = asked h body; marks = marks_of n h }

abbrev pub bad_marks : Bool → Marks
bad_marks was_head = record { interim = false; closes = true; head_alone = was_head }

abbrev pub bad : ℕ → Bool → Marked
bad status was_head = record { item = Bad status; marks = bad_marks was_head }

-- ---- the dialogue

pub record Dialogue : Type 0 where
  pub items : List Marked
  pub ending : Ending

-- the input ends there
abbrev pub ends_at : Place → Ending
ends_at Before = Between
ends_at _ = Inside false

abbrev pub silence : Ending → Dialogue
silence ending = record { items = []; ending = ending }

-- the interim text is due where the input ends so
abbrev pub is_due_at : Ending → Bool
is_due_at (Inside interim) = interim
is_due_at _ = false

abbrev pub before : Marked → Dialogue → Dialogue
before item d = record { items = item ∷ d.items; ending = d.ending }

-- how a dialogue goes on from a place
pub data Opening : Type 0 where
  Stops : Ending → Opening
  Shuts : Marked → Opening
  GoesOn : Marked → (rest : List ℕ) → Opening

-- after an item, and these bytes
abbrev pub opened_by : Marked → List ℕ → Opening
opened_by item rest = if item.marks.closes then Shuts item else GoesOn item rest

-- after a whole head of that verdict: the body has the length that the head tells (RFC 9112, section 6.2)
abbrev pub opened : ℕ → Verdict → List ℕ → Opening
opened n (Refuses status was_head) after = Shuts (bad status was_head)
opened n (Accepts h) after =
    if nat_lt (length after) h.length then Stops (Inside h.interim)
    else opened_by (good n h (take h.length after)) (drop h.length after)

abbrev pub OpensAt : ℕ → Front → Opening → Type 0
OpensAt n (Unfinished place) opening = opening ≡ Stops (ends_at place)
OpensAt n TooLong opening = opening ≡ Shuts (bad 431 false)
OpensAt n (Whole head after) opening = (v : Verdict) × Says head v × (opening ≡ opened n v after)

-- the bytes begin so, at item n
abbrev pub Opens : ℕ → List ℕ → Opening → Type 0
Opens n bytes opening = OpensAt n (front bytes) opening

-- from item n on, the bytes say this; what comes after an item that closes isn't looked at
pub data Speaks : ℕ → List ℕ → Dialogue → Type 0 where
  stops : (n : ℕ) (bytes : List ℕ) (ending : Ending) → Opens n bytes (Stops ending) → Speaks n bytes (silence ending)
  shuts : (n : ℕ) (bytes : List ℕ) (item : Marked) → Opens n bytes (Shuts item) → Speaks n bytes (before item (silence Shut))
  goes_on : (n : ℕ) (bytes rest : List ℕ) (item : Marked) (d : Dialogue) → Opens n bytes (GoesOn item rest) → Speaks (n + 1) rest d → Speaks n bytes (before item d)

-- the whole input says this
abbrev pub IsDialogue : List ℕ → Dialogue → Type 0
IsDialogue bytes d = Speaks 0 bytes d
