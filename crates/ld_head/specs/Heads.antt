-- What a request head says, over httparse's grammar of heads (RFC 9112, sections 3 to 6). The order of the checks, the
-- limits and their statuses are the project's own.
use Rattle.std.specs.Prelude.{ℕ, ◌≤◌, Bool, true, false, not, ◌&&◌, ◌||◌, List, [], ◌∷◌, length, map, Result, Ok, Err, if◌then◌else◌, nat_lt, ◌==◌, codes, bytes_eq}
use Rattle.std.specs.List.{list_all}
use Rattle.std.specs.Char.{is_ascii_digit}
use Rattle.std.specs.Str.Parse.{digits_value}
use Rattle.httparse.specs.Grammar.{RequestHead, ReadsRequest}
use Rattle.httparse.specs.Spans.{name_and_value}
use Rattle.http1.specs.Fields.{Header, is_named, values_named, elements_named, has_option}
use Rattle.http1.specs.Text.{eq_ignore_case}
use Rattle.ld_head.specs.declared.head.Head.{Head}
use Rattle.ld_head.specs.declared.head.HeadRefusal.{HeadRefusal}
use Rattle.ld_head.specs.declared.head.HeadRefusal.TheVariants.{Status, NoMemory}

-- what the checks of a head look at
pub record Parts : Type 0 where
  pub method : List ℕ
  pub target : List ℕ
  pub minor : ℕ
  pub fields : List Header

abbrev pub parts : RequestHead → Parts
parts h = record { method = h.method; target = h.target; minor = h.minor; fields = map name_and_value h.fields }

abbrev pub is_none_said : List (List ℕ) → Bool
is_none_said [] = true
is_none_said (v ∷ vs) = false

abbrev pub is_said_once : List (List ℕ) → Bool
is_said_once [] = false
is_said_once (v ∷ vs) = is_none_said vs

-- 1*DIGIT
abbrev pub is_digits : List ℕ → Bool
is_digits value = nat_lt 0 (length value) && list_all is_ascii_digit value

-- no Content-Length, or one, of digits
abbrev pub is_length : List (List ℕ) → Bool
is_length [] = true
is_length (v ∷ vs) = is_none_said vs && is_digits v

-- the length that is told, or none
abbrev pub body_length : List (List ℕ) → ℕ
body_length [] = 0
body_length (v ∷ vs) = digits_value 10 v

-- an Expect asks for `100-continue`, in any case
abbrev pub expects_well : Header → Bool
expects_well f = not (is_named (codes "expect") f) || eq_ignore_case f.1 (codes "100-continue")

abbrev pub lengths : Parts → List (List ℕ)
lengths p = values_named (codes "content-length") p.fields

abbrev pub expectations : Parts → List (List ℕ)
expectations p = values_named (codes "expect") p.fields

-- HTTP/1.1 has exactly one Host (RFC 9112, section 3.2)
abbrev pub has_host : Parts → Bool
has_host p = (p.minor == 0) || is_said_once (values_named (codes "host") p.fields)

-- a body comes whose length isn't told, or is told by a transfer coding
abbrev pub lacks_length : Parts → Bool
lacks_length p =
    not (is_none_said (values_named (codes "transfer-encoding") p.fields))
    || (bytes_eq p.method (codes "POST") && is_none_said (lengths p))

-- HTTP/1.1 expects something that isn't the interim text
abbrev pub expects_other : Parts → Bool
expects_other p = not (p.minor == 0) && not (list_all expects_well p.fields)

-- the interim text is due
abbrev pub is_interim_due : Parts → Bool
is_interim_due p = not (p.minor == 0) && not (is_none_said (expectations p))

-- the connection closes after the reply
abbrev pub closes : Parts → Bool
closes p = (p.minor == 0) || has_option (codes "close") (elements_named (codes "connection") p.fields)

-- what is said of a head
pub data Verdict : Type 0 where
  Accepts : Head → Verdict
  -- the reply has this status, and the connection closes; a reply to HEAD is a head alone
  Refuses : (status : ℕ) → (was_head : Bool) → Verdict

abbrev pub refused : Parts → ℕ → Verdict
refused p status = Refuses status (bytes_eq p.method (codes "HEAD"))

abbrev pub accepted : Parts → Verdict
accepted p = Accepts (record { method = p.method; path = p.target; length = body_length (lengths p); interim = is_interim_due p; closes = closes p })

-- the checks in their order: the first that fails decides
abbrev pub judged : Parts → Verdict
judged p =
    if not (has_host p && is_length (lengths p)) then refused p 400
    else (if lacks_length p then refused p 411
    else (if nat_lt 4194304 (body_length (lengths p)) then refused p 413
    else (if expects_other p then refused p 417
    else accepted p)))

-- the block is the head h, which has at most 64 fields
pub record IsHead (block : List ℕ) (h : RequestHead) : Type 0 where
  pub reads : ReadsRequest block h []
  pub few : length h.fields ≤ 64

-- the block is no such head
abbrev pub IsNoHead : List ℕ → Type 0
IsNoHead block = (h : RequestHead) → ¬ (IsHead block h)

-- What a block says: the verdict on its head, or, where it is none, that its head is bad. Its method isn't known then.
pub data Says (block : List ℕ) : Verdict → Type 0 where
  head : (h : RequestHead) → IsHead block h → Says block (judged (parts h))
  no_head : IsNoHead block → Says block (Refuses 400 false)

-- a reader's answer is what the block says, unless memory is wanting
abbrev pub Answers : List ℕ → Result Head HeadRefusal → Type 0
Answers block (Ok h) = Says block (Accepts h)
Answers block (Err (Status status was_head)) = Says block (Refuses status was_head)
Answers block (Err NoMemory) = Unit {0}
