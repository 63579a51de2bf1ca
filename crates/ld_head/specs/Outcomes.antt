-- What a request comes to, and the reply that it gets. The table is the project's own; the statuses have the meaning of
-- RFC 9110, section 15, and of RFC 6585, section 5.
use Rattle.std.specs.Prelude.{ℕ, Bool, true, false, ◌||◌, List, Option, None, if◌then◌else◌, ◌==◌, pos, codes}
use Rattle.ld_tree.specs.CompactText.{text}
use Rattle.ld_tree.specs.Maps.{empty, put}
use Rattle.ld_tree.specs.Names.{Sorted}
use Rattle.ld_tree.specs.declared.tree.Num.TheVariants.{Whole}
use Rattle.ld_tree.specs.declared.tree.Tree.{Tree}
use Rattle.ld_tree.specs.declared.tree.Tree.TheOpen.{Tree-F}
use Rattle.ld_tree.specs.declared.tree.Tree.TheViews.{roll-Tree}
use Rattle.ld_head.specs.declared.dialogue.Marks.{Marks}
use Rattle.ld_head.specs.declared.outcome.Outcome.{Outcome}
use Rattle.ld_head.specs.declared.outcome.Outcome.TheVariants.{Result, Evicted, Revised, Same, Code, Own, BadBody, LoadFault, TooMany, StoreFull, ArchiveFull, HistoryFull, Held, Revising, Flying, NotStored, NoMemory, Bad}
use Rattle.ld_head.specs.declared.reply.Media.{Media}
use Rattle.ld_head.specs.declared.reply.Media.TheVariants.{LdJson, Json}
use Rattle.ld_head.specs.declared.reply.Reply.{Reply}
use Rattle.ld_head.specs.Replies.{reply_text}

-- ---- the body

-- a map with a text under the name `own`, beside its other entries
abbrev pub own_with : List ℕ → Sorted Tree → Tree
own_with own entries = roll-Tree (Tree-F.Map (put entries (codes "own") (roll-Tree (Tree-F.Text own))))

-- the map of one number
abbrev pub number_under : List ℕ → ℕ → Sorted Tree
number_under name n = put empty name (roll-Tree (Tree-F.Num (Whole (pos n))))

abbrev pub own_body : List ℕ → Tree
own_body own = own_with own empty

abbrev pub number_body : List ℕ → ℕ → List ℕ → Tree
number_body name n own = own_with own (number_under name n)

abbrev pub version_body : ℕ → Tree
version_body version = roll-Tree (Tree-F.Map (number_under (codes "version") version))

-- why a request is refused before its body is looked at
abbrev pub bad_own : ℕ → List ℕ
bad_own status =
    if status == 404 then codes "no such path"
    else (if status == 405 then codes "method"
    else (if status == 411 then codes "length required"
    else (if status == 413 then codes "body too long"
    else (if status == 417 then codes "expectation"
    else (if status == 431 then codes "head too long"
    else codes "bad head")))))

abbrev pub body_of : Outcome → Tree
body_of (Result tree) = tree
body_of (Evicted version) = version_body version
body_of (Revised version) = version_body version
body_of (Same version) = number_body (codes "version") version (codes "same")
body_of (Code body) = body
body_of (Own body) = body
body_of (BadBody body) = body
body_of (LoadFault body) = body
body_of (TooMany body) = body
body_of StoreFull = own_body (codes "store full")
body_of (ArchiveFull bytes) = number_body (codes "bytes") bytes (codes "archive full")
body_of (HistoryFull events) = number_body (codes "events") events (codes "history full")
body_of (Held session) = number_body (codes "session") session (codes "held")
body_of (Revising flight) = number_body (codes "flight") flight (codes "revising")
body_of (Flying flight) = number_body (codes "flight") flight (codes "flying")
body_of (NotStored version) = number_body (codes "version") version (codes "not stored")
body_of NoMemory = own_body (codes "no memory")
body_of (Bad status) = own_body (bad_own status)

-- ---- the head

abbrev pub status_of : Outcome → ℕ
status_of (Result tree) = 200
status_of (Evicted version) = 200
status_of (Revised version) = 200
status_of (Same version) = 200
status_of (Code body) = 422
status_of (Own body) = 422
status_of (BadBody body) = 400
status_of (LoadFault body) = 502
status_of (TooMany body) = 503
status_of StoreFull = 503
status_of (ArchiveFull bytes) = 503
status_of (HistoryFull events) = 503
status_of (Held session) = 409
status_of (Revising flight) = 409
status_of (Flying flight) = 409
status_of (NotStored version) = 404
status_of NoMemory = 500
status_of (Bad status) = status

-- results alone are JSON-LD
abbrev pub media_of : Outcome → Media
media_of (Result tree) = LdJson
media_of _ = Json

-- a request that stands in no history has no number and no version
abbrev pub is_recorded : Outcome → Bool
is_recorded (BadBody body) = false
is_recorded (HistoryFull events) = false
is_recorded (Bad status) = false
is_recorded _ = true

abbrev pub fields_if : Bool → Option (ℕ × ℕ) → Option (ℕ × ℕ)
fields_if true fields = fields
fields_if false fields = None

-- with 405 comes what is allowed (RFC 9110, section 15.5.6)
abbrev pub names_allowed : Outcome → Bool
names_allowed (Bad status) = status == 405
names_allowed _ = false

-- where the history is full, the connection closes
abbrev pub always_closes : Outcome → Bool
always_closes (HistoryFull events) = true
always_closes _ = false

-- ---- the reply

-- with the request's number and the version of its last pin, where it has them
abbrev pub reply_of : Option (ℕ × ℕ) → Outcome → Marks → Reply
reply_of fields outcome marks = record {
  status = status_of outcome;
  media = media_of outcome;
  fields = fields_if (is_recorded outcome) fields;
  allow = names_allowed outcome;
  close = always_closes outcome || marks.closes;
  head_alone = marks.head_alone;
  body = text (body_of outcome);
}

-- the bytes of the reply
abbrev pub reply : Option (ℕ × ℕ) → Outcome → Marks → List ℕ
reply fields outcome marks = reply_text (reply_of fields outcome marks)
