-- What passes through an object: what is told of its sides before and after.
use Rattle.std.specs.Prelude.{◌≡◌, ℕ, ◌<◌, List, length, take, IsTrue, IfSome, []}
use Rattle.std.specs.Io.KnownBytes.{append_known, prepend_known}
use Rattle.ld_edge.specs.Faults.{Rose}
use Rattle.ld_edge.specs.Sides.{Incoming, Outgoing}

-- these bytes came
abbrev pub Comes : Incoming → Incoming → List ℕ → Type 0
Comes source source' bytes = (source'.given ≡ append_known source.given bytes) × (source.left ≡ prepend_known bytes source'.left)

-- the input was read to its end: where it is told, no byte is left
abbrev pub IsReadToEnd : Incoming → Type 0
IsReadToEnd source = IsTrue source.is_ended × IfSome source.left (λ rest. rest ≡ [])

-- these bytes went out
abbrev pub Goes : Outgoing → Outgoing → List ℕ → Type 0
Goes sink sink' bytes = sink'.held ≡ append_known sink.held bytes

-- a front of these bytes went out, which isn't all of them
abbrev pub GoesInPart : Outgoing → Outgoing → List ℕ → Type 0
GoesInPart sink sink' bytes = (n : ℕ) × (n < length bytes) × Goes sink sink' (take n bytes)
