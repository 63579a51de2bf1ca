-- A context that is ready to be published.
use Rattle.std.specs.Prelude.{◌≡◌, ℕ, ◌≤◌, List, length, Option, Some, None}
use Rattle.sha2.specs.Sha256.{sha256}
use Rattle.ld_rec.specs.declared.doc.Doc.{Doc}
use Rattle.ld_rec.specs.declared.stored.Stored.{Stored}
use Rattle.ld_rec.specs.declared.stored.Stored.TheVariants.{Read, Unreadable, Oversize}
use Rattle.ld_flight.specs.Loads.{longest_text}
use Rattle.ld_flight.specs.Passes.{Flight}

pub record Readied : Type 0 where
  pub pass : Flight
  pub doc : Doc
  -- the length of its text, and the SHA-256 of it
  pub length : ℕ
  pub mark : List ℕ

-- the text that is kept
abbrev pub text_in : Stored → Option (List ℕ)
text_in (Read text tree) = Some text
text_in (Unreadable text) = Some text
text_in Oversize = None

-- A length and a mark are those of the document's text, where it is kept. Else the length is the one that stands for each
-- text that is too long.
pub record Tells (doc : Doc) (size : ℕ) (mark : List ℕ) : Type 0 where
  pub short : size ≤ longest_text
  pub sized : (text : List ℕ) → text_in doc.body ≡ Some text → size ≡ length text
  pub marked : (text : List ℕ) → text_in doc.body ≡ Some text → mark ≡ sha256 text
  pub left_out : text_in doc.body ≡ None → size ≡ longest_text
