-- What is kept of a document's text (own limits).
use Rattle.std.specs.Prelude.{◌≡◌, ℕ, ◌<◌, ◌≤◌, List, length}
use Rattle.ld_tree.specs.declared.tree.Tree.{Tree}
use Rattle.ld_tree.specs.Reading.{reads}
use Rattle.ld_rec.specs.declared.stored.Stored.{Stored}
use Rattle.ld_rec.specs.declared.stored.Stored.TheVariants.{Read, Unreadable, Oversize}

abbrev pub text_limit : ℕ
text_limit = 1048576

-- what is kept is what the text gives: the tree that it reads as, nothing but the text where it reads as none, or
-- nothing where it is too long
abbrev pub Keeps : List ℕ → Stored → Type 0
Keeps text (Read kept tree) = (kept ≡ text) × (length text ≤ text_limit) × reads text tree
Keeps text (Unreadable kept) = (kept ≡ text) × (length text ≤ text_limit) × ((tree : Tree) → reads text tree → ⊥)
Keeps text Oversize = text_limit < length text

abbrev pub IsStored : Stored → Type 0
IsStored body = (text : List ℕ) × Keeps text body
