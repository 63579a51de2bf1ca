-- The bodies of refusals: a map that names the code of the Recommendation, or the refusal that is this project's own.
use Rattle.std.specs.Prelude.{ℕ, ◌-◌, ◌^◌, min, List, Option, Some, None, pos, codes}
use Rattle.ld_codes.specs.Codes.{text_of}
use Rattle.ld_codes.specs.Keywords.{keyword_text}
use Rattle.ld_codes.specs.declared.code.Code.{Code}
use Rattle.ld_codes.specs.declared.own.Own.{Own}
use Rattle.ld_codes.specs.declared.own.Own.TheVariants.{NestingLimit, OutsideProfile}
use Rattle.ld_tree.specs.declared.tree.Num.TheVariants.{Whole}
use Rattle.ld_tree.specs.declared.tree.Tree.{Tree}
use Rattle.ld_tree.specs.declared.tree.Tree.TheOpen.{Tree-F}
use Rattle.ld_tree.specs.declared.tree.Tree.TheViews.{roll-Tree}
use Rattle.ld_tree_read.specs.declared.refusal.ReadRefusal.{ReadRefusal}
use Rattle.ld_tree_read.specs.declared.refusal.ReadRefusal.TheVariants as unread
use Rattle.ld_tree.specs.Maps.{empty, put}
use Rattle.ld_rec.specs.Kinds.{map_of, one_entry, two_entries, text_tree}
use Rattle.ld_answer.specs.declared.refusal.EnvelopeRefusal.{EnvelopeRefusal}
use Rattle.ld_answer.specs.declared.refusal.EnvelopeRefusal.TheVariants as refusal

abbrev pub code_body : Code → Tree
code_body code = one_entry (codes "code") (text_tree (text_of code))

-- this text alone
abbrev pub own_text_body : List ℕ → Tree
own_text_body own = one_entry (codes "own") (text_tree own)

-- and something that it is about
abbrev pub own_about_body : List ℕ → Tree → List ℕ → Tree
own_about_body name about own = two_entries name about (codes "own") (text_tree own)

abbrev pub own_body : Own → Tree
own_body NestingLimit = own_text_body (codes "nesting limit")
own_body (OutsideProfile keyword) = own_about_body (codes "keyword") (text_tree (keyword_text keyword)) (codes "outside profile")

-- a place in the input, or a count; none is above the greatest that is written
abbrev pub number_tree : ℕ → Tree
number_tree n = roll-Tree (Tree-F.Num (Whole (pos (min n (2 ^ 63 - 1)))))

abbrev pub at_body : ℕ → List ℕ → Tree
at_body at own = own_about_body (codes "at") (number_tree at) own

-- why an input is no JSON text
abbrev pub read_body : ReadRefusal → Option Tree
read_body (unread.Syntax at) = Some (at_body at (codes "syntax"))
read_body (unread.NotUtf8 at) = Some (at_body at (codes "not utf-8"))
read_body (unread.Fraction at) = Some (at_body at (codes "fractional number"))
read_body (unread.TooLarge at) = Some (at_body at (codes "number too large"))
read_body (unread.TooDeep at) = Some (at_body at (codes "too deep"))
read_body unread.NoMemory = None

-- why an input is no envelope
abbrev pub refusal_body : EnvelopeRefusal → Option Tree
refusal_body (refusal.Json e) = read_body e
refusal_body refusal.NotAnEnvelope = Some (own_text_body (codes "not an envelope"))
refusal_body (refusal.UnknownField name) = Some (own_about_body (codes "field") (text_tree name) (codes "unknown field"))
refusal_body (refusal.WrongKind name) = Some (own_about_body (codes "field") (text_tree name) (codes "wrong kind"))
refusal_body refusal.NoMemory = None

-- more contexts are needed than a request holds; the first that is missing then
abbrev pub too_many_body : List ℕ → Tree
too_many_body iri = own_about_body (codes "iri") (text_tree iri) (codes "too many contexts")

-- the load of this flight failed, with the loader's count of failures before and after it
abbrev pub load_fault_body : (iri : List ℕ) → (flight before after : ℕ) → Tree
load_fault_body iri flight before after =
    map_of (put (put (put (put (put empty (codes "after") (number_tree after)) (codes "before") (number_tree before)) (codes "flight") (number_tree flight)) (codes "iri") (text_tree iri))
    (codes "own") (text_tree (codes "load fault")))
