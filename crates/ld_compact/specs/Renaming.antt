-- Whether Value Compaction (JSON-LD 1.1 API, 6.3.2) of a node refuses one of its types or names, without the map that
-- it comes to.
use Rattle.std.specs.Prelude.{ℕ, Bool, not, ◌||◌, List, [], ◌∷◌, Option, Some, None, is_some, codes, Ok}
use Rattle.ld_tree.specs.Trees.{member}
use Rattle.ld_tree.specs.declared.tree.Tree.{Tree}
use Rattle.ld_rec.specs.Compacting.{Outcome, ◌>>=◌, compact_name}
use Rattle.ld_rec.specs.Kinds.{has_entry, entries_of}
use Rattle.ld_rec.specs.Records.{Context}
use Rattle.ld_rec.specs.Wishes.{text_at}
use Rattle.ld_rec.specs.Words.{names_are_among, text_of}
use Rattle.ld_compact.specs.Adding.{items_at}

-- it comes to a map under every property: it is no value object, and has more than a reference has; its types are no
-- single text, which might be the property's
abbrev pub is_full : Tree → Bool
is_full tree = not (has_entry (codes "@value") tree || is_some (text_at (codes "@type") tree) || names_are_among (codes "@id" ∷ codes "@index" ∷ []) (entries_of tree))

-- a name or a type that is refused, or nothing
abbrev pub check_name : Context → List ℕ → Outcome (Unit {0})
check_name context name = compact_name context name >>= (λ text. Ok tt)

abbrev pub check_type : Context → Option (List ℕ) → Outcome (Unit {0})
check_type context (Some type) = check_name context type
check_type context None = Ok tt

abbrev pub check_types : Context → List Tree → Outcome (Unit {0})
check_types context [] = Ok tt
check_types context (type ∷ types) = check_type context (text_of type) >>= (λ done. check_types context types)

abbrev pub check_names : Context → List (List ℕ × Tree) → Outcome (Unit {0})
check_names context [] = Ok tt
check_names context (e ∷ es) = check_name context e.0 >>= (λ done. check_names context es)

-- types come before names
abbrev pub check_node : Context → Tree → Outcome (Unit {0})
check_node context tree = check_types context (items_at (member (codes "@type") tree)) >>= (λ done. check_names context (entries_of tree).0)
