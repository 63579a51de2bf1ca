-- Names of nodes, and blank node identifiers by their new names (JSON-LD 1.1 API, 7.2 and 7.4).
use Rattle.std.specs.Prelude.{ℕ, Bool, true, false, ◌&&◌, List, ◌++◌, Option, None, Some, codes, bytes_eq}
use Rattle.std.specs.Fmt.{decimal}

abbrev pub Name : Type 0
Name = List ℕ

-- a graph by its name, or the default graph
abbrev pub Graph : Type 0
Graph = Option Name

-- a node by its graph and its identifier
abbrev pub Subject : Type 0
Subject = Graph × Name

-- a property of a node
abbrev pub Slot : Type 0
Slot = Subject × Name

abbrev pub is_graph : Graph → Graph → Bool
is_graph None None = true
is_graph (Some a) (Some b) = bytes_eq a b
is_graph _ _ = false

abbrev pub is_subject : Subject → Subject → Bool
is_subject a b = is_graph a.0 b.0 && bytes_eq a.1 b.1

abbrev pub is_slot : Slot → Slot → Bool
is_slot a b = is_subject a.0 b.0 && bytes_eq a.1 b.1

-- the n-th new identifier
abbrev pub blank_name : ℕ → Name
blank_name n = codes "_:b" ++ decimal n
