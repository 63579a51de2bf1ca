-- What the algorithm of expansion is given beside an element (JSON-LD 1.1 API, 5.1.2), and how it asks for
-- contexts and expands texts.
use Rattle.std.specs.Prelude.{ℕ, Bool, true, false, if◌then◌else◌, List, [], map, Option, Some, None, option_and_then, codes}
use Rattle.std.specs.Str.{bytes_eq}
use Rattle.ld_tree.specs.Names.{Sorted}
use Rattle.ld_tree.specs.formers.entries.Entries.{on_value, to_shape}
use Rattle.ld_tree.specs.declared.tree.Tree.{Tree}
use Rattle.ld_rec.specs.declared.def.Def.{Def}
use Rattle.ld_rec.specs.declared.def.Containers.{Containers}
use Rattle.ld_rec.specs.declared.way.Way.{Way}
use Rattle.ld_rec.specs.declared.way.Way.TheVariants.{Plain}
use Rattle.ld_rec.specs.Iris.{iri_of}
use Rattle.ld_rec.specs.Outcome.{Answer, give}
use Rattle.ld_rec.specs.Processing.{Ask, process}
use Rattle.ld_rec.specs.Records.{Context, def_of, no_containers, same_text}

-- ---- elements

-- where an element stands: in a context, under an active property where there is one, taken in some way
pub record Place : Type 0 where
  pub context : Context
  pub property : Option (List ℕ)
  pub way : Way

-- what an element comes to, at each place: None is null
abbrev pub Becomes : Type 0
Becomes = Place → Answer (Option Tree)

-- a value within the element at hand, beside what it comes to
abbrev pub Element : Type 0
Element = Tree × Becomes

abbrev pub Entry : Type 0
Entry = List ℕ × Element

-- a map's entries, without what they come to
abbrev pub tree_of : Element → Tree
tree_of value = value.0

abbrev pub trees_of : Sorted Element → Sorted Tree
trees_of entries = (map (on_value tree_of) entries.0, to_shape tree_of entries.0 entries.1)

-- the algorithm again, for a value within
abbrev pub expand_as : Way → Element → Context → Option (List ℕ) → Answer (Option Tree)
expand_as way value context property = value.1 (record { context = context; property = property; way = way })

abbrev pub expand_under : Element → Context → List ℕ → Answer (Option Tree)
expand_under value context property = expand_as Plain value context (Some property)

-- the active property, where it is neither absent nor `@graph`
abbrev pub unless_graph : List ℕ → Option (List ℕ)
unless_graph property = if bytes_eq property (codes "@graph") then None else Some property

abbrev pub held_by : Option (List ℕ) → Option (List ℕ)
held_by property = option_and_then unless_graph property

-- ---- definitions

abbrev pub property_def : Place → Option Def
property_def place = option_and_then (def_of place.context) place.property

abbrev pub containers_of : Option Def → Containers
containers_of (Some def) = def.containers
containers_of None = no_containers

abbrev pub type_mapping_of : Option Def → Option (List ℕ)
type_mapping_of (Some def) = def.typed
type_mapping_of None = None

abbrev pub is_reverse : Option Def → Bool
is_reverse (Some def) = def.reverse
is_reverse None = false

-- ---- contexts: each is asked for anew, with no remote contexts, validated, and within no other invocation

abbrev pub ask_for : Context → Tree → Option (List ℕ) → (over propagate : Bool) → Ask
ask_for context local base over propagate = record {
  active = context;
  local = local;
  base = base;
  remote = [];
  over = over;
  propagate = propagate;
  validate = true;
  depth = 1;
}

abbrev pub with_local : Option Tree → Option (List ℕ) → (over propagate : Bool) → Context → Answer Context
with_local None base over propagate context = give context
with_local (Some local) base over propagate context = process (ask_for context local base over propagate)

-- the context with a definition's own applied to it, where it has one
abbrev pub with_scoped : Option Def → (over propagate : Bool) → Context → Answer Context
with_scoped None over propagate context = give context
with_scoped (Some def) over propagate context = with_local def.scoped def.scoped_base over propagate context

-- 4.2 and 8: a property's own; override protected is true (own for scalars, 4.2)
abbrev pub with_property_scoped : Option Def → Context → Answer Context
with_property_scoped def context = with_scoped def true true context

-- 11.2 and 13.8.3.2: a type's own, which isn't propagated (own in 13.8.3.2)
abbrev pub with_type_scoped : Option Def → Context → Answer Context
with_type_scoped def context = with_scoped def false false context

-- ---- texts (5.2.2)

-- as a name: by vocabulary
abbrev pub name_iri : Context → List ℕ → Option (List ℕ)
name_iri context name = iri_of context name false true

-- as an identifier: document relative
abbrev pub id_iri : Context → List ℕ → Option (List ℕ)
id_iri context text = iri_of context text true false

-- as a type: both
abbrev pub type_iri : Context → List ℕ → Option (List ℕ)
type_iri context text = iri_of context text true true

-- the name expands to the keyword
abbrev pub means : Context → List ℕ → List ℕ → Bool
means context keyword name = same_text (name_iri context name) (Some keyword)
