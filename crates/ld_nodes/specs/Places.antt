-- Where a walk stands, and what of a map it looks at: what the code's places and passes stand for.
use Rattle.std.specs.Prelude.{ℕ}
pub use Rattle.ld_nodes.specs.Names.{Name}
use Rattle.ld_nodes.specs.declared.place.Place as code_place
use Rattle.ld_nodes.specs.declared.place.Place.TheVariants as p
use Rattle.ld_nodes.specs.declared.place.Pass as code_pass
use Rattle.ld_nodes.specs.declared.place.Pass.TheVariants as q

-- where the value that an element gives belongs
pub data Place : Type 0 where
  -- there is no active subject: the element stands right in a graph
  Nowhere : Place
  -- the row of the active subject and the active property
  Row : ℕ → Place
  -- the list in hand
  Hand : Place
  -- the element is the map of the reverse properties of this subject
  ReverseMap : Name → Place
  -- the element has this subject under this reverse property
  Reverse : Name → Name → Place

-- which entries of a map are visited
pub data Pass : Type 0 where
  -- `@list`, in a graph
  ListItems : ℕ → Pass
  -- `@reverse`, in a graph, with the identifier of the map's node
  Reversed : ℕ → Name → Pass
  -- each entry of a map of reverse properties, in a graph, with the subject
  ReverseProperties : ℕ → Name → Pass
  -- `@graph`, in the graph that it makes
  Graph : ℕ → Pass
  -- `@included`, in a graph
  Included : ℕ → Pass
  -- the properties of a node, in a graph
  Properties : ℕ → ℕ → Pass

abbrev pub place_of : code_place.Place → Place
place_of p.Nowhere = Nowhere
place_of (p.Row row) = Row row
place_of p.Hand = Hand
place_of (p.ReverseMap subject) = ReverseMap subject.now
place_of (p.Reverse subject property) = Reverse subject.now property.now

abbrev pub pass_of : code_pass.Pass → Pass
pass_of (q.List graph) = ListItems graph
pass_of (q.Reverse graph id) = Reversed graph id.now
pass_of (q.ReverseProperties graph subject) = ReverseProperties graph subject.now
pass_of (q.Graph graph) = Graph graph
pass_of (q.Included graph) = Included graph
pass_of (q.Properties graph node) = Properties graph node
