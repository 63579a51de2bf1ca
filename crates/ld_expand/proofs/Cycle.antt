-- The stages of the cycle, over plain variables.
use Rattle.std.proofs.Common.{◌≡◌, ◌∙◌, refl, sym, ap, subst, ℕ, ◌+◌, ◌<◌, ◌≤◌, List, [], ◌∷◌, length, drop, get_or, map, Option, Some, Ok}
use Rattle.std.specs.Prelude.{Result}
use Rattle.ld_tree.specs.Names.{Sorted}
use Rattle.ld_tree.specs.declared.tree.Tree.{Tree}
use Rattle.ld_rec.specs.declared.def.Def.{Def}
use Rattle.ld_rec.specs.declared.def.Containers.{Containers}
use Rattle.ld_rec.specs.declared.stop.Stop.{Stop}
use Rattle.ld_rec.specs.Outcome.{Answer, Stock, give, each, ◌>>=◌, GivesAs, Refuses}
use Rattle.ld_rec.specs.Kinds.{list_of}
use Rattle.ld_rec.specs.Places.{Place, Element, Entry, property_def, containers_of}
use Rattle.ld_rec.specs.Expansion.{Node, add_key, keyed_becomes, property_value, by_property, add_property, add_unless_null, graphed, listed}
use Rattle.ld_expand.specs.Steps.{entry_beside}
use Rattle.ld_expand.proofs.Stages.{then_result, then_refuses, gives_same, loop_goes, loop_refuses, next_item}

-- a step of a loop over entries, each beside what it comes to
module _ {S : Type 0} (stock later : Stock) (same : later ≡ stock) (step : Entry → S → Answer S) (base : Option (List ℕ)) (entries items : List (List ℕ × Tree)) (i : ℕ) (e : List ℕ × Tree) (name : List ℕ)
    (within : i < length items) (is : e ≡ get_or items i e) (named : name ≡ e.0) (start s : S)
    (so : ((each step (map (entry_beside base) entries) start).run stock).result ≡ ((each step (map (entry_beside base) (drop i items)) s).run stock).result) where
  comes : map (entry_beside base) (drop i items) ≡ entry_beside base (name, e.1) ∷ map (entry_beside base) (drop (i + 1) items)
  comes = ap (map (entry_beside base)) (next_item items i e within is) ∙ ap (λ (n : List ℕ). entry_beside base (n, e.1) ∷ map (entry_beside base) (drop (i + 1) items)) (sym named)

  pub entry_goes : (t : S) → ((step (entry_beside base (name, e.1)) s).run later).result ≡ Ok t
      → ((each step (map (entry_beside base) entries) start).run stock).result ≡ ((each step (map (entry_beside base) (drop (i + 1) items)) t).run stock).result
  entry_goes t h =
      loop_goes stock later same step (map (entry_beside base) entries) (map (entry_beside base) (drop i items)) (map (entry_beside base) (drop (i + 1) items)) (entry_beside base (name, e.1)) start s comes so t h

  pub entry_refuses : (stop : Stop) → Refuses stop ((step (entry_beside base (name, e.1)) s).run later).result → Refuses stop ((each step (map (entry_beside base) entries) start).run stock).result
  entry_refuses stop h =
      loop_refuses stock later same step (map (entry_beside base) entries) (map (entry_beside base) (drop i items)) (map (entry_beside base) (drop (i + 1) items)) (entry_beside base (name, e.1)) start s comes so stop h

-- the map of a container, by its keys
module _ (stock : Stock) (containers : Containers) (entries : List Entry) (place : Place) (same : containers ≡ containers_of (property_def place)) where
  abbrev as_joined : List Tree → Answer (Option Tree)
  as_joined joined = give (Some (list_of joined))

  by_keys : ((each (add_key (containers_of (property_def place)) place) entries []).run stock).result ≡ ((each (add_key containers place) entries []).run stock).result
  by_keys = sym (ap (λ (k : Containers). ((each (add_key k place) entries []).run stock).result) same)

  pub keyed_gives : (joined : List Tree) → ((each (add_key containers place) entries []).run stock).result ≡ Ok joined → ((keyed_becomes entries place).run stock).result ≡ Ok (Some (list_of joined))
  keyed_gives joined h = then_result stock (each (add_key (containers_of (property_def place)) place) entries []) as_joined joined (by_keys ∙ h)

  pub keyed_refuses : (e : Stop) → Refuses e ((each (add_key containers place) entries []).run stock).result → Refuses e ((keyed_becomes entries place).run stock).result
  keyed_refuses e h = then_refuses stock (each (add_key (containers_of (property_def place)) place) entries []) as_joined e (subst (λ r. Refuses e r) (sym by_keys) h)

-- a property: its value, and then what is added
pub property_gives : (stock : Stock) (node : Node) (iri name : List ℕ) (value : Element) (def known : Option Def) (found : Option Tree) (tree : Tree) (old new : Sorted Tree) (given : Result (Unit {0}) Stop)
    → known ≡ def → ((property_value node name known value).run stock).result ≡ Ok found → found ≡ Some tree
    → GivesAs (λ _. new) given ((add_property iri known (graphed (containers_of known) (listed (containers_of known) tree)) old).run stock).result
    → GivesAs (λ _. new) given ((by_property node iri name def value old).run stock).result
property_gives stock node iri name value def known found tree old new given same h is k =
    gives_same (λ _. new) given ((add_property iri known (graphed (containers_of known) (listed (containers_of known) tree)) old).run stock).result _
    (ap (λ (d : Option Def). ((by_property node iri name d value old).run stock).result) (sym same)
    ∙ then_result stock (property_value node name known value) (λ (t : Option Tree). add_unless_null iri known t old) found h
    ∙ ap (λ (t : Option Tree). ((add_unless_null iri known t old).run stock).result) is) k
