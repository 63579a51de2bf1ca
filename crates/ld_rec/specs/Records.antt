-- Active contexts (JSON-LD 1.1 API, 4.1) and term definitions (4.2).
use Rattle.std.specs.Prelude.{ℕ, Bool, false, ◌&&◌, List, [], ◌∷◌, Option, Some, None}
use Rattle.std.specs.Bool.{beq}
use Rattle.std.specs.List.{list_any}
use Rattle.std.specs.Option.{option_eq}
use Rattle.std.specs.Str.{bytes_eq}
use Rattle.ld_tree.specs.Names.{Sorted}
use Rattle.ld_tree.specs.contracts.tree.TreePartialEq.TheImpl as tree
use Rattle.ld_rec.specs.declared.def.Containers.{Containers}
use Rattle.ld_rec.specs.declared.def.Def.{Def}
use Rattle.ld_tree.specs.Maps.{find, empty}

-- a context's own fields: base IRI, original base URL, vocabulary mapping, default language, default base
-- direction (which none has yet), and term definitions
pub record Layer : Type 0 where
  pub base : Option (List ℕ)
  pub first_base : Option (List ℕ)
  pub vocab : Option (List ℕ)
  pub language : Option (List ℕ)
  pub direction : Option (List ℕ)
  pub terms : Sorted Def

-- a context, with those of its previous contexts, the nearest first
pub record Context : Type 0 where
  pub own : Layer
  pub before : List Layer

-- a newly initialized active context for a base
abbrev pub fresh_layer : Option (List ℕ) → Layer
fresh_layer base = record { base = base; first_base = base; vocab = None; language = None; direction = None; terms = empty }

abbrev pub fresh : Option (List ℕ) → Context
fresh base = record { own = fresh_layer base; before = [] }

abbrev pub first_of : List Layer → Option Context
first_of [] = None
first_of (layer ∷ layers) = Some (record { own = layer; before = layers })

abbrev pub previous : Context → Option Context
previous context = first_of context.before

abbrev pub def_of : Context → List ℕ → Option Def
def_of context term = find context.own.terms term

abbrev pub with_terms : Context → Sorted Def → Context
with_terms context terms = record context { own = record context.own { terms = terms } }

abbrev pub is_protected : List ℕ × Def → Bool
is_protected e = e.1.protected

abbrev pub has_protected : Context → Bool
has_protected context = list_any is_protected context.own.terms.0

-- ---- term definitions

abbrev pub no_containers : Containers
no_containers = record { graph = false; id = false; index = false; language = false; list = false; set = false; types = false }

-- 4.2.2, 10: a new term definition
abbrev pub new_def : Bool → Def
new_def protected = record { mapping = None; prefix = false; protected = protected; reverse = false; typed = None; language = None; direction = None; containers = no_containers; scoped = None; scoped_base = None }

abbrev pub same_containers : Containers → Containers → Bool
same_containers a b = beq a.graph b.graph && beq a.id b.id && beq a.index b.index && beq a.language b.language && beq a.list b.list && beq a.set b.set && beq a.types b.types

abbrev pub same_text : Option (List ℕ) → Option (List ℕ) → Bool
same_text a b = option_eq bytes_eq a b

-- 4.2.2, 27.1: the same, other than the protected flag; scoped contexts are the same where their trees are
-- and they came from the same place (own)
abbrev pub same_iri : Def → Def → Bool
same_iri a b = same_text a.mapping b.mapping && beq a.prefix b.prefix && beq a.reverse b.reverse

abbrev pub same_value : Def → Def → Bool
same_value a b = same_text a.typed b.typed && option_eq same_text a.language b.language && option_eq same_text a.direction b.direction

abbrev pub same_scope : Def → Def → Bool
same_scope a b = option_eq tree.ghosts.eq a.scoped b.scoped && same_text a.scoped_base b.scoped_base

abbrev pub same_def : Def → Def → Bool
same_def a b = same_iri a b && same_value a b && same_containers a.containers b.containers && same_scope a b
