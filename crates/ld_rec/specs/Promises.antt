-- What a context promises: its bases are IRIs, and it has no more previous contexts than the limit.
use Rattle.std.specs.Prelude.{◌≡◌, ℕ, ◌≤◌, true, List, length, Option, Some, None}
use Rattle.std.specs.List.{AllByRecursion}
use Rattle.ld_iri.specs.Words.{is_iri}
use Rattle.ld_tree.specs.Names.{Sorted}
use Rattle.ld_rec.specs.declared.def.Def.{Def}
use Rattle.ld_rec.specs.Records.{Layer, Context}
use Rattle.ld_rec.specs.Processing.{Ask, previous_limit}

-- absent, or of IRI form
abbrev pub IsBase : Option (List ℕ) → Type 0
IsBase None = Unit {0}
IsBase (Some text) = is_iri text ≡ true

-- the base URL of the scoped context
abbrev pub KeepsDef : Def → Type 0
KeepsDef def = IsBase def.scoped_base

abbrev pub KeepsEntry : List ℕ × Def → Type 0
KeepsEntry e = KeepsDef e.1

abbrev pub KeepsTerms : Sorted Def → Type 0
KeepsTerms terms = AllByRecursion KeepsEntry terms.0

-- base IRI, original base URL, and those of the definitions
pub record KeepsLayer (layer : Layer) : Type 0 where
  pub base : IsBase layer.base
  pub first_base : IsBase layer.first_base
  pub terms : KeepsTerms layer.terms

-- the context's own, and its previous contexts'
pub record KeepsContext (context : Context) : Type 0 where
  pub own : KeepsLayer context.own
  pub before : AllByRecursion KeepsLayer context.before
  pub within : length context.before ≤ previous_limit

pub record KeepsAsk (ask : Ask) : Type 0 where
  pub active : KeepsContext ask.active
  pub base : IsBase ask.base
