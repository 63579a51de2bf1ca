-- What is stored at a version.
use Rattle.std.specs.Prelude.{ℕ, List, map}
use Rattle.ld_tree.specs.Maps.{empty, put, take_out}
use Rattle.std.specs.Coded.{Coded, coded_ℕ, coded×}
use base.Stored.{coded_via}
use Rattle.ld_tree.specs.Names.{Sorted, sorted_code}
use Rattle.ld_tree.specs.formers.entries.Entries.{on_value, to_shape}
use Rattle.ld_rec.specs.Outcome.{Stock}
use Rattle.ld_rec.specs.declared.doc.Doc.{Doc}

-- a document that is stored, with the number of the flight that brought it and the version that published it
pub record Standing : Type 0 where
  pub doc : Doc
  pub flight : ℕ
  pub version : ℕ

-- the number of a version, and what is stored at it, by IRI
pub record Shot : Type 0 where
  pub version : ℕ
  pub placed : Sorted Standing

abbrev pub shot_code : Coded Standing → Coded Shot
shot_code c = coded_via (coded× coded_ℕ (sorted_code c)) (λ s. (s.version, s.placed)) (λ s t e. λ i. record { version = (e i).0; placed = (e i).1 })

-- version 0, with nothing stored
abbrev pub nothing : Shot
nothing = record { version = 0; placed = empty }

-- the next version, at which the IRI's document is this one, whatever it was before
abbrev pub published : Shot → List ℕ → Standing → Shot
published shot iri standing = record { version = standing.version; placed = put shot.placed iri standing }

-- the next version, at which the IRI has no document
abbrev pub evicted : Shot → List ℕ → ℕ → Shot
evicted shot iri version = record { version = version; placed = take_out shot.placed iri }

-- the documents alone
abbrev pub doc_of : Standing → Doc
doc_of standing = standing.doc

abbrev pub stock_at : Shot → Stock
stock_at shot = (map (on_value doc_of) shot.placed.0, to_shape doc_of shot.placed.0 shot.placed.1)
