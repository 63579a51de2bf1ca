-- The components that the code's `Parts` stand for.
use Rattle.std.specs.Prelude.{option_copied}
use Rattle.ld_iri.specs.declared.parts.Parts.{Parts}
use Rattle.ld_iri.specs.Components.{Components}

abbrev pub components : Parts → Components
components p = record {
  scheme = option_copied p.scheme;
  authority = option_copied p.authority;
  path = p.path.now;
  query = option_copied p.query;
  fragment = option_copied p.fragment;
}
