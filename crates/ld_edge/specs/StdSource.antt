-- A source over a reader of std.
use Rattle.ld_edge.specs.declared.std_source.StdSource.{StdSource}

abbrev pub reader_of : {R : Type 0} → StdSource R → R
reader_of s = s.reader
