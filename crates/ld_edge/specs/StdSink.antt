-- A sink over a writer of std.
use Rattle.ld_edge.specs.declared.std_sink.StdSink.{StdSink}

abbrev pub writer_of : {W : Type 0} → StdSink W → W
writer_of s = s.writer
