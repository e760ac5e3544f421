-- The writer of a real sink, and its count of faults.
use Rattle.std.specs.Prelude.{ℕ}
use Rattle.fj_real.specs.declared.sink.RealSink.{RealSink}

abbrev pub writer_of : {W : Type 0} → RealSink W → W
writer_of sink = sink.inner

abbrev pub sink_count : {W : Type 0} → RealSink W → ℕ
sink_count sink = sink.faults
