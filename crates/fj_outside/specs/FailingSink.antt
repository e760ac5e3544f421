-- What a sink with failing writes took, and how its calls go on.
use Rattle.std.specs.Prelude.{ℕ, List}
use Rattle.fj_outside.specs.Plan.{Calls}
use Rattle.fj_outside.specs.declared.failing_sink.FailingSink.{FailingSink}

abbrev pub sink_taken : FailingSink → List ℕ
sink_taken sink = sink.inner

abbrev pub sink_calls : FailingSink → Calls
sink_calls sink = sink.plan

abbrev pub sink_count : FailingSink → ℕ
sink_count sink = sink.faults
