-- What a source with failing reads has left, and how its calls go on.
use Rattle.std.specs.Prelude.{ℕ, List}
use Rattle.fj_outside.specs.Plan.{Calls}
use Rattle.fj_outside.specs.declared.failing_source.FailingSource.{FailingSource}

abbrev pub source_left : FailingSource → List ℕ
source_left source = source.inner

abbrev pub source_calls : FailingSource → Calls
source_calls source = source.plan

abbrev pub source_count : FailingSource → ℕ
source_count source = source.faults
