-- The bytes of a file with failing calls, and how its calls go on.
use Rattle.std.specs.Prelude.{ℕ, List}
use Rattle.fj_outside.specs.Plan.{Calls}
use Rattle.fj_outside.specs.declared.failing_file.FailingFile.{FailingFile}

abbrev pub file_bytes : FailingFile → List ℕ
file_bytes file = file.inner

abbrev pub file_calls : FailingFile → Calls
file_calls file = file.plan

abbrev pub file_count : FailingFile → ℕ
file_count file = file.faults
