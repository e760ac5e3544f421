-- The name of a file that is a source, and its count of faults.
use Rattle.std.specs.Prelude.{ℕ, String}
use Rattle.std.specs.declared.alloc.Global.{Global}
use Rattle.fj_real.specs.declared.late.FileSource.{FileSource}

abbrev pub file_name : {R : Type 0} → FileSource R → String Global
file_name source = source.name

abbrev pub source_count : {R : Type 0} → FileSource R → ℕ
source_count source = source.faults
