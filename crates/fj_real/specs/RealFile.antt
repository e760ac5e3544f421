-- The length of a real file, and its count of faults.
use Rattle.std.specs.Prelude.{ℕ}
use Rattle.fj_real.specs.declared.file.RealFile.{RealFile}

abbrev pub file_size : RealFile → ℕ
file_size file = file.size

abbrev pub file_count : RealFile → ℕ
file_count file = file.faults
