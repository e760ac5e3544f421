-- The count of faults of a real disk.
use Rattle.std.specs.Prelude.{ℕ}
use Rattle.fj_real.specs.declared.disk.RealDisk.{RealDisk}

abbrev pub disk_count : {R : Type 0} → RealDisk R → ℕ
disk_count disk = disk.faults
