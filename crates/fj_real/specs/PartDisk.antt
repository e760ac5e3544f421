-- The prefix of a part of the current folder, the name that was joined last, and its count of faults.
use Rattle.std.specs.Prelude.{ℕ, List, string_bytes}
use Rattle.fj_real.specs.declared.part.PartDisk.{PartDisk}
use Rattle.fj_real.specs.RealDisk.{disk_count}

abbrev pub part_prefix : {R : Type 0} → PartDisk R → List ℕ
part_prefix disk = string_bytes disk.prefix

abbrev pub part_joined : {R : Type 0} → PartDisk R → List ℕ
part_joined disk = string_bytes disk.joined

abbrev pub part_count : {R : Type 0} → PartDisk R → ℕ
part_count disk = disk_count disk.disk
