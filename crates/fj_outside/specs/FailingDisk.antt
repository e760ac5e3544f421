-- What a disk with failing calls holds, and how its calls go on.
use Rattle.std.specs.Prelude.{ℕ}
use Rattle.fj_outside.specs.Holdings.{Holdings}
use Rattle.fj_outside.specs.Plan.{Calls}
use Rattle.fj_outside.specs.Plans.{Plans}
use Rattle.fj_outside.specs.Table.{held_of}
use Rattle.fj_outside.specs.declared.failing_disk.FailingDisk.{FailingDisk}

abbrev pub disk_held : FailingDisk → Holdings
disk_held disk = held_of disk.table.entries

-- the calls on the disk itself
abbrev pub disk_calls : FailingDisk → Calls
disk_calls disk = disk.plan

-- the calls on each file
abbrev pub disk_plans : FailingDisk → Plans
disk_plans disk = disk.plans

-- its own number
abbrev pub disk_refusals : FailingDisk → ℕ
disk_refusals disk = disk.refusals

abbrev pub disk_count : FailingDisk → ℕ
disk_count disk = disk.faults
