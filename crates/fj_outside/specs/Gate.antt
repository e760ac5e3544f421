-- The files and the disk at a gate.
use Rattle.std.specs.Prelude.{◌≡◌, ℕ, List, Bool, string_bytes}
use Rattle.std.specs.FinMap as map
use Rattle.std.specs.FinSet as set
use Rattle.fj_outside.specs.Holdings.{Holdings}
use Rattle.fj_outside.specs.Table.{held_of}
use Rattle.fj_outside.specs.declared.gate.Gate.{Gate}
use Rattle.fj_outside.specs.declared.gate_file.GateFile.{GateFile}
use Rattle.fj_outside.specs.declared.gate_disk.GateDisk.{GateDisk}

-- how many looks a gate has
abbrev pub turns_of : Gate → ℕ
turns_of gate = gate.turns

abbrev pub file_bytes : GateFile → List ℕ
file_bytes file = file.inner

-- its writes go on only where the gate is open
abbrev pub file_waits : GateFile → Bool
file_waits file = file.waits

-- its writes open the gate
abbrev pub file_opens : GateFile → Bool
file_opens file = file.opens

abbrev pub file_turns : GateFile → ℕ
file_turns file = turns_of file.gate

abbrev pub file_count : GateFile → ℕ
file_count file = file.faults

abbrev pub disk_held : GateDisk → Holdings
disk_held disk = held_of disk.table.entries

-- the name of the file that waits
abbrev pub waiting_name : GateDisk → List ℕ
waiting_name disk = string_bytes disk.held

-- the name of the file that opens the gate
abbrev pub opening_name : GateDisk → List ℕ
opening_name disk = string_bytes disk.until

abbrev pub disk_turns : GateDisk → ℕ
disk_turns disk = turns_of disk.gate

abbrev pub disk_count : GateDisk → ℕ
disk_count disk = disk.faults

-- An empty disk of which no call has failed, with those names and so many looks.
pub record IsNew (disk : GateDisk) (held until : List ℕ) (turns : ℕ) : Type 0 where
  pub files : (disk_held disk).files ≡ map.empty
  pub in_use : (disk_held disk).in_use ≡ set.empty
  pub hurt : (disk_held disk).hurt ≡ set.empty
  pub waits : waiting_name disk ≡ held
  pub opens : opening_name disk ≡ until
  pub looks : disk_turns disk ≡ turns
  pub count : disk_count disk ≡ 0
