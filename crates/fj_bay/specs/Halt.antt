-- Halts: after an error or the end of the file the pending transfers of a unit are skipped, until that was told (own).
use Rattle.std.specs.Prelude.{Bool, true, false, List, Option, Some, None, if◌then◌else◌}
use Rattle.fj_value.specs.declared.condition.Condition.{Condition}
use Rattle.fj_value.specs.declared.condition.Condition.TheVariants.{Fine, EndOfFile, EndOfRecord, Error}
use Rattle.fj_value.specs.declared.value.Cell.{Cell}
use Rattle.fj_connect.specs.Connection.{Connection}
use Rattle.fj_transfer.specs.Transfer.{Done, in_error}

-- an error or the end of the file
abbrev pub halts : Condition → Bool
halts Fine = false
halts EndOfRecord = false
halts EndOfFile = true
halts (Error n) = true

-- a halt stays, and an error or the end of the file sets one
abbrev pub halt_behind : Option Condition → Condition → Option Condition
halt_behind (Some cause) condition = Some cause
halt_behind None condition = if halts condition then Some condition else None

-- In a halt a transfer is skipped: nothing is moved, the cells of an input are undefined, and it has the cause as its condition.
-- Else it comes to what carrying it out gives.
abbrev pub unless_halted : Option Condition → Connection → Bool → List Cell → Done → Done
unless_halted None c input cells done = done
unless_halted (Some cause) c input cells done = in_error c input cells cause
