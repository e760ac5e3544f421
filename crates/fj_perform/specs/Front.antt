-- Where a transfer begins, as the program has it.
use Rattle.std.specs.Prelude.{◌≡◌, ℕ, ◌+◌, ◌-◌, ◌<◌, ◌≤◌, ◌^◌, ◌==◌, nat_le, Bool, true, false, ℤ, pos, negsuc, Option, Some, None, Result, Ok, Err, if◌then◌else◌}
use Rattle.fj_value.specs.declared.condition.Condition.{Condition}
use Rattle.fj_value.specs.declared.condition.Condition.TheVariants.{Error}
use Rattle.fj_modes.specs.declared.specifiers.Access.{Access}
use Rattle.fj_modes.specs.declared.specifiers.Access.TheVariants.{Direct, Stream}
use Rattle.fj_modes.specs.Words.{same_access}
use Rattle.fj_connect.specs.Connection.{Connection, between}
use Rattle.fj_connect.specs.Positions.{ended}
use Rattle.fj_transfer.specs.Places.{before_number}
use Rattle.fj_perform.specs.declared.start.Start.{Start}
use Rattle.fj_perform.specs.declared.start.Start.TheVariants as start

-- a number that counts from 1
abbrev pub counted : ℤ → Option ℕ
counted (pos n) = if n == 0 then None else Some n
counted (negsuc n) = None

-- the connection there
abbrev pub started : Start → Connection → Connection
started start.Here c = c
started (start.Byte place) c = between c place
started (start.Record number) c = before_number c number

abbrev pub starts : Connection → Result Start Condition → Result Connection Condition
starts c (Ok start) = Ok (started start c)
starts c (Err condition) = Err condition

-- the place that POS= names, once the record is ended that output left open where an input follows
abbrev pub follows : Bool → Connection → Connection
follows input c = if input then ended c else c

-- it is one of a connection of this access, in a file of this size
abbrev pub IsStart : Access → ℕ → Start → Type 0
IsStart access size start.Here = same_access access Direct ≡ false
IsStart access size (start.Byte place) = (access ≡ Stream) × (place ≤ size)
IsStart access size (start.Record number) = (access ≡ Direct) × (0 < number) × (number < 2 ^ 63)

-- the byte that POS= names, in a file of this size
abbrev pub byte_within : ℕ → Option ℕ → Result Start Condition
byte_within size None = Err (Error 21)
byte_within size (Some n) = if nat_le n (size + 1) then Ok (start.Byte (n - 1)) else Err (Error 21)

-- the byte that it names
abbrev pub place_of : Start → Option ℕ
place_of (start.Byte place) = Some place
place_of _ = None

-- whether POS= names it
abbrev pub IsNamed : Start → Bool → Type 0
IsNamed start.Here named = named ≡ false
IsNamed (start.Byte place) named = named ≡ true
IsNamed (start.Record number) named = Unit {0}
