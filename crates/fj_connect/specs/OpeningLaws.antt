-- What holds of every OPEN of a file, in the words of its specifiers (ISO/IEC 1539-1:2004, 9.4.5).
use Rattle.std.specs.Prelude.{◌≡◌, ◌≢◌, ℕ, ◌<◌, ◌≤◌, List, [], length, Option, Some, None, Result, Ok, Err, unwrap_or, false}
use Rattle.std.specs.FinMap as map
use Rattle.fj_value.specs.declared.condition.Condition.{Condition}
use Rattle.fj_value.specs.declared.condition.Condition.TheVariants.{Error}
use Rattle.fj_modes.specs.declared.modes.Modes.{Modes}
use Rattle.fj_modes.specs.declared.specifiers.OpenSpec.{OpenSpec}
use Rattle.fj_modes.specs.declared.specifiers.FileStatus.{FileStatus}
use Rattle.fj_modes.specs.declared.specifiers.FileStatus.TheVariants.{Old, New, Scratch, Replace, Unknown}
use Rattle.fj_modes.specs.declared.specifiers.Start.TheVariants.{Append}
use Rattle.fj_outside.specs.Holdings.{Files}
use Rattle.fj_connect.specs.Connection.{Connection, bytes_before, bytes_behind}
use Rattle.fj_connect.specs.Opening.{opened}
use Rattle.fj_connect.specs.declared.spot.Within.TheVariants.{Outside}

-- STATUS= on a file that is there with these bytes, or is not there: the bytes that it connects to, or the error (9.4.5.15)
pub data Connects : FileStatus → Option (List ℕ) → Result (List ℕ) Condition → Type 0 where
  old : {bytes : List ℕ} → length bytes ≤ 268435456 → Connects Old (Some bytes) (Ok bytes)
  old_is_long : {bytes : List ℕ} → 268435456 < length bytes → Connects Old (Some bytes) (Err (Error 27))
  old_is_missing : Connects Old None (Err (Error 5))
  new : Connects New None (Ok [])
  new_is_there : {bytes : List ℕ} → Connects New (Some bytes) (Err (Error 6))
  scratch : {found : Option (List ℕ)} → Connects Scratch found (Ok [])
  replaced : {found : Option (List ℕ)} → Connects Replace found (Ok [])
  unknown_is_old : {bytes : List ℕ} {answer : Result (List ℕ) Condition} → Connects Old (Some bytes) answer → Connects Unknown (Some bytes) answer
  unknown_is_new : {answer : Result (List ℕ) Condition} → Connects New None answer → Connects Unknown None answer

-- a new connection: its file, its modes, its place between records before the first byte or behind the last one, and the files
-- that are left
pub record IsNew (files : Files) (name : List ℕ) (spec : OpenSpec) (modes : Modes) (c : Connection) (left : Files) : Type 0 where
  pub file : Connects (unwrap_or spec.status Unknown) (map.get files name) (Ok c.bytes)
  pub named : c.name ≡ name
  pub settled : c.modes ≡ modes
  pub at_start : modes.start ≢ Append → bytes_before c ≡ []
  pub at_end : modes.start ≡ Append → (bytes_before c ≡ c.bytes) × (bytes_behind c ≡ [])
  pub between : (c.spot.within ≡ Outside) × (c.spot.start ≡ c.spot.at) × (c.spot.after_end ≡ false)
  pub first : c.spot.next_number ≡ 1
  pub taken : map.get left name ≡ None
  pub others : (q : List ℕ) → q ≢ name → map.get left q ≡ map.get files q

-- OPEN connects as STATUS=, POSITION= and the files say, or is in that error; nothing else can be
abbrev pub OpensByStatus : Type 0
OpensByStatus = (files : Files) (name : List ℕ) (spec : OpenSpec) (modes : Modes) →
    ((c : Connection) (left : Files) → opened files name spec modes ≡ Ok (c, left) → IsNew files name spec modes c left)
    × ((condition : Condition) → opened files name spec modes ≡ Err condition → Connects (unwrap_or spec.status Unknown) (map.get files name) (Err condition))

-- a status and a file give one answer
abbrev pub StatusDecides : Type 0
StatusDecides = (status : FileStatus) (found : Option (List ℕ)) (a b : Result (List ℕ) Condition) → Connects status found a → Connects status found b → a ≡ b
