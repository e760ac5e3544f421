-- What OPEN of a file leaves of the disk where it does not connect.
use Rattle.std.specs.Prelude.{◌≡◌, ℕ, ◌⊎◌, List, [], Bool, true, false, Option, Some, None, Result, Ok, Err, IfOk, IfErr, IfSome, IfNone}
use Rattle.std.specs.FinMap as map
use Rattle.std.specs.FinSet as set
use Rattle.fj_value.specs.declared.condition.Condition.{Condition}
use Rattle.fj_value.specs.declared.condition.Condition.TheVariants.{Error}
use Rattle.fj_modes.specs.declared.specifiers.FileStatus.{FileStatus}
use Rattle.fj_modes.specs.declared.specifiers.FileStatus.TheVariants.{Old, New, Scratch, Replace, Unknown}
use Rattle.fj_outside.specs.Holdings.{Holdings, Names, out_of}
use Rattle.fj_outside.specs.declared.errors.Stop.TheVariants.{Failed, Memory}
use Rattle.fj_connect.specs.Opening.{bytes_opened, kept_bytes}
use Rattle.fj_connect.specs.declared.connection.opening.OpenFault.{OpenFault}
use Rattle.fj_connect.specs.declared.connection.opening.OpenFault.TheVariants as fault

-- whether the outside failed
abbrev pub has_failed : {T : Type 0} → Result T OpenFault → Bool
has_failed (Ok answer) = false
has_failed (Err (fault.Refused condition)) = false
has_failed (Err (fault.Stop Failed)) = true
has_failed (Err (fault.Stop (Memory error))) = false

-- a fact of the error, where it is one
abbrev pub IfRefused : OpenFault → (Condition → Type 0) → Type 0
IfRefused (fault.Refused condition) P = P condition
IfRefused (fault.Stop stop) P = Unit {0}

-- a fact, where it is no error
abbrev pub IfStopped : OpenFault → Type 0 → Type 0
IfStopped (fault.Refused condition) P = Unit {0}
IfStopped (fault.Stop stop) P = P

-- the error is one of this status
abbrev pub IsErrorOf : FileStatus → Condition → Type 0
IsErrorOf Old condition = (condition ≡ Error 5) ⊎ (condition ≡ Error 27)
IsErrorOf New condition = condition ≡ Error 6
IsErrorOf Unknown condition = condition ≡ Error 27
IsErrorOf Scratch condition = ⊥
IsErrorOf Replace condition = ⊥

-- a file that came out and came back sound is hurt no longer
abbrev pub HurtAsBefore : Names → List ℕ → Names → Type 0
HurtAsBefore old name new = (new ≡ old) ⊎ (new ≡ set.remove old name)

-- the disk holds what it held
pub record HoldsAsBefore (old : Holdings) (name : List ℕ) (new : Holdings) : Type 0 where
  pub files : new.files ≡ old.files
  pub in_use : new.in_use ≡ old.in_use
  pub hurt : HurtAsBefore old.hurt name new.hurt

-- no file is out that was at home, and none was made; a file that was to be made or emptied may be gone
pub record LeavesAtHome (status : FileStatus) (old : Holdings) (name : List ℕ) (new : Holdings) : Type 0 where
  pub files : (new.files ≡ old.files) ⊎ ((bytes_opened status (map.get old.files name) ≡ Ok []) × (new.files ≡ map.remove old.files name))
  pub in_use : new.in_use ≡ old.in_use
  pub hurt : HurtAsBefore old.hurt name new.hurt

-- what OPEN by a status gives of a disk: the file that it connects to, or its error, or a stop
pub record GivesOpened {F : Type 0} (tells : F → Type 0) (bytes : F → List ℕ) (status : FileStatus) (old : Holdings) (name : List ℕ) (new : Holdings) (result : Result F OpenFault) : Type 0 where
  pub opened : IfOk result (λ file. tells file × (bytes_opened status (map.get old.files name) ≡ Ok (bytes file)) × (new ≡ out_of old name))
  pub refused : IfErr result (λ fault. IfRefused fault (λ condition. (bytes_opened status (map.get old.files name) ≡ Err condition) × HoldsAsBefore old name new))
  pub stopped : IfErr result (λ fault. IfStopped fault (LeavesAtHome status old name new))

-- the same of a file that may not be there
pub record GivesFound {F : Type 0} (tells : F → Type 0) (bytes : F → List ℕ) (old : Holdings) (name : List ℕ) (new : Holdings) (result : Result (Option F) OpenFault) : Type 0 where
  pub found : IfOk result (λ found. IfSome found (λ file. tells file × (map.get old.files name ≡ Some (bytes file)) × (kept_bytes (bytes file) ≡ Ok (bytes file)) × (new ≡ out_of old name)))
  pub missing : IfOk result (λ found. IfNone found ((map.get old.files name ≡ None) × (new ≡ old)))
  pub refused : IfErr result (λ fault. IfRefused fault (λ condition. (there : List ℕ) × (map.get old.files name ≡ Some there) × (kept_bytes there ≡ Err condition) × HoldsAsBefore old name new))
  pub stopped : IfErr result (λ fault. IfStopped fault (HoldsAsBefore old name new))
