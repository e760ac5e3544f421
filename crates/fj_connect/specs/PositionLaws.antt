-- What holds of every motion, in the words of records (ISO/IEC 1539-1:2004, 9.7).
use Rattle.std.specs.Prelude.{◌≡◌, ◌≢◌, ◌↔◌, ℕ, ◌+◌, ◌<◌, ◌≤◌, true, false, List, [], ◌∷◌, ◌++◌, length, drop}
use Rattle.fj_value.specs.declared.condition.Condition.TheVariants.{Fine, Error}
use Rattle.fj_modes.specs.declared.specifiers.Access.TheVariants.{Sequential, Direct, Stream}
use Rattle.fj_modes.specs.declared.specifiers.Action.TheVariants.{Read}
use Rattle.fj_seqrec.specs.Lines.{lines, first_line, behind_line}
use Rattle.fj_unfrec.specs.Frames.{EndsWithFrame}
use Rattle.fj_connect.specs.Spot.{IsPlaced}
use Rattle.fj_connect.specs.Connection.{Connection, bytes_before}
use Rattle.fj_connect.specs.Positions.{ended, moved}
use Rattle.fj_connect.specs.declared.spot.Positioning.{Positioning}
use Rattle.fj_connect.specs.declared.spot.Positioning.TheVariants.{Backspace, Rewind, Endfile}
use Rattle.fj_connect.specs.declared.spot.Within.TheVariants.{Outside, Reading, Writing}

-- the connection stands in its file
abbrev pub Stands : Connection → Type 0
Stands c = IsPlaced c.modes (length c.bytes) c.spot

-- an open record gets one line feed, and all else stays; no other connection changes
abbrev pub EndsOpenRecords : Type 0
EndsOpenRecords = (c : Connection) → Stands c →
    (c.spot.within ≡ Writing → ((ended c).bytes ≡ c.bytes ++ 10 ∷ []) × ((ended c).spot.at ≡ length c.bytes + 1) × ((ended c).spot.within ≡ Outside))
    × (c.spot.within ≢ Writing → ended c ≡ c)

-- 28, 10, 20 and 18, each where none of those before it is
pub data Errs (c : Connection) : Positioning → ℕ → Type 0 where
  direct_has_no_motion : {how : Positioning} → c.modes.access ≡ Direct → Errs c how 28
  stream_has_no_record : c.modes.access ≡ Stream → c.modes.formatted ≡ false → Errs c Backspace 28
  file_is_only_read : c.modes.access ≢ Direct → c.modes.action ≡ Read → Errs c Endfile 10
  file_has_ended : c.modes.access ≢ Direct → c.modes.action ≢ Read → c.spot.after_end ≡ true → Errs c Endfile 20
  frame_is_broken : c.modes.access ≡ Sequential → c.modes.formatted ≡ false → c.spot.after_end ≡ false → c.spot.within ≢ Reading → 0 < length (bytes_before c)
      → ((front body : List ℕ) → EndsWithFrame (bytes_before c) front body → ⊥) → Errs c Backspace 18

-- a motion that is in error changes nothing; every other is fine
abbrev pub ErrsExactly : Type 0
ErrsExactly = (c : Connection) (how : Positioning) →
    ((n : ℕ) → Errs c how n → moved c how ≡ (c, Error n))
    × (((n : ℕ) → Errs c how n → ⊥) → (moved c how).1 ≡ Fine)

-- one record fewer stands before the position, in the same bytes
pub record IsOneRecordBack (c after : Connection) : Type 0 where
  pub bytes : after.bytes ≡ c.bytes
  pub before : after.spot.at < c.spot.at
  pub line : c.modes.formatted ≡ true → (record_before : List ℕ) × (lines (bytes_before c) ≡ lines (bytes_before after) ++ record_before ∷ [])
  pub frame : c.modes.formatted ≡ false → (body : List ℕ) × EndsWithFrame (bytes_before c) (bytes_before after) body

-- what BACKSPACE does where it is fine (9.7.1)
pub record IsBack (c after : Connection) : Type 0 where
  pub between : (after.spot.within ≡ Outside) × (after.spot.after_end ≡ false) × (after.spot.start ≡ after.spot.at)
  pub before_end : c.spot.after_end ≡ true → (after.bytes ≡ c.bytes) × (after.spot.at ≡ c.spot.at)
  pub to_start : c.spot.within ≡ Reading → (after.bytes ≡ c.bytes) × (after.spot.at ≡ c.spot.start)
  pub at_first : c.spot.at ≡ 0 → c.spot.within ≡ Outside → (after.bytes ≡ c.bytes) × (after.spot.at ≡ 0)
  pub over_record : c.spot.after_end ≡ false → c.spot.within ≡ Outside → 0 < c.spot.at → IsOneRecordBack c after
  pub over_open_record : c.spot.within ≡ Writing → IsOneRecordBack (ended c) after

-- what REWIND and ENDFILE do (9.7.2, 9.7.3)
pub record IsAtStart (c after : Connection) : Type 0 where
  pub bytes : after.bytes ≡ (ended c).bytes
  pub at : after.spot.at ≡ 0
  pub between : (after.spot.within ≡ Outside) × (after.spot.after_end ≡ false)

pub record IsAtEnd (c after : Connection) : Type 0 where
  pub bytes : after.bytes ≡ bytes_before (ended c)
  pub at : after.spot.at ≡ length after.bytes
  pub between : after.spot.within ≡ Outside
  pub behind : after.spot.after_end ≡ true ↔ (c.modes.access ≡ Sequential)

abbrev pub MovesByRecords : Type 0
MovesByRecords = (c : Connection) → Stands c →
    ((moved c Backspace).1 ≡ Fine → IsBack c (moved c Backspace).0)
    × ((moved c Rewind).1 ≡ Fine → IsAtStart c (moved c Rewind).0)
    × ((moved c Endfile).1 ≡ Fine → IsAtEnd c (moved c Endfile).0)

-- a motion keeps the modes and the name, and leaves a connection that stands in its file
abbrev pub StandsAfterMotions : Type 0
StandsAfterMotions = (c : Connection) (how : Positioning) → Stands c →
    Stands (moved c how).0 × ((moved c how).0.modes ≡ c.modes) × ((moved c how).0.name ≡ c.name)

-- what is left of a record, from a place inside it, is what stands behind that place in it, and ends where the record ends
abbrev pub RestsOfRecords : Type 0
RestsOfRecords = (bytes : List ℕ) (count : ℕ) → count ≤ length (first_line bytes) →
    (first_line (drop count bytes) ≡ drop count (first_line bytes)) × (behind_line (drop count bytes) ≡ behind_line bytes)
