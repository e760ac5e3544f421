-- What holds of the positions and bytes that transfers leave, in the words of the bytes before and behind the position.
use Rattle.std.specs.Prelude.{◌≡◌, ◌↔◌, ◌⊎◌, ℕ, ◌+◌, ◌<◌, ◌≤◌, List, [], ◌∷◌, ◌++◌, length, drop, true, false}
use Rattle.fj_modes.specs.declared.specifiers.Access.TheVariants.{Sequential}
use Rattle.fj_seqrec.specs.Lines.{lines}
use Rattle.fj_unfrec.specs.Frames.{EndsWithFrame}
use Rattle.fj_connect.specs.Connection.{Connection, bytes_before, bytes_behind, rest_of_record, missing_feed, begun, past_record, past_end, with_records, with_open_record, with_frame, with_bytes}
use Rattle.fj_connect.specs.PositionLaws.{Stands}
use Rattle.fj_connect.specs.declared.spot.Within.TheVariants.{Outside, Writing}

-- output stands behind what stood before the position, and the position is behind it
pub record IsPut (c : Connection) (text : List ℕ) (after : Connection) : Type 0 where
  pub before : bytes_before after ≡ bytes_before c ++ text
  pub at : after.spot.at ≡ c.spot.at + length text
  pub not_after_end : after.spot.after_end ≡ false

-- records and frames are the last of the file; bytes of an unformatted stream leave what stands behind them
abbrev pub PutsAtThePosition : Type 0
PutsAtThePosition = (c : Connection) (text : List ℕ) → Stands c →
    (IsPut c text (with_records c text) × (bytes_behind (with_records c text) ≡ []) × ((with_records c text).spot.within ≡ Outside))
    × ((count : ℕ) → count ≤ c.spot.at + length text →
    IsPut c text (with_open_record c text count) × (bytes_behind (with_open_record c text count) ≡ [])
    × ((with_open_record c text count).spot.within ≡ Writing) × (begun (with_open_record c text count) ≡ count))
    × (IsPut c text (with_bytes c text) × (bytes_behind (with_bytes c text) ≡ drop (length text) (bytes_behind c)))

-- a frame is put with its two lengths
abbrev pub PutsFrames : Type 0
PutsFrames = (c : Connection) (body : List ℕ) → Stands c → length body ≤ 16777216 →
    EndsWithFrame (bytes_before (with_frame c body)) (bytes_before c) body × (bytes_behind (with_frame c body) ≡ [])

-- between records: with the line feed that is missing, what stands before the position is empty or ends with a line feed; none is
-- missing where it does already
abbrev pub FeedsOnce : Type 0
FeedsOnce = (c : Connection) → Stands c → c.spot.within ≡ Outside →
    ((bytes_before c ++ missing_feed c ≡ []) ⊎ ((front : List ℕ) × (bytes_before c ++ missing_feed c ≡ front ++ 10 ∷ [])))
    × ((front : List ℕ) → bytes_before c ≡ front ++ 10 ∷ [] → missing_feed c ≡ [])

-- the records behind the position are the one at hand and those behind it; input that meets the end has none left
abbrev pub ReadsRecordByRecord : Type 0
ReadsRecordByRecord = (c : Connection) → Stands c →
    (0 < length (bytes_behind c) → lines (bytes_behind c) ≡ rest_of_record c ∷ lines (bytes_behind (past_record c)))
    × (bytes_behind (past_end c) ≡ []) × ((past_end c).bytes ≡ c.bytes)
    × ((past_end c).spot.after_end ≡ true ↔ (c.modes.access ≡ Sequential))
