-- A scan of records, and what it stands for in the list of their characters.
use Rattle.std.specs.Prelude.{◌≡◌, ℕ, ◌≤◌, ◌-◌, Bool, true, false, List, [], ◌∷◌, length, take, drop, Option, Some, None}
use Rattle.fj_value.specs.declared.condition.Condition.{Condition}
use Rattle.fj_list.specs.Stream.{Stream, stream, records_behind}
use Rattle.fj_list.specs.ListInput.{Split, value, stopped, closed, delimited, with_front, Outcome, token_at, repeated, constant_at}
use Rattle.fj_moved.specs.Cells.{with_value}
use Rattle.fj_value.specs.declared.value.Cell.{Cell}
use Rattle.fj_list.specs.declared.constant.Read.{Read}
use Rattle.fj_list.specs.declared.constant.Read.TheVariants as read
use Rattle.fj_list.specs.declared.constant.Form.{Form}
use Rattle.fj_list.specs.declared.constant.Form.TheVariants.{Null, Undelimited, Delimited}
use Rattle.fj_list.specs.declared.scan.Scan.{Scan}
use Rattle.fj_list.specs.declared.scan.Token.{Token}
use Rattle.fj_list.specs.declared.scan.Token.TheVariants as token

-- its places lie in the record at hand
pub record IsSound (s : Scan) : Type 0 where
  pub at : s.at ≤ length s.line
  pub start : s.start ≤ s.end
  pub end : s.end ≤ length s.line

-- what is not yet read of the record at hand, and the records to come
abbrev pub ahead : Scan → List (List ℕ) → Stream
ahead s to_come = stream (drop s.at s.line ∷ to_come)

-- the characters of the constant that is served
abbrev pub constant_of : Form → Scan → List ℕ
constant_of Null s = []
constant_of Undelimited s = take (s.end - s.start) (drop s.start s.line)
constant_of Delimited s = s.characters

-- the scan stands at its next character, or the records have ended in this condition
abbrev pub Reaches : Option Condition → Stream → Stream → Condition → List (List ℕ) → Type 0
Reaches None wanted found ending to_come = found ≡ wanted
Reaches (Some condition) wanted found ending to_come = (wanted ≡ []) × (condition ≡ ending) × (to_come ≡ [])

-- a delimited constant was read, or the records have ended in this condition
abbrev pub Closes : Option Condition → Option (List ℕ × Stream) → List ℕ → Stream → Condition → List (List ℕ) → Type 0
Closes None wanted characters found ending to_come = wanted ≡ Some (characters, found)
Closes (Some condition) wanted characters found ending to_come = (wanted ≡ None) × (condition ≡ ending) × (to_come ≡ [])

-- what is split off where the scan has read up to a token
abbrev pub split_by : Bool → Condition → Token → Scan → List (List ℕ) → Split
split_by comma ending token.Constant s to_come = value s.count s.form (constant_of s.form s) (ahead s to_come)
split_by comma ending (token.Opened mark) s to_come = closed comma ending s.count (delimited mark false (ahead s to_come))
split_by comma ending (token.Stopped condition) s to_come = stopped condition (ahead s to_come)

-- a value was split off, or the statement ends with a condition
abbrev pub IsSplit : Option Condition → Split → Scan → List (List ℕ) → Type 0
IsSplit None wanted s to_come = wanted ≡ value s.count s.form (constant_of s.form s) (ahead s to_come)
IsSplit (Some condition) (stopped wanted rest) s to_come = (condition ≡ wanted) × (to_come ≡ records_behind rest)
IsSplit (Some condition) (value count form cs rest) s to_come = ⊥

-- a delimited constant has ended, or goes on in the next record
abbrev pub piece_end : Bool → ℕ → Scan → List (List ℕ) → Option (List ℕ × Stream)
piece_end true mark s to_come = Some (s.characters, ahead s to_come)
piece_end false mark s to_come = with_front s.characters (delimited mark false (stream to_come))

-- a constant was served to an item, or is not of its kind
abbrev pub Serves : Option Condition → Read → List Cell → ℕ → List Cell → Type 0
Serves None read.Null old at new = new ≡ old
Serves None (read.Defined v) old at new = new ≡ with_value old at v
Serves None (read.Wrong condition) old at new = ⊥
Serves (Some end) read.Null old at new = ⊥
Serves (Some end) (read.Defined v) old at new = ⊥
Serves (Some end) (read.Wrong condition) old at new = (end ≡ condition) × (new ≡ old)

-- the condition, the cells and the records that were not looked at are what the outcome says
pub record IsOutcome (condition : Condition) (wanted : Outcome) (cells : List Cell) (left : List (List ℕ)) : Type 0 where
  pub condition_is : condition ≡ wanted.condition
  pub cells_are : cells ≡ wanted.cells
  pub left_are : left ≡ wanted.left

-- characters begin with a repeat count and its asterisk, of such a width
abbrev pub IsCounted : List ℕ → ℕ → ℕ → Type 0
IsCounted cs count width = (comma : Bool) (ending : Condition) (lines : List (List ℕ)) → token_at comma ending (stream (cs ∷ lines)) ≡ repeated comma ending count (stream (drop width cs ∷ lines))

abbrev pub IsNotCounted : List ℕ → Type 0
IsNotCounted cs = (comma : Bool) (ending : Condition) (lines : List (List ℕ)) → token_at comma ending (stream (cs ∷ lines)) ≡ constant_at comma ending 1 (stream (cs ∷ lines))
