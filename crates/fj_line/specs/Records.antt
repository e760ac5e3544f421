-- The records of an output, and when it meets which condition.
use Rattle.std.specs.Prelude.{ℕ, ◌+◌, ◌≡◌, ◌≤◌, ◌<◌, ◌⊎◌, List, [], ◌∷◌, ◌++◌, length, Ok, Err}
use Rattle.fj_value.specs.declared.condition.Condition.{Condition}
use Rattle.fj_value.specs.declared.condition.Condition.TheVariants.{Error}
use Rattle.fj_line.specs.Line.{Characters, no_characters, overwritten, position_behind, IsTextOf, LineState, most_bytes, empty_line, written, moved}
use Rattle.fj_line.specs.Actions.{Action, put, move, end_record, meet, first_record, without_limit, output}

-- ---- texts

-- the texts of the lines between the ends of records; the last one is open
abbrev pub texts_from : LineState → List Action → List (List ℕ)
texts_from line [] = line.text ∷ []
texts_from line (put chars ∷ more) = texts_from (written chars line) more
texts_from line (move how ∷ more) = texts_from (moved how line) more
texts_from line (end_record ∷ more) = line.text ∷ texts_from empty_line more
texts_from line (meet condition ∷ more) = texts_from line more

abbrev pub texts_of : List Action → List (List ℕ)
texts_of actions = texts_from empty_line actions

-- the same lines, each a map from positions to characters
abbrev pub lines_from : ℕ → Characters → List Action → List Characters
lines_from at line [] = line ∷ []
lines_from at line (put chars ∷ more) = lines_from (at + length chars) (overwritten line at chars) more
lines_from at line (move how ∷ more) = lines_from (position_behind how at) line more
lines_from at line (end_record ∷ more) = line ∷ lines_from 0 no_characters more
lines_from at line (meet condition ∷ more) = lines_from at line more

abbrev pub lines_of : List Action → List Characters
lines_of actions = lines_from 0 no_characters actions

abbrev pub AreTextsOf : List Characters → List (List ℕ) → Type 0
AreTextsOf [] [] = Unit {0}
AreTextsOf (line ∷ lines) (text ∷ texts) = IsTextOf line text × AreTextsOf lines texts
AreTextsOf _ _ = ⊥

-- the texts of actions are those of the maps
abbrev pub RecordsAreTexts : Type 0
RecordsAreTexts = (actions : List Action) → AreTextsOf (lines_of actions) (texts_of actions)

-- ---- limits

-- records as bytes: each but the last, which is open, with a line feed
abbrev pub joined : List (List ℕ) → List ℕ
joined [] = []
joined (text ∷ []) = text
joined (text ∷ next ∷ texts) = text ++ (10 ∷ joined (next ∷ texts))

-- no record has more characters than the limit, those before the statement in the first one among them
abbrev pub Fit : ℕ → ℕ → List (List ℕ) → Type 0
Fit limit start [] = Unit {0}
Fit limit start (text ∷ texts) = (start + length text ≤ limit) × Fit limit 0 texts

abbrev pub MeetNone : List Action → Type 0
MeetNone [] = Unit {0}
MeetNone (meet condition ∷ more) = ⊥
MeetNone (_ ∷ more) = MeetNone more

-- no action is a condition, the records fit, and the bytes do not pass their limit
pub record AreFine (limit start : ℕ) (actions : List Action) : Type 0 where
  pub none : MeetNone actions
  pub fit : Fit limit start (texts_of actions)
  pub few : length (joined (texts_of actions)) ≤ most_bytes

-- with one action more a record does not fit
abbrev pub IsTooLong : ℕ → ℕ → List Action → Action → Type 0
IsTooLong limit start front action = Fit limit start (texts_of (front ++ action ∷ [])) → ⊥

-- with one action more the records fit, and the bytes pass their limit
abbrev pub IsTooMuch : ℕ → ℕ → List Action → Action → Type 0
IsTooMuch limit start front action = Fit limit start (texts_of (front ++ action ∷ [])) × (most_bytes < length (joined (texts_of (front ++ action ∷ []))))

-- what the action meets behind others that are fine
abbrev pub Meets : ℕ → ℕ → List Action → Action → Condition → Type 0
Meets limit start front action condition =
    (action ≡ meet condition)
    ⊎ ((IsTooLong limit start front action × (condition ≡ Error 15)) ⊎ (IsTooMuch limit start front action × (condition ≡ Error 26)))

-- the first action that meets a condition: those before it are fine
pub record IsFirst (limit start : ℕ) (actions : List Action) (condition : Condition) : Type 0 where
  pub front : List Action
  pub action : Action
  pub back : List Action
  pub parts : actions ≡ front ++ action ∷ back
  pub fine : AreFine limit start front
  pub meets : Meets limit start front action condition

-- An output is the texts exactly where its actions are fine, and a condition exactly where one of them is the first to
-- meet it, whatever follows.
pub record OutputIsExact : Type 0 where
  pub writes : (limit start : ℕ) (actions : List Action) → start ≤ limit → AreFine limit start actions → output (first_record limit start) actions ≡ Ok (joined (texts_of actions))
  pub fails : (limit start : ℕ) (actions : List Action) (condition : Condition) → start ≤ limit → IsFirst limit start actions condition → output (first_record limit start) actions ≡ Err condition
  pub one : (limit start : ℕ) (actions : List Action) → start ≤ limit → AreFine limit start actions ⊎ ((condition : Condition) × IsFirst limit start actions condition)

-- Without a limit the output is the texts.
abbrev pub NothingIsTooLong : Type 0
NothingIsTooLong = (actions : List Action) → MeetNone actions → output without_limit actions ≡ Ok (joined (texts_of actions))
