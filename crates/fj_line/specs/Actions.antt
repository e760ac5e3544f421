-- What an output does to its records from the left to the right, and what comes of it.
use Rattle.std.specs.Prelude.{ℕ, ◌+◌, ◌≡◌, nat_lt, if◌then◌else◌, List, [], ◌∷◌, ◌++◌, length, Option, Some, None, Result, Ok, Err}
use Rattle.fj_value.specs.declared.condition.Condition.{Condition}
use Rattle.fj_value.specs.declared.condition.Condition.TheVariants.{Fine, Error}
use Rattle.fj_line.specs.declared.moves.Move.{Move}
use Rattle.fj_line.specs.Line.{LineState, most_bytes, empty_line, written, moved}

pub data Action : Type 0 where
  put : List ℕ → Action  -- characters are written at the position
  move : Move → Action
  end_record : Action
  meet : Condition → Action  -- a condition

-- the record at hand
pub record AtHand : Type 0 where
  pub limit : Option ℕ  -- the most characters of a record; without it there is no limit of bytes either
  pub start : ℕ  -- how many characters the record had before the statement
  pub ended : List ℕ  -- the records that the statement has ended, each with a line feed
  pub line : LineState  -- what the statement has written of the record

abbrev pub first_record : ℕ → ℕ → AtHand
first_record limit start = record { limit = Some limit; start = start; ended = []; line = empty_line }

abbrev pub without_limit : AtHand
without_limit = record { limit = None; start = 0; ended = []; line = empty_line }

abbrev pub behind : Action → AtHand → AtHand
behind (put chars) hand = record hand { line = written chars hand.line }
behind (move how) hand = record hand { line = moved how hand.line }
behind end_record hand = record hand { start = 0; ended = hand.ended ++ (hand.line.text ++ 10 ∷ []); line = empty_line }
behind (meet condition) hand = hand

-- ---- conditions

-- 15: the record has more characters than it may; 26: the statement has more bytes
abbrev pub excess_of : Option ℕ → ℕ → ℕ → Option Condition
excess_of None characters bytes = None
excess_of (Some limit) characters bytes = if nat_lt limit characters then Some (Error 15) else (if nat_lt most_bytes bytes then Some (Error 26) else None)

-- where the statement has written so much of the record
abbrev pub excess_at : AtHand → ℕ → Option Condition
excess_at hand width = excess_of hand.limit (hand.start + width) (length hand.ended + width)

abbrev pub excess : AtHand → Option Condition
excess hand = excess_at hand (length hand.line.text)

-- the condition that an action meets
abbrev pub condition_in : Action → AtHand → Option Condition
condition_in (meet condition) hand = Some condition
condition_in (move how) hand = None
condition_in (put chars) hand = excess (behind (put chars) hand)
condition_in end_record hand = excess (behind end_record hand)

-- ---- all actions

abbrev pub unless : Option Condition → Result AtHand Condition → Result AtHand Condition
unless (Some condition) more = Err condition
unless None more = more

-- the record at hand behind all of them, or the first condition
abbrev pub carried_out : AtHand → List Action → Result AtHand Condition
carried_out hand [] = Ok hand
carried_out hand (action ∷ more) = unless (condition_in action hand) (carried_out (behind action hand) more)

-- what the statement has written
abbrev pub text_at : AtHand → List ℕ
text_at hand = hand.ended ++ hand.line.text

abbrev pub text_in : Result AtHand Condition → Result (List ℕ) Condition
text_in (Ok hand) = Ok (text_at hand)
text_in (Err condition) = Err condition

-- what the actions write, or the first condition
abbrev pub output : AtHand → List Action → Result (List ℕ) Condition
output hand actions = text_in (carried_out hand actions)

-- an output is appended, or a condition told and nothing is
abbrev pub Appends : Result (List ℕ) Condition → List ℕ → Condition → List ℕ → Type 0
Appends (Ok text) old condition new = (condition ≡ Fine) × (new ≡ old ++ text)
Appends (Err met) old condition new = (condition ≡ met) × (new ≡ old)
