-- A reader of input under an explicit format, as the definition has it.
use Rattle.std.specs.Prelude.{◌≡◌, ◌↔◌, ℕ, ◌+◌, ◌-◌, ◌*◌, ◌<◌, ◌≤◌, ◌^◌, Bool, true, false, List, length, drop, All, Option, Some, None, Result, Ok, Err, if◌then◌else◌, nat_lt}
use Rattle.fj_value.specs.declared.value.Cell.{Cell}
use Rattle.fj_value.specs.declared.condition.Condition.{Condition}
use Rattle.fj_value.specs.declared.condition.Condition.TheVariants.{Fine, Error}
use Rattle.fj_modes.specs.declared.specifiers.Access.{Access}
use Rattle.fj_modes.specs.declared.specifiers.Access.TheVariants.{Direct}
use Rattle.fj_modes.specs.Words.{same_access}
use Rattle.fj_seqrec.specs.Lines.{behind_line}
use Rattle.fj_control.specs.Steps.{Given}
use Rattle.fj_control.specs.Paired.{Part, paired}
use Rattle.fj_connect.specs.Connection.{Connection, in_record, at_number}
use Rattle.fj_connect.specs.Linked.{Linked}
use Rattle.fj_transfer.specs.AtHand.{AtHand}
use Rattle.fj_transfer.specs.Input.{Progress, Ended, stopped}
use Rattle.fj_transfer.specs.declared.hand.Hand.{Hand}
use Rattle.fj_transfer.specs.declared.hand.Hand.TheVariants.{Line, Numbered}
use Rattle.fj_transfer.specs.declared.hand.Found.{Found}
use Rattle.fj_transfer.specs.declared.hand.Found.TheVariants.{Here, Met}
use Rattle.fj_transfer.specs.declared.reader.Reader.{Reader}
use Rattle.fj_transfer.specs.declared.explicit.Performed.{Performed}
use Rattle.fj_connect.specs.declared.spot.Spot.{Spot}
use Rattle.fj_transfer.specs.Transfer.{Done}

abbrev pub is_fine : Condition → Bool
is_fine Fine = true
is_fine _ = false

-- the record at hand
abbrev pub hand_of : Connection → Hand → List ℕ → AtHand
hand_of c (Line start skip next) text = record { connection = in_record c start skip; text = text }
hand_of c (Numbered number) text = record { connection = at_number c number; text = text }

-- the place behind it is the one that the bytes say
abbrev pub IsHand : Connection → Hand → Type 0
IsHand c (Line start skip next) = length c.bytes - length (behind_line (drop (start + skip) c.bytes)) ≡ next
IsHand c (Numbered number) = Unit {0}

abbrev pub IsFound : Connection → Found → Type 0
IsFound c (Here hand text) = IsHand c hand
IsFound c (Met condition) = Unit {0}

-- it is one of a file of this size, by the access
abbrev pub IsIn : Access → ℕ → Hand → List ℕ → Type 0
IsIn access size (Line start skip next) text = (same_access access Direct ≡ false) × (start + skip + length text ≤ next) × (next ≤ size)
IsIn access size (Numbered number) text = (same_access access Direct ≡ true) × (0 < number) × (number ≤ 268435456)

abbrev pub FitsIn : Access → ℕ → Found → Type 0
FitsIn access size (Here hand text) = IsIn access size hand text
FitsIn access size (Met condition) = Unit {0}

abbrev pub found_of : Connection → Found → Result AtHand Condition
found_of c (Here hand text) = Ok (hand_of c hand text)
found_of c (Met condition) = Err condition

abbrev pub progress_of : Connection → Reader → List Cell → Progress
progress_of c r cells = record { hand = hand_of c r.hand r.text; at = r.at; cells = cells; count = r.count }

-- an input that begins at a record
abbrev pub begins : Connection → Hand → List ℕ → List Cell → Progress
begins c hand text cells = record { hand = hand_of c hand text; at = 0; cells = cells; count = 0 }

-- the items that are left, with what is due of the format
abbrev pub items_left : Reader → List ℕ
items_left r = drop r.next r.order.now

abbrev pub parts_left : Reader → List Given → List (Part ℕ)
parts_left r due = paired r.modes due (items_left r)

-- the input goes on, or ends with a condition
abbrev pub comes : Option Condition → (Progress → Ended) → Progress → Ended
comes None next p = next p
comes (Some condition) next p = stopped condition p

-- what holds of each reader of items with so many cells
pub record IsReady (r : Reader) (cells : ℕ) : Type 0 where
  pub near : r.at ≤ 2 ^ 63
  pub few : length r.order.now < 2 ^ 32
  pub taken : r.next ≤ length r.order.now
  pub count : r.count ≤ r.next * 4294967295
  pub ordered : All (λ at. at < cells) r.order.now

-- a file that was read, and the rest of its connection but the record that was looked at last
pub record StaysTheSame {F : Type 0} (tells : F → Type 0) (bytes : F → List ℕ) (size count : F → ℕ) (old new : Linked F) : Type 0 where
  pub telling : tells old.file ↔ tells new.file
  pub same : tells old.file → bytes new.file ≡ bytes old.file
  pub rest : new ≡ record old { file = new.file; hand = new.hand }
  pub extent : size new.file ≡ size old.file
  pub later : count old.file ≤ count new.file

-- the rest of a record behind a position in it, where it is not too long
abbrev pub rest_found : ℕ → Spot → ℕ → List ℕ → Found
rest_found recl spot next text = if nat_lt recl ((spot.at - spot.start) + length text) then Met (Error 15) else Here (Line spot.start (spot.at - spot.start) next) text

abbrev pub done_with : Connection → List Cell → Performed → Done
done_with c cells performed = record { connection = c; cells = cells; count = performed.count; condition = performed.condition }
