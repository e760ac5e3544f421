-- Input of direct access, answer by answer.
use Rattle.std.proofs.Common.{◌≡◌, ℕ, true, false, List, [], ◌∷◌, refl, ap}
use Rattle.std.specs.Prelude.{if◌then◌else◌}
use Rattle.fj_modes.specs.declared.specifiers.Access.{Access}
use Rattle.fj_modes.specs.declared.specifiers.Access.TheVariants.{Direct}
use Rattle.fj_modes.specs.Words.{same_access}
use Rattle.fj_connect.specs.Connection.{Connection, at_number, with_records}
use Rattle.fj_connect.specs.Positions.{ended}
use Rattle.fj_connect.specs.Spot.{is_writing}
use Rattle.fj_transfer.specs.AtHand.{behind}
use Rattle.fj_transfer.specs.Places.{before_number}
use Rattle.fj_transfer.specs.Reader.{hand_of, IsIn}
use Rattle.fj_transfer.specs.declared.hand.Hand.{Hand}
use Rattle.fj_transfer.specs.declared.hand.Hand.TheVariants.{Line, Numbered}

-- no record is open
pub not_open : (c : Connection) → is_writing c.spot.within ≡ false → ended c ≡ c
not_open c e = ap (λ b. if b then with_records c (10 ∷ []) else c) e

-- the record at hand of direct access is told by its number alone
pub numbered_hand : (access : Access) (size number : ℕ) (c : Connection) (hand : Hand) (text : List ℕ) → same_access access Direct ≡ true → IsIn access size hand text → hand_of c hand text ≡ hand_of (before_number c number) hand text
numbered_hand access size number c (Line start skip next) text direct there = cc (there.0, direct)
numbered_hand access size number c (Numbered n) text direct there = refl

-- it stands behind it already
pub behind_numbered : (c : Connection) (number : ℕ) (text : List ℕ) → same_access c.modes.access Direct ≡ true → behind (record { connection = at_number c number; text = text }) ≡ at_number c number
behind_numbered c number text direct = rw direct refl
