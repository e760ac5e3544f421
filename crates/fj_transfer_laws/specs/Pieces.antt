-- A record that is read in pieces by nonadvancing READs (ISO/IEC 1539-1:2004, 9.2.3.1).
use Rattle.std.specs.Prelude.{◌≡◌, ◌≢◌, ◌⊎◌, ℕ, suc, ℤ, ◌+◌, ◌≤◌, Bool, false, List, [], ◌∷◌, ◌++◌, length, Option, Some, None, IsSome}
use Rattle.fj_value.specs.declared.value.Cell.{Cell}
use Rattle.fj_value.specs.declared.condition.Condition.TheVariants.{Fine, Error}
use Rattle.fj_format.specs.declared.item.FormatItem.{FormatItem}
use Rattle.fj_format.specs.Unfolding as step
use Rattle.fj_format.specs.Unfolding.{Steps, pass, from_last_group, has_unlimited}
use Rattle.fj_connect.specs.Connection.{Connection}
use Rattle.fj_connect.specs.PositionLaws.{Stands}
use Rattle.fj_transfer.specs.declared.change.EditChange.{EditChange}
use Rattle.fj_transfer.specs.Transfer.{Done, transfer}
use Rattle.fj_transfer_laws.specs.Statements.{reading, moving}

-- how many data edit descriptors there are
abbrev pub data_count : Steps → ℕ
data_count [] = 0
data_count (step.edit e ∷ more) = suc (data_count more)
data_count (_ ∷ more) = data_count more

-- no colon, at which a format ends where no item is left, and no mode, which would hold behind these steps too
abbrev pub AreAlone : Steps → Type 0
AreAlone [] = Unit {0}
AreAlone (step.colon ∷ more) = ⊥
AreAlone (step.mode m ∷ more) = ⊥
AreAlone (_ ∷ more) = AreAlone more

-- up to the first slash neither T, which counts from the left tab limit, nor TL
abbrev pub GoAhead : Steps → Type 0
GoAhead [] = Unit {0}
GoAhead (step.tab n ∷ more) = ⊥
GoAhead (step.left n ∷ more) = ⊥
GoAhead (step.slash ∷ more) = Unit {0}
GoAhead (_ ∷ more) = GoAhead more

-- with so many items a format is not used again, or only from a group of its own on
abbrev pub IsEnough : List FormatItem → ℕ → Type 0
IsEnough g n = (n ≤ data_count (pass g)) ⊎ IsSome (from_last_group g)

-- the counts for SIZE= together; none where the last is none
abbrev pub both_counts : Option ℕ → Option ℕ → Option ℕ
both_counts (Some n) (Some m) = Some (n + m)
both_counts _ _ = None

-- What the second of two READs comes to is what one READ for both comes to. An error leaves the connection as it was before its
-- own statement.
pub record IsOneRead (first second both : Done) : Type 0 where
  pub condition : second.condition ≡ both.condition
  pub cells : second.cells ≡ both.cells
  pub count : both_counts first.count second.count ≡ both.count
  pub connection : ((n : ℕ) → both.condition ≢ Error n) → second.connection ≡ both.connection

-- A READ under a format f with ADVANCE='NO' that is fine, and one under a format g behind it, are one READ under both formats, where f
-- has one data edit descriptor for each of its items, and no unlimited item, which would go on behind them.
abbrev pub PiecesAreOneRead : Type 0
PiecesAreOneRead = (c : Connection) (f g : List FormatItem) (advance : Bool) (edit : EditChange) (place : Option ℤ) (cells : List Cell) (order more : List ℕ)
    → Stands c → has_unlimited f ≡ false → AreAlone (pass f) → data_count (pass f) ≡ length order → GoAhead (pass g) → IsEnough g (length more)
    → let first = transfer c (reading f false edit place) (moving cells order) in first.condition ≡ Fine
    → IsOneRead first (transfer first.connection (reading g advance edit None) (moving first.cells more)) (transfer c (reading (f ++ g) advance edit place) (moving cells (order ++ more)))
