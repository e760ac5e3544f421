-- How many records a statement looks at.
use Rattle.std.specs.Prelude.{◌≡◌, ℕ, ◌<◌, Bool, List, [], ◌++◌, length}
use Rattle.fj_value.specs.declared.value.Cell.{Cell}
use Rattle.fj_value.specs.declared.condition.Condition.{Condition}
use Rattle.fj_list.specs.ListInput.{list_input}

-- the end of the records is met: the statement has the condition that stands behind them, whichever it is
pub record MeetsEnd (comma : Bool) (lines : List (List ℕ)) (cells : List Cell) (order : List ℕ) : Type 0 where
  pub result : List Cell
  pub ends : (ending : Condition) → list_input comma lines ending cells order ≡ record { cells = result; condition = ending; left = [] }

-- These records are looked at, and no others: with other records behind them and another ending the statement leaves
-- the same cells in the same condition, and the other records; with fewer it meets the end.
pub record LooksAt (comma : Bool) (looked_at : List (List ℕ)) (cells : List Cell) (order : List ℕ) : Type 0 where
  pub result : List Cell
  pub condition : Condition
  pub same : (more : List (List ℕ)) (ending : Condition) → list_input comma (looked_at ++ more) ending cells order ≡ record { cells = result; condition = condition; left = more }
  pub fewer : (some others : List (List ℕ)) → looked_at ≡ some ++ others → 0 < length others → MeetsEnd comma some cells order

-- a statement looks at the first ones of the records, or meets their end
pub data Looks (comma : Bool) (lines : List (List ℕ)) (cells : List Cell) (order : List ℕ) : Type 0 where
  at_the_first : (looked_at left : List (List ℕ)) → lines ≡ looked_at ++ left → LooksAt comma looked_at cells order → Looks comma lines cells order
  to_the_end : MeetsEnd comma lines cells order → Looks comma lines cells order

abbrev pub RecordsAreLookedAtAsNeeded : Type 0
RecordsAreLookedAtAsNeeded = (comma : Bool) (lines : List (List ℕ)) (cells : List Cell) (order : List ℕ) → Looks comma lines cells order
