-- What a call for the next record brings.
use Rattle.std.specs.Prelude.{◌≡◌, ℕ, List, [], ◌∷◌, Option, Some, None}
use Rattle.fj_value.specs.declared.condition.Condition.{Condition}
use Rattle.fj_list.specs.declared.records.More.{More}
use Rattle.fj_list.specs.declared.records.More.TheVariants.{Record, End, Refused}

-- the first of the records to come, or where there is none what stands behind them
abbrev pub Brings : More → List (List ℕ) → Option Condition → List ℕ → List (List ℕ) → Type 0
Brings Record old ending text new = old ≡ text ∷ new
Brings End old ending text new = (old ≡ []) × (ending ≡ None) × (new ≡ [])
Brings (Refused condition) old ending text new = (old ≡ []) × (ending ≡ Some condition) × (new ≡ [])

-- the next record is the first of those to come, or they have ended in this condition
abbrev pub IsNext : Option Condition → List (List ℕ) → Condition → List ℕ → List (List ℕ) → Type 0
IsNext None old ending text new = old ≡ text ∷ new
IsNext (Some condition) old ending text new = (old ≡ []) × (condition ≡ ending) × (new ≡ [])
