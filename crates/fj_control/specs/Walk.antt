-- A walk of a format, step by step, which is what contracts see of a cursor.
use Rattle.std.specs.Prelude.{ℕ, zero, suc, ◌≡◌, ◌↔◌, Bool, true, false, if◌then◌else◌, List, [], ◌∷◌, ◌++◌, Option, Some, None, unwrap_or}
use Rattle.fj_format.specs.declared.item.FormatItem.{FormatItem}
use Rattle.fj_format.specs.Unfolding as step
use Rattle.fj_format.specs.Unfolding.{Steps, pass, has_data}
use Rattle.fj_control.specs.declared.step.Step.{Step}
use Rattle.fj_control.specs.declared.step.Step.TheVariants as told
use Rattle.fj_control.specs.Steps.{Given, gives, done, no_data, control, round, rounds, steps}

-- what the pass at hand has still to give, or how control ended
pub data Position : Type 0 where
  walking : Steps → Position
  ended : Position
  lacking : Position

-- a walk, with what follows the end of a pass
pub record Walk : Type 0 where
  pub at : Position
  pub again : Steps

-- the walk of a format that begins
abbrev pub begun : List FormatItem → Walk
begun f = record { at = walking (pass f); again = round f }

-- a step as a value
abbrev pub given : Step → Given
given (told.Edit e) = gives (step.edit e)
given told.Slash = gives step.slash
given (told.Str s) = gives (step.string s.now)
given (told.Tab n) = gives (step.tab n)
given (told.Left n) = gives (step.left n)
given (told.Right n) = gives (step.right n)
given (told.Mode m) = gives (step.mode m)
given told.Done = done
given told.NoData = no_data

-- ---- one step

-- what comes next where this is still to be given, and how the walk goes on; none at its end
abbrev pub next_from : Bool → Steps → Option (Given × Position)
next_from left [] = None
next_from left (step.edit e ∷ rest) = Some (if left then (gives (step.edit e), walking rest) else (done, ended))
next_from left (step.colon ∷ rest) = if left then next_from left rest else Some (done, ended)
next_from left (x ∷ rest) = Some (gives x, walking rest)

-- where there is nothing to go on with
abbrev pub next_none : Bool → Given × Position
next_none left = if left then (no_data, lacking) else (done, ended)

-- behind the end of a pass
abbrev pub next_again : Steps → Bool → Given × Position
next_again more left = if has_data more then unwrap_or (next_from left more) (done, ended) else next_none left

abbrev pub next_at : Steps → Bool → Position → Given × Position
next_at more left (walking rest) = unwrap_or (next_from left rest) (next_again more left)
next_at more left ended = (done, ended)
next_at more left lacking = (no_data, lacking)

-- what a call gives, where an item is left or not, and how the walk goes on
abbrev pub next_of : Walk → Bool → Given × Walk
next_of walk left =
    let next = next_at walk.again left walk.at in
    (next.0, record { at = next.1; again = walk.again })

-- ---- whole runs

-- the steps that are still due with n items
abbrev pub due_at : Steps → Position → ℕ → List Given
due_at more (walking rest) n = control (rest ++ rounds n more) n
due_at more ended n = done ∷ []
due_at more lacking n = no_data ∷ []

abbrev pub due : Walk → ℕ → List Given
due walk n = due_at walk.again walk.at n

abbrev pub is_left : ℕ → Bool
is_left zero = false
is_left (suc n) = true

abbrev pub is_end : Given → Bool
is_end (gives x) = false
is_end done = true
is_end no_data = true

-- the items that are left behind a step
abbrev pub items_behind : Given → ℕ → ℕ
items_behind (gives (step.edit e)) (suc n) = n
items_behind _ n = n

-- What a call gives is the first of the steps that are due, and what is due behind it is the rest of them, for each
-- number of items that is told of.
abbrev pub GivesWhatIsDue : Walk → Bool → Given → Walk → Type 0
GivesWhatIsDue old left g new =
    (n : ℕ) → left ≡ is_left n → due old n ≡ g ∷ (if is_end g then [] else due new (items_behind g n))

-- Calls with n items in all, each told whether an item is left, give this list and end with it.
abbrev pub IsRun : Walk → ℕ → List Given → Type 0
IsRun walk n [] = ⊥
IsRun walk n (g ∷ []) = (g ≡ (next_of walk (is_left n)).0) × (is_end g ≡ true)
IsRun walk n (g ∷ rest) = (g ≡ (next_of walk (is_left n)).0) × (is_end g ≡ false) × IsRun (next_of walk (is_left n)).1 (items_behind g n) rest

-- Over a format calls with n items give its steps, and nothing but them.
abbrev pub GivesTheSteps : Type 0
GivesTheSteps = (f : List FormatItem) (n : ℕ) (out : List Given) → IsRun (begun f) n out ↔ (out ≡ steps f n)
