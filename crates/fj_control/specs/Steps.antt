-- Format control: the steps that a format gives with so many items (ISO/IEC 1539-1:2004, 10.3; with an unlimited item ISO/IEC
-- 1539-1:2010, 10.4).
use Rattle.std.specs.Prelude.{ℕ, zero, suc, ◌+◌, ◌≡◌, ◌≤◌, ◌<◌, sum, Bool, true, false, if◌then◌else◌, List, [], ◌∷◌, ◌++◌}
use Rattle.fj_format.specs.declared.item.FormatItem.{FormatItem}
use Rattle.fj_format.specs.declared.item.FormatItem.TheVariants as item
use Rattle.fj_format.specs.declared.item.FormatItem.TheOpen.{FormatItem-F}
use Rattle.fj_format.specs.declared.item.FormatItem.TheFolds.{fold-FormatItem}
use Rattle.fj_format.specs.Unfolding as step
use Rattle.fj_format.specs.Unfolding.{Elementary, Steps, repeated, pass, again, has_data, has_unlimited}

-- what control gives: an elementary step to be carried out, the end, or the end for want of a data descriptor
pub data Given : Type 0 where
  gives : Elementary → Given
  done : Given
  no_data : Given

-- Control over a list of elementary steps with n items. A data descriptor takes an item. Control ends at the first data
-- descriptor, colon (10.7.3) or end of the list that is met with no item left. A colon that is met with an item left has
-- no effect. Where the list ends with an item left, a data descriptor is wanting.
abbrev pub control : Steps → ℕ → List Given
control [] zero = done ∷ []
control [] (suc n) = no_data ∷ []
control (step.edit e ∷ rest) zero = done ∷ []
control (step.edit e ∷ rest) (suc n) = gives (step.edit e) ∷ control rest n
control (step.colon ∷ rest) zero = done ∷ []
control (step.colon ∷ rest) (suc n) = control rest (suc n)
control (x ∷ rest) n = gives x ∷ control rest n

-- What follows a pass. Without an unlimited item it is a colon, a slash and the part to be used again; for the end of such a
-- format ends control where no item is left, as a colon does, and acts as a slash where one is left. The items of an unlimited
-- item are used again as they are.
abbrev pub round_of : Bool → Steps → Steps
round_of endless more = if endless then more else step.colon ∷ step.slash ∷ more

abbrev pub round : List FormatItem → Steps
round f = round_of (has_unlimited f) (again f)

-- What follows the first pass, once more than there are items. A part without a data descriptor isn't used again; any other
-- takes an item each time, and control ends in the last.
abbrev pub rounds : ℕ → Steps → Steps
rounds n more = if has_data more then repeated (suc n) more else []

-- the steps of a format with n items
abbrev pub steps : List FormatItem → ℕ → List Given
steps f n = control (pass f ++ rounds n (round f)) n

-- A format without an unlimited item reverts, as often as there are items; more change nothing.
abbrev pub RoundsAreEnough : Type 0
RoundsAreEnough =
    (f : List FormatItem) (n k : ℕ) → has_unlimited f ≡ false → has_data (again f) ≡ true → n ≤ k →
    control (pass f ++ repeated k (step.colon ∷ step.slash ∷ again f)) n ≡ steps f n

-- Behind an unlimited item control goes on at its first item, in the same record. It is used more often than there are items,
-- so that control ends at a data descriptor or a colon with no item left; how much more often changes nothing.
abbrev pub GoesOnInTheRecord : Type 0
GoesOnInTheRecord =
    (front inner : List FormatItem) (n k : ℕ) → has_data (pass inner) ≡ true → n < k →
    steps (front ++ item.Unlimited inner ∷ []) n ≡ control (pass front ++ repeated k (pass inner)) n

-- how many right parentheses stand in items
abbrev pub parentheses_step : FormatItem-F ℕ → ℕ
parentheses_step (FormatItem-F.Group r items) = sum items + 1
parentheses_step (FormatItem-F.Unlimited items) = sum items + 1
parentheses_step _ = 0

abbrev pub right_parentheses : List FormatItem → ℕ
right_parentheses [] = 0
right_parentheses (x ∷ xs) = fold-FormatItem ℕ parentheses_step x + right_parentheses xs

-- Where no right parenthesis stands behind a group, its own is the last before that of the format. Then the format is
-- used again from that group on, with its repeat count.
abbrev pub RevertsToTheLastGroup : Type 0
RevertsToTheLastGroup =
    (front : List FormatItem) (r : ℕ) (xs tail : List FormatItem) → right_parentheses tail ≡ 0 →
    again (front ++ item.Group r xs ∷ tail) ≡ repeated r (pass xs) ++ pass tail

-- Where no right parenthesis stands before that of the format, it is used again from its start.
abbrev pub RevertsToTheStart : Type 0
RevertsToTheStart = (f : List FormatItem) → right_parentheses f ≡ 0 → again f ≡ pass f
