-- What the constants of list-directed input are, clause by clause, and what items have of them.
use Rattle.std.specs.Prelude.{◌≡◌, ℕ, ◌⊎◌, Bool, List, [], ◌∷◌, Some, ℤ, pos, neg_ℤ}
use Rattle.fj_value.specs.Digits.{number_in}
use Rattle.fj_value.specs.Kind.{FitsBits, IsOfKind, integer_bits}
use Rattle.fj_value.specs.declared.kind.Kind.{Kind}
use Rattle.fj_value.specs.declared.value.Value.{Value}
use Rattle.fj_value.specs.declared.value.Value.TheVariants as value
use Rattle.fj_value.specs.declared.value.Cell.{Cell}
use Rattle.fj_value.specs.declared.condition.Condition.{Condition}
use Rattle.fj_value.specs.declared.condition.Condition.TheVariants.{Error}
use Rattle.fj_list.specs.declared.constant.Form.{Form}
use Rattle.fj_list.specs.declared.constant.Form.TheVariants.{Undelimited}
use Rattle.fj_list.specs.declared.constant.Read.{Read}
use Rattle.fj_list.specs.declared.constant.Read.TheVariants as read
use Rattle.fj_list.specs.Constant.{read_as}
use Rattle.fj_list.specs.ListInput.{list_input}

-- digits behind an optional sign
pub data IsInteger : List ℕ → ℤ → Type 0 where
  unsigned : {ds : List ℕ} {n : ℕ} → number_in 10 ds ≡ Some n → IsInteger ds (pos n)
  plus : {ds : List ℕ} {n : ℕ} → number_in 10 ds ≡ Some n → IsInteger (43 ∷ ds) (pos n)
  minus : {ds : List ℕ} {n : ℕ} → number_in 10 ds ≡ Some n → IsInteger (45 ∷ ds) (neg_ℤ (pos n))

-- the number where it has so many bits, else condition 14; 13 where the characters are no number
pub record IsIntegerRead (bits : ℕ) (cs : List ℕ) (got : Read) : Type 0 where
  pub fits : (z : ℤ) → IsInteger cs z → FitsBits bits z → got ≡ read.Defined (value.Int z)
  pub too_great : (z : ℤ) → IsInteger cs z → (FitsBits bits z → ⊥) → got ≡ read.Wrong (Error 14)
  pub no_number : ((z : ℤ) → IsInteger cs z → ⊥) → got ≡ read.Wrong (Error 13)

abbrev pub IntegersAreRead : Type 0
IntegersAreRead = (kind : Kind) (bits : ℕ) (cs : List ℕ) → integer_bits kind ≡ Some bits → IsIntegerRead bits cs (read_as kind Undelimited cs)

-- what an item gets is of its kind
abbrev pub ConstantsAreOfKind : Type 0
ConstantsAreOfKind = (kind : Kind) (form : Form) (cs : List ℕ) (v : Value) → read_as kind form cs ≡ read.Defined v → IsOfKind kind v

-- each cell is undefined or has a value of its kind
abbrev pub HaveKinds : List Cell → Type 0
HaveKinds [] = Unit {0}
HaveKinds (cell ∷ cells) = ((cell.value ≡ value.Undefined) ⊎ IsOfKind cell.kind cell.value) × HaveKinds cells

-- and so they are when a statement ends
abbrev pub CellsKeepKinds : Type 0
CellsKeepKinds = (comma : Bool) (lines : List (List ℕ)) (ending : Condition) (cells : List Cell) (order : List ℕ) → HaveKinds cells → HaveKinds (list_input comma lines ending cells order).cells
