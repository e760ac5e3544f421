-- What reading a format answers.
use Rattle.std.specs.Prelude.{ℕ, ◌≡◌, ◌<◌, ◌≤◌, List, length, take, Result, Ok, Err}
use Rattle.fj_format.specs.declared.item.FormatItem.{FormatItem}
use Rattle.fj_format.specs.declared.format.Format.{Format}
use Rattle.fj_format.specs.declared.fault.FormatFault.{FormatFault}
use Rattle.fj_format.specs.declared.fault.FormatFault.TheVariants.{Memory, NotAFormat, TooMany}
use Rattle.fj_format.specs.Grammar.{IsFormat, BeginsFormat}
use Rattle.fj_format.specs.Sound.{IsWritten}
use Rattle.fj_format.specs.Unfolding.{pass}

-- The text is the format that these items are, and no other. One pass of it has no more elementary steps than a
-- format may have.
pub record IsOnlyFormat (text : List ℕ) (items : List FormatItem) : Type 0 where
  pub is : IsFormat text items
  pub only : (other : List FormatItem) → IsFormat text other → other ≡ items
  pub short : length (pass items) ≤ 1000000

-- The text is no format, and this is the length of its longest prefix that begins one.
pub record IsNoFormat (text : List ℕ) (at : ℕ) : Type 0 where
  pub none : (items : List FormatItem) → ¬ IsFormat text items
  pub within : at ≤ length text
  pub begins : BeginsFormat (take at text)
  pub longest : (n : ℕ) → at < n → n ≤ length text → ¬ BeginsFormat (take n text)

-- The text is a format of which one pass has more elementary steps than a format may have.
pub record IsTooLong (text : List ℕ) : Type 0 where
  pub items : List FormatItem
  pub is : IsFormat text items
  pub long : 1000000 < length (pass items)

-- The text is the format that these items are, and no other.
pub record AreOnlyItems (text : List ℕ) (items : List FormatItem) : Type 0 where
  pub is : IsFormat text items
  pub only : (other : List FormatItem) → IsFormat text other → other ≡ items
  pub sound : IsWritten items

abbrev pub FaultIs : List ℕ → FormatFault → Type 0
FaultIs text (Memory e) = Unit {0}
FaultIs text (NotAFormat at) = IsNoFormat text at
FaultIs text TooMany = IsTooLong text

abbrev pub Parses : List ℕ → Result Format FormatFault → Type 0
Parses text (Ok format) = IsOnlyFormat text format
Parses text (Err fault) = FaultIs text fault

-- the same, where a format may be of any length
abbrev pub ItemsFaultIs : List ℕ → FormatFault → Type 0
ItemsFaultIs text (Memory e) = Unit {0}
ItemsFaultIs text (NotAFormat at) = IsNoFormat text at
ItemsFaultIs text TooMany = ⊥

abbrev pub ParsesItems : List ℕ → Result (List FormatItem) FormatFault → Type 0
ParsesItems text (Ok items) = AreOnlyItems text items
ParsesItems text (Err fault) = ItemsFaultIs text fault
