-- What the steps from a written transfer to its statement answer.
use Rattle.std.specs.Prelude.{◌≡◌, ℕ, true, false, List, Result, Ok, Err, Option, Some, None}
use Rattle.fj_format.specs.declared.item.FormatItem.{FormatItem}
use Rattle.fj_format.specs.Parsing.{IsNoFormat}
use Rattle.fj_format.specs.Sound.{IsWritten}
use Rattle.fj_statement.specs.declared.statement.Statement.{Statement}
use Rattle.fj_statement.specs.declared.statement.Statement.TheVariants as statement
use Rattle.fj_syntax.specs.declared.written.Transfer as written
use Rattle.fj_names.specs.declared.fault.Fault.{Fault}
use Rattle.fj_names.specs.declared.fault.Fault.TheVariants as fault
use Rattle.fj_names.specs.declared.transfer.Parts.{Parts}
use Rattle.fj_names.specs.Meaning.{IsFormatOf}
use Rattle.fj_names.specs.Transfer.{is_short, assembled}

-- a format can be made of the items, if there are any
abbrev pub AreWritten : Option (List FormatItem) → Type 0
AreWritten None = Unit {0}
AreWritten (Some items) = IsWritten items

-- this text is no format
abbrev pub HasNone : Option (List ℕ) → ℕ → Type 0
HasNone None at = ⊥
HasNone (Some text) at = IsNoFormat text at

abbrev pub ReadsFormat : Option (List ℕ) → Result (Option (List FormatItem)) Fault → Type 0
ReadsFormat text (Ok items) = IsFormatOf text items × AreWritten items
ReadsFormat text (Err (fault.Memory error)) = Unit {0}
ReadsFormat text (Err (fault.Format at)) = HasNone text at
ReadsFormat text (Err fault.NoMeaning) = ⊥
ReadsFormat text (Err fault.TooMany) = ⊥

-- what is made of a transfer whose format has these items, unless that is too long
abbrev pub Makes : {T : Type 0} → Option (List FormatItem) → T → Result T Fault → Type 0
Makes items x (Ok made) = (made ≡ x) × (is_short items ≡ true)
Makes items x (Err (fault.Memory error)) = Unit {0}
Makes items x (Err (fault.Format at)) = ⊥
Makes items x (Err fault.NoMeaning) = ⊥
Makes items x (Err fault.TooMany) = is_short items ≡ false

abbrev pub Assembles : Option (List FormatItem) → written.Transfer → Parts → Result Statement Fault → Type 0
Assembles items t p result = Makes items (statement.Transfer (assembled items t p)) result
