-- Values in list-directed and namelist output are shown as output fields are (ISO/IEC 1539-1:2004, 10.9.2, 10.10.2).
use Rattle.std.specs.Prelude.{◌≡◌, ℕ, ℤ, Bool, List, Some, None}
use Rattle.fj_value.specs.Kind.{IsOfKind}
use Rattle.fj_value.specs.declared.kind.Kind.{Kind}
use Rattle.fj_value.specs.declared.kind.Kind.TheVariants.{Logical, Chars}
use Rattle.fj_value.specs.declared.edit.Edit.TheVariants as edit
use Rattle.fj_value.specs.declared.edit.Delim.TheVariants.{Plain}
use Rattle.fj_value.specs.declared.edit.EditModes.{EditModes}
use Rattle.fj_value.specs.declared.value.Value.TheVariants as value
use Rattle.fj_edit_out.specs.OutputField.{output_field}
use Rattle.fj_list.specs.ListText.{shown}

-- An integer is shown as under I0, a logical as under L1, and characters without delimiters as under A.
pub record AreShownAsFields (modes : EditModes) : Type 0 where
  pub integers : (kind : Kind) (n : ℤ) → IsOfKind kind (value.Int n) → output_field (edit.Int 0 None) (value.Int n) kind modes.plus ≡ Some (shown modes (value.Int n))
  pub logicals : (truth : Bool) → output_field (edit.Log 1) (value.Log truth) Logical modes.plus ≡ Some (shown modes (value.Log truth))
  pub characters : (length : ℕ) (text : List ℕ) → modes.delim ≡ Plain → output_field (edit.Chars None) (value.Chars text) (Chars length) modes.plus ≡ Some (shown modes (value.Chars text))

abbrev pub ValuesAreShownAsFields : Type 0
ValuesAreShownAsFields = (modes : EditModes) → AreShownAsFields modes
