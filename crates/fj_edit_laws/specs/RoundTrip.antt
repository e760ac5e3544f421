-- What output fields show is what input fields read.
use Rattle.std.specs.Prelude.{◌≡◌, ℕ, ◌≤◌, Bool, List, length, Contains, Some, None, Ok}
use Rattle.fj_value.specs.Edit.{width_of}
use Rattle.fj_value.specs.Kind.{IsOfKind, text_length}
use Rattle.fj_value.specs.declared.edit.Edit.{Edit}
use Rattle.fj_value.specs.declared.kind.Kind.{Kind}
use Rattle.fj_value.specs.declared.kind.Kind.TheVariants.{Chars}
use Rattle.fj_value.specs.declared.value.Value.{Value}
use Rattle.fj_value.specs.declared.value.Value.TheVariants as value
use Rattle.fj_edit_out.specs.OutputField.{output_field}
use Rattle.fj_edit_in.specs.InputField.{input_field}

-- a field with no asterisk is read as the integer or the logical that was written
abbrev pub NumbersComeBack : Type 0
NumbersComeBack = (e : Edit) (k : Kind) (v : Value) (plus blank_zero : Bool) (field : List ℕ) → IsOfKind k v → text_length k ≡ None → output_field e v k plus ≡ Some field → ¬ Contains field 42 → input_field e k blank_zero field ≡ Ok v

-- a field that is wide enough is read as the characters that were written
abbrev pub CharactersComeBack : Type 0
CharactersComeBack = (e : Edit) (text : List ℕ) (plus blank_zero : Bool) (field : List ℕ) → ((w : ℕ) → width_of e ≡ Some w → length text ≤ w) → output_field e (value.Chars text) (Chars (length text)) plus ≡ Some field → input_field e (Chars (length text)) blank_zero field ≡ Ok (value.Chars text)
