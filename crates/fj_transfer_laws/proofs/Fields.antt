-- A field that shows its item, read again.
use Rattle.std.proofs.Common.{◌≡◌, ◌≢◌, ℕ, zero, suc, ◌<◌, ◌≤◌, Bool, List, length, Some, None, Ok, refl, sym, ap, subst, ◌∙◌, arith}
use Rattle.std.proofs.lemmas.Grind.{common_steps}
use Rattle.fj_value.specs.Edit.{width_of}
use Rattle.fj_value.specs.Kind.{IsOfKind}
use Rattle.fj_value.specs.declared.edit.Edit.{Edit}
use Rattle.fj_value.specs.declared.edit.Edit.TheVariants as edit
use Rattle.fj_value.specs.declared.kind.Kind.{Kind}
use Rattle.fj_value.specs.declared.kind.Kind.TheVariants.{Int4, Int8, Logical, Chars}
use Rattle.fj_value.specs.declared.value.Value.{Value}
use Rattle.fj_value.specs.declared.value.Value.TheVariants as value
use Rattle.fj_edit_out.specs.OutputField.{output_field}
use Rattle.fj_edit_in.specs.InputField.{input_field}
use Rattle.fj_edit_laws.proofs.ComingBack.{numbers_back, characters_back}
use Rattle.fj_transfer.specs.Input.{width_for}
use Rattle.fj_transfer_laws.specs.RoundTrip.{IsShown}

some_width : (w : ℕ) → Some w ≢ Some 0 → 0 < w
some_width zero h = absurd (h refl)
some_width (suc w) h = omega arith

filled : (e : Edit) (v : Value) (k : Kind) (plus : Bool) (w : ℕ) (field : List ℕ) → width_of e ≡ Some w → 0 < w → output_field e v k plus ≡ Some field → length field ≡ w
filled e v k plus w field h some written = grind (arith, common_steps)

free_text : (k : Kind) (v : Value) (plus : Bool) (field : List ℕ) → IsOfKind k v → output_field (edit.Chars None) v k plus ≡ Some field → length field ≡ width_for (edit.Chars None) k
free_text (Chars n) (value.Chars text) plus field is written = let same : text ≡ field = cc in ap length (sym same) ∙ is
free_text _ _ plus field is written = cc

-- an input takes as many characters
pub width_taken : (e : Edit) (k : Kind) (v : Value) (plus : Bool) (field : List ℕ) → IsOfKind k v → width_of e ≢ Some 0 → output_field e v k plus ≡ Some field → length field ≡ width_for e k
width_taken (edit.Int w m) k v plus field is wide written = filled (edit.Int w m) v k plus w field refl (some_width w wide) written
width_taken (edit.Bits base w m) k v plus field is wide written = filled (edit.Bits base w m) v k plus w field refl (some_width w wide) written
width_taken (edit.Log w) k v plus field is wide written = filled (edit.Log w) v k plus w field refl (some_width w wide) written
width_taken (edit.Chars (Some w)) k v plus field is wide written = filled (edit.Chars (Some w)) v k plus w field refl (some_width w wide) written
width_taken (edit.Chars None) k v plus field is wide written = free_text k v plus field is written
width_taken (edit.General w d) k v plus field is wide written = filled (edit.General w d) v k plus w field refl (some_width w wide) written

text_back : (e : Edit) (n : ℕ) (v : Value) (plus blank_zero : Bool) (field : List ℕ) → IsOfKind (Chars n) v → IsShown plus e (Chars n) v → output_field e v (Chars n) plus ≡ Some field → input_field e (Chars n) blank_zero field ≡ Ok v
text_back e n (value.Chars text) plus blank_zero field is shown written =
    let P : ℕ → Type 0 = λ m. ((w : ℕ) → width_of e ≡ Some w → m ≤ w) → output_field e (value.Chars text) (Chars m) plus ≡ Some field → input_field e (Chars m) blank_zero field ≡ Ok (value.Chars text) in
    subst P is (λ wide there. characters_back e text plus blank_zero field wide there) shown written
text_back e n _ plus blank_zero field is shown written = absurd is

pub value_back : (e : Edit) (k : Kind) (v : Value) (plus blank_zero : Bool) (field : List ℕ) → IsOfKind k v → IsShown plus e k v → output_field e v k plus ≡ Some field → input_field e k blank_zero field ≡ Ok v
value_back e Int4 v plus blank_zero field is shown written = numbers_back e Int4 v plus blank_zero field is refl written (shown field written)
value_back e Int8 v plus blank_zero field is shown written = numbers_back e Int8 v plus blank_zero field is refl written (shown field written)
value_back e Logical v plus blank_zero field is shown written = numbers_back e Logical v plus blank_zero field is refl written (shown field written)
value_back e (Chars n) v plus blank_zero field is shown written = text_back e n v plus blank_zero field is shown written
