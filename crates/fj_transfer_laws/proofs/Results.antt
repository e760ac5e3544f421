-- Conditions that an input meets are not the fine one, and the ways in which a field goes on.
use Rattle.std.proofs.Common.{◌≡◌, ◌≢◌, ℕ, ◌+◌, ◌-◌, ◌==◌, Bool, true, false, cond, ltb, List, ◌++◌, length, replicate, Option, Some, None, Result, Ok, Err, refl, sym, subst, ◌∙◌}
use Rattle.fj_value.specs.declared.edit.Edit.{Edit}
use Rattle.fj_value.specs.declared.edit.EditModes.{EditModes}
use Rattle.fj_value.specs.declared.kind.Kind.{Kind}
use Rattle.fj_value.specs.declared.value.Value.{Value}
use Rattle.fj_value.specs.declared.value.Value.TheVariants.{Undefined}
use Rattle.fj_value.specs.declared.condition.Condition.{Condition}
use Rattle.fj_value.specs.declared.condition.Condition.TheVariants.{Fine, EndOfFile, EndOfRecord, Error}
use Rattle.fj_modes.specs.declared.specifiers.Access.TheVariants.{Direct}
use Rattle.fj_modes.specs.Words.{same_access}
use Rattle.fj_edit_in.specs.InputField.{input_field, Reads}
use Rattle.fj_byterec.specs.Pieces.{piece}
use Rattle.fj_connect.specs.Connection.{Connection, bytes_behind, rest_of_record, begun}
use Rattle.fj_connect.specs.Spot.{is_reading}
use Rattle.fj_transfer.specs.AtHand.{AtHand, numbered, record_numbered, line_at, next_record, first_record}
use Rattle.fj_transfer.specs.Input.{Progress, Ended, stopped, is_mismatch, without_padding}
use Rattle.fj_transfer.proofs.FieldLemmas.{value_read}

pub field_never : (e : Edit) (k : Kind) (zero : Bool) (chars : List ℕ) → input_field e k zero chars ≢ Err Fine
field_never e k zero chars is =
    let P : Result Value Condition → Type 0 = λ r. Reads r Undefined Undefined Fine in
    let no : Ok Undefined ≡ Err Fine = value_read e k zero chars Undefined Undefined Fine (subst P (sym is) (refl, refl)) ∙ is in
    cc

unpadded_never : (pad there mismatch : Bool) (r : Result Value Condition) → r ≢ Err Fine → cond pad r (cond there r (cond mismatch r (Ok Undefined))) ≢ Err Fine
unpadded_never true there mismatch r never is = never is
unpadded_never false true mismatch r never is = never is
unpadded_never false false true r never is = never is
unpadded_never false false false r never is = cc

-- what a field of a record gives
abbrev pub result_for : Edit → EditModes → Kind → ℕ → List ℕ → Result Value Condition
result_for e modes kind width chars = without_padding modes.pad width chars (input_field e kind modes.blank_zero (chars ++ replicate (width - length chars) 32))

pub result_never : (e : Edit) (modes : EditModes) (kind : Kind) (width : ℕ) (chars : List ℕ) → result_for e modes kind width chars ≢ Err Fine
result_never e modes kind width chars =
    let r = input_field e kind modes.blank_zero (chars ++ replicate (width - length chars) 32) in
    unpadded_never modes.pad (length chars == width) (is_mismatch r) r (field_never e kind modes.blank_zero (chars ++ replicate (width - length chars) 32))

-- ---- records

line_never : (a b : Bool) (hand : AtHand) → cond a (Err EndOfFile) (cond b (Err (Error 15)) (Ok hand)) ≢ Err Fine
line_never true b hand is = cc
line_never false true hand is = cc
line_never false false hand is = cc

numbered_never : (c : Connection) (number : ℕ) (found : Option (List ℕ)) → numbered c number found ≢ Err Fine
numbered_never c number None is = cc
numbered_never c number (Some text) is = cc

either_never : (b : Bool) (x y : Result AtHand Condition) → x ≢ Err Fine → y ≢ Err Fine → cond b x y ≢ Err Fine
either_never true x y h k = h
either_never false x y h k = k

line_at_never : (c : Connection) → line_at c ≢ Err Fine
line_at_never c = line_never (length (bytes_behind c) == 0) (ltb c.modes.recl (length (rest_of_record c))) _

record_never : (c : Connection) (number : ℕ) → record_numbered c number ≢ Err Fine
record_never c number = numbered_never c number (piece c.bytes c.modes.recl number)

rest_never : (b : Bool) (hand : AtHand) → cond b (Err (Error 15)) (Ok hand) ≢ Err Fine
rest_never true hand is = cc
rest_never false hand is = cc

pub next_never : (c : Connection) → next_record c ≢ Err Fine
next_never c = either_never (same_access c.modes.access Direct) _ _ (record_never c c.spot.next_number) (line_at_never c)

pub first_never : (c : Connection) → first_record c ≢ Err Fine
first_never c = either_never (same_access c.modes.access Direct) _ _ (record_never c c.spot.next_number)
    (either_never (is_reading c.spot.within) _ _ (rest_never (ltb c.modes.recl (begun c + length (rest_of_record c))) _) (line_at_never c))

-- ---- how a field goes on, by whether its characters are all there, ADVANCE= and PAD=

abbrev pub outcome : Bool → Bool → Bool → Progress → Progress → Progress → (Progress → Ended) → Ended
outcome there advance pad p read left next =
    cond there (next read) (cond advance (cond pad (next read) (stopped (Error 30) p)) (cond pad (stopped EndOfRecord read) (stopped EndOfRecord left)))
