use Rattle.std.proofs.Common.{◌≡◌, subst, List, ℕ, arith}
use Rattle.std.specs.Prelude.{IfOk}
use Rattle.fj_edit_in.specs.InputField.{input_field}
use Rattle.fj_byterec.proofs.RecordLaws.{filled_front}
use Rattle.fj_transfer.proofs.fields.filled_value.Goals as goal

pub returns-then-chars-width : goal.returns-then-chars-width
returns-then-chars-width c =
    let P : List ℕ → Type 0 = λ cs. IfOk c.whole_value.result (λ read. read ≡ input_field c.args.edit c.args.kind c.args.modes.blank_zero cs) in
    let front = filled_front c.put.new.buffer c.args.chars.now c.args.width 32 c.put.ensures (omega (arith, c.if-chars-width.true)) (omega (arith, c.if-width-le-GATHERED.true)) in
    subst P front c.whole_value.ensures
