use Rattle.std.proofs.Common.{◌≡◌, [], length, unsigned_abs, sym, ◌∙◌, arith}
use Rattle.std.proofs.lemmas.Int.{to_z-of_z}
use Rattle.fj_value.specs.Shown.{sign}
use Rattle.fj_edit_out.proofs.Digits.{is_stars, is_digits, is_signed}
use Rattle.fj_edit_out.proofs.row.write_integer.Goals as goal

pub returns-then-not-has_digits : goal.returns-then-not-has_digits
returns-then-not-has_digits c =
    let s : c.sign_of-sign.result.now ≡ sign c.args.plus c.args.n = grind (arith, to_z-of_z) in
    let amount : c.unsigned_abs-amount.result ≡ unsigned_abs c.args.n = grind (arith, to_z-of_z) in
    c.fill.ensures.after (λ y e. e)
    ∙ sym (is_stars c.args.plus (length c.args.field.now) c.args.n _ _ s amount (omega arith) c.requires.some (grind arith))

pub returns-then-not-is_empty : goal.returns-then-not-is_empty
returns-then-not-is_empty c =
    let s : c.sign_of-sign.result.now ≡ sign c.args.plus c.args.n = grind (arith, to_z-of_z) in
    let amount : c.unsigned_abs-amount.result ≡ unsigned_abs c.args.n = grind (arith, to_z-of_z) in
    let digits = c.write_digits-start.ensures in
    is_signed c.args.plus (length c.args.field.now) c.args.n _ _ s amount (omega arith) c.requires.some _ _ _ c.requires.blank
    digits.start digits.written digits.before (grind arith) (grind arith)

pub returns-else-not-is_empty : goal.returns-else-not-is_empty
returns-else-not-is_empty c =
    let s : c.sign_of-sign.result.now ≡ sign c.args.plus c.args.n = grind (arith, to_z-of_z) in
    let amount : c.unsigned_abs-amount.result ≡ unsigned_abs c.args.n = grind (arith, to_z-of_z) in
    let digits = c.write_digits-start.ensures in
    is_digits c.args.plus (length c.args.field.now) c.args.n _ _ s amount (omega arith) c.requires.some _ _ _ c.requires.blank
    digits.start digits.written digits.before (grind arith)

-- without a sign
pub returns-then-has_digits : goal.returns-then-has_digits
returns-then-has_digits c =
    let none : sign c.args.plus c.args.n ≡ [] = grind (arith, to_z-of_z) in
    let amount : c.unsigned_abs-amount.result ≡ unsigned_abs c.args.n = grind (arith, to_z-of_z) in
    let digits = c.write_digits.ensures in
    is_digits c.args.plus (length c.args.field.now) c.args.n _ _ (sym none) amount (omega arith) c.requires.some _ _ _ c.requires.blank
    digits.start digits.written digits.before (omega arith)
