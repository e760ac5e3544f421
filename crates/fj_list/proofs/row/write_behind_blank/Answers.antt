use Rattle.std.proofs.Common.{◌≡◌, ◌+◌, length, take, unsigned_abs, ap, ◌∙◌, arith}
use Rattle.std.proofs.lemmas.Int.{to_z-of_z}
use Rattle.fj_value.specs.Shown.{sign}
use Rattle.fj_list.proofs.Integers.{sign_short}
use Rattle.fj_list.proofs.Rows.{integer_behind}
use Rattle.fj_list.proofs.row.write_behind_blank.Goals as goal

pub overflow_add-end-3 : goal.overflow_add-end-3
overflow_add-end-3 c =
    let s : c.sign_of-sign.result.now ≡ sign c.args.plus c.args.n = grind (arith, to_z-of_z) in
    omega (arith, ap length s, sign_short c.args.plus c.args.n, c.count_digits.ensures.few, c.requires)

pub write_front-requires-clause-short : goal.write_front-requires-clause-short
write_front-requires-clause-short c =
    let s : c.sign_of-sign.result.now ≡ sign c.args.plus c.args.n = grind (arith, to_z-of_z) in
    omega (arith, ap length s, sign_short c.args.plus c.args.n)

pub returns-clause-some : goal.returns-clause-some
returns-clause-some c =
    let s : c.sign_of-sign.result.now ≡ sign c.args.plus c.args.n = grind (arith, to_z-of_z) in
    let amount : c.unsigned_abs-amount.result ≡ unsigned_abs c.args.n = grind (arith, to_z-of_z) in
    let digits = c.write_digits.ensures in
    let start : c.write_digits.result ≡ c.args.at + 1 + length c.sign_of-sign.result.now = omega (arith, digits.start, c.count_digits.ensures.is) in
    integer_behind c.args.plus c.args.n c.sign_of-sign.result.now c.unsigned_abs-amount.result c.args.row.now c.write_front.new.row c.write_digits.new.buf c.args.at c.write_digits.result _ s amount
    (ap (λ k. take k c.write_front.new.row) start ∙ c.write_front.ensures.front) digits.start digits.written digits.before
