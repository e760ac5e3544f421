use Rattle.std.proofs.Common.{◌≡◌, unsigned_abs, arith}
use Rattle.std.proofs.lemmas.Fmt.{length-decimal-le}
use Rattle.std.proofs.lemmas.Int.{to_z-of_z}
use Rattle.fj_value.specs.Shown.{sign}
use Rattle.fj_list.proofs.Integers.{without_sign, with_sign}
use Rattle.fj_list.proofs.shown.write_integer.Goals as goal

pub write_digits-start-requires : goal.write_digits-start-requires
write_digits-start-requires c = grind (arith, length-decimal-le 20)

pub returns-then-is_empty-clause-room : goal.returns-then-is_empty-clause-room
returns-then-is_empty-clause-room c = grind (arith, length-decimal-le 20)

pub returns-then-is_empty-clause-written : goal.returns-then-is_empty-clause-written
returns-then-is_empty-clause-written c =
    let s : c.sign_of-sign.result.now ≡ sign c.args.plus c.args.n = grind (arith, to_z-of_z) in
    let amount : c.unsigned_abs.result ≡ unsigned_abs c.args.n = grind (arith, to_z-of_z) in
    let digits = c.write_digits-start.ensures in
    without_sign c.args.plus c.args.n _ _ _ _ _ s amount c.requires digits.start digits.written digits.before (grind arith)

pub overflow_sub-buffer : goal.overflow_sub-buffer
overflow_sub-buffer c = grind (arith, length-decimal-le 20)

pub overflow_sub-result : goal.overflow_sub-result
overflow_sub-result c = grind (arith, length-decimal-le 20)

pub returns-clause-room : goal.returns-clause-room
returns-clause-room c = grind (arith, length-decimal-le 20)

pub returns-clause-written : goal.returns-clause-written
returns-clause-written c =
    let s : c.sign_of-sign.result.now ≡ sign c.args.plus c.args.n = grind (arith, to_z-of_z) in
    let amount : c.unsigned_abs.result ≡ unsigned_abs c.args.n = grind (arith, to_z-of_z) in
    let digits = c.write_digits-start.ensures in
    with_sign c.args.plus c.args.n _ _ _ _ _ s amount c.requires digits.start digits.written digits.before (grind arith) (grind (arith, length-decimal-le 20))
