use Rattle.std.proofs.Common.{◌≤◌, ◌<◌, ◌+◌, ◌*◌, length, get_or, ap, arith}
use Rattle.std.proofs.lemmas.Bool.Decides.{nat_tests}
use Rattle.fj_edit_in.proofs.Scanned.{scanned_none, plain_more, plain_ends}
use Rattle.fj_edit_in.proofs.number.plain_number.Goals as goal

pub loop-c-init : goal.loop-c-init
loop-c-init c = λ blank_zero. scanned_none 10 blank_zero

pub loop-c-preserved : goal.loop-c-preserved
loop-c-preserved c = λ blank_zero.
    let chars = c.args.chars.now in
    let i = c.loop-c.c-index in
    let low : 48 ≤ get_or chars i 0 = grind (arith, nat_tests) in
    let high : get_or chars i 0 ≤ 57 = grind (arith, nat_tests) in
    plain_more blank_zero chars i _ c.loop-c.amount _ c.loop-c-test.true low high (ap (λ d. c.loop-c.amount * 10 + d) c.from.ensures) (omega (arith, c.from.ensures, high, c.if-amount-ge-SHORT.false)) (c.loop-c.invariant blank_zero)

pub returns : goal.returns
returns c = λ blank_zero.
    let some : 0 < length c.args.chars.now = grind (arith, nat_tests) in
    plain_ends blank_zero c.args.chars.now c.loop-c.c-index c.loop-c.amount c.loop-c-test.false some (c.loop-c.invariant blank_zero)
