use Rattle.std.proofs.Common.{arith}
use Rattle.std.proofs.lemmas.Bool.Decides.{nat_tests}
use Rattle.std.proofs.lemmas.Fmt.{length-decimal-le}
use Rattle.fj_edit_out.proofs.Digits.{first_longer_at, is_short, is_below}
use Rattle.fj_edit_out.proofs.row.has_digits.Goals as goal

pub returns-then-most-ge20 : goal.returns-then-most-ge20
returns-then-most-ge20 c = grind (arith, nat_tests, length-decimal-le 20 c.args.n)

pub returns-else-most-ge20 : goal.returns-else-most-ge20
returns-else-most-ge20 c =
    let e = first_longer_at c.args.most c.if-most-ge20.false in
    grind (arith, nat_tests, e, is_short c.args.n c.args.most c.ranges.n.fits, is_below c.args.n c.args.most c.ranges.n.fits)
