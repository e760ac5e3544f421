use Rattle.std.proofs.Common.{sym}
use Rattle.fj_list.proofs.Rows.{digits_are, no_digits}
use Rattle.fj_list.proofs.row.count_digits.Goals as goal

pub returns-in-Some-clause-is : goal.returns-in-Some-clause-is
returns-in-Some-clause-is c = sym (digits_are c.in-Some.power c.args.n c.ranges.n.fits c.in-Some.ensures.power_le c.in-Some.ensures.next_power_gt)

pub returns-in-None-clause-is : goal.returns-in-None-clause-is
returns-in-None-clause-is c = sym (no_digits c.args.n c.in-None.ensures.none)
