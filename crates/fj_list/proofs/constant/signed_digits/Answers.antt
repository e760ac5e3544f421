use Rattle.std.proofs.Common.{◌∙◌}
use Rattle.fj_list.proofs.Numbers.{signed_read, unsigned_wrong}
use Rattle.fj_list.proofs.constant.signed_digits.Goals as goal

pub returns-in-Some : goal.returns-in-Some
returns-in-Some c = c.read_signed.ensures ∙ signed_read c.args.bits c.in-Some.amount c.args.negative c.args.digits.now c.requires.1 c.in-Some.ensures

pub returns-in-None : goal.returns-in-None
returns-in-None c = unsigned_wrong c.args.bits c.args.negative c.args.digits.now c.in-None.ensures
