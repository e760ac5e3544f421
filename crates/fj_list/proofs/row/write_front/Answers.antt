use Rattle.std.proofs.Common.{◌+◌, length, arith}
use Rattle.fj_list.proofs.Rows.{front_plain, front_signed}
use Rattle.fj_list.proofs.row.write_front.Goals as goal

pub returns-then-is_empty-clause-front : goal.returns-then-is_empty-clause-front
returns-then-is_empty-clause-front c = front_plain c.args.sign.now c.args.row.now c.args.at (c.args.at + 1 + length c.args.sign.now) (grind arith) (omega (arith, c.requires.room)) (omega arith)

pub returns-clause-front : goal.returns-clause-front
returns-clause-front c = front_signed c.args.sign.now c.args.row.now c.args.at (c.args.at + 1 + length c.args.sign.now) c.requires.short (grind arith) (grind arith) (omega arith)
