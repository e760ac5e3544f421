use Rattle.std.proofs.Common.{take}
use Rattle.fj_list.specs.Scanned.{Scanned}
use Rattle.fj_list.proofs.constant.number.Given as goal

abbrev pub invariant-loop-c : goal.invariant-loop-c
invariant-loop-c l = Scanned (take l.c-index l.chars) l.amount
