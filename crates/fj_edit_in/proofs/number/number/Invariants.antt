use Rattle.std.proofs.Common.{take}
use Rattle.fj_edit_in.specs.InputField.{blanks_read}
use Rattle.fj_edit_in.specs.Scan.{Scanned}
use Rattle.fj_edit_in.proofs.number.number.Given as goal

abbrev pub invariant-loop-c : goal.invariant-loop-c
invariant-loop-c l = Scanned l.base (blanks_read l.blank_zero (take l.c-index l.chars)) l.some l.amount
