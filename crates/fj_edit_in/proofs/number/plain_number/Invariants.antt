use Rattle.std.proofs.Common.{Bool, Some, take, nat_lt}
use Rattle.fj_edit_in.specs.InputField.{blanks_read}
use Rattle.fj_edit_in.specs.Scan.{Scanned}
use Rattle.fj_edit_in.proofs.number.plain_number.Given as goal

abbrev pub invariant-loop-c : goal.invariant-loop-c
invariant-loop-c l = (blank_zero : Bool) → Scanned 10 (blanks_read blank_zero (take l.c-index l.chars)) (nat_lt 0 l.c-index) (Some l.amount)
