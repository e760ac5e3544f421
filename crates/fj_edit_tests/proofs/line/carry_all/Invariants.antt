use Rattle.fj_line.specs.Page.{IsIn}
use Rattle.fj_edit_tests.proofs.line.carry_all.Given as goal

abbrev pub invariant-loop-done : goal.invariant-loop-done
invariant-loop-done l = IsIn l.page l.text
