use Rattle.std.proofs.Common.{◌≡◌, ◌++◌, take}
use Rattle.fj_format.specs.Printing.{doubled}
use Rattle.fj_format.proofs.printer.push_string.Given as goal

abbrev pub invariant-loop-c : goal.invariant-loop-c
invariant-loop-c l = l.text ≡ l.initial.text ++ doubled (take l.c-index l.string)
