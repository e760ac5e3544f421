use Rattle.std.proofs.Common.{◌≡◌, ◌++◌, take}
use Rattle.std.specs.Str.{str_to_ascii_uppercase}
use Rattle.fj_transfer.proofs.group.push_upper.Given as goal

abbrev pub invariant-loop-c : goal.invariant-loop-c
invariant-loop-c l = l.line ≡ l.fn.line ++ str_to_ascii_uppercase (take l.c-index l.name)
