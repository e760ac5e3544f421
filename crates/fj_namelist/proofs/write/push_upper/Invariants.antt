use Rattle.std.proofs.Common.{◌≡◌, ◌++◌, take}
use Rattle.std.specs.Str.{str_to_ascii_uppercase}
use Rattle.fj_namelist.proofs.write.push_upper.Given as goal

abbrev pub invariant-loop-c : goal.invariant-loop-c
invariant-loop-c l = l.out ≡ l.fn.out ++ str_to_ascii_uppercase (take l.c-index l.name)
