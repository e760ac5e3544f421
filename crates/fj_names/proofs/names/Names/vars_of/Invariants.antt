use Rattle.std.proofs.Common.{◌≡◌, ◌++◌, drop, Some}
use Rattle.fj_names.specs.Declaring.{number_of}
use Rattle.fj_names.specs.Giving.{◌>>=◌, each}
use Rattle.fj_names.proofs.names.Names.vars_of.Given as goal

-- the numbers so far, before those that are left
abbrev pub invariant-loop-member : goal.invariant-loop-member
invariant-loop-member l = (each (number_of l.self) (drop l.member-index l.member-items) >>= (λ more. Some (l.vars ++ more))) ≡ each (number_of l.self) l.member-items
