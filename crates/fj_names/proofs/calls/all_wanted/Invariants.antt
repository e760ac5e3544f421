use Rattle.std.proofs.Common.{◌≡◌, ◌++◌, drop, Some}
use Rattle.fj_names.specs.Calls.{wanted}
use Rattle.fj_names.specs.Giving.{◌>>=◌, each}
use Rattle.fj_names.proofs.calls.all_wanted.Given as goal

-- the questions so far, before those that are left
abbrev pub invariant-loop-asking : goal.invariant-loop-asking
invariant-loop-asking l = (each (wanted l.names) (drop l.asking-index l.asking-items) >>= (λ more. Some (l.asked ++ more))) ≡ each (wanted l.names) l.asking-items
