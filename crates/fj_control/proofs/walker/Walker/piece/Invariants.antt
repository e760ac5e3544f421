use Rattle.std.proofs.Common.{◌≡◌}
use Rattle.fj_control.specs.Walker.{rest_of, work_of, IsSound, KeepsRoom}
use Rattle.fj_control.proofs.walker.Walker.piece.Given as goal

abbrev pub invariant-loop-self : goal.invariant-loop-self
invariant-loop-self l = record { sound : IsSound l.self; room : KeepsRoom l.initial.self l.self; same : rest_of l.self ≡ rest_of l.initial.self }

abbrev pub decreases-loop-self : goal.decreases-loop-self
decreases-loop-self l = work_of l.self
