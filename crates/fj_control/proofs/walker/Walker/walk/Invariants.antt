use Rattle.std.proofs.Common.{◌≡◌, length}
use Rattle.fj_control.specs.Walk.{next_from}
use Rattle.fj_control.specs.Walker.{rest_of, IsSound, KeepsRoom}
use Rattle.fj_control.proofs.walker.Walker.walk.Given as goal

abbrev pub invariant-loop-piece : goal.invariant-loop-piece
invariant-loop-piece l = record {
  sound : IsSound l.self;
  room : KeepsRoom l.initial.self l.self;
  same : next_from l.left (rest_of l.initial.self) ≡ next_from l.left (rest_of l.self);
}

abbrev pub decreases-loop-piece : goal.decreases-loop-piece
decreases-loop-piece l = length (rest_of l.self)
