use Rattle.std.proofs.Common.{◌-◌, length}
use Rattle.fj_meaning_looks.specs.Inquiring.{looks_by}
use Rattle.fj_run_script.proofs.Going.{GoesOn}
use Rattle.fj_run_script.proofs.machine.Machine.go.Given as goal

abbrev pub invariant-loop-self : goal.invariant-loop-self
invariant-loop-self g l =
    GoesOn (looks_by l.fn.to_look) g.W.Sink.tells g.W.Sink.taken g.W.Sink.count g.D.Disk.tells g.D.Disk.held g.D.Disk.count g.D.Disk.refusals l.fn.out l.fn.disk l.fn.self l.out l.disk l.self

abbrev pub decreases-loop-self : goal.decreases-loop-self
decreases-loop-self g l = length l.self.deck.statements - l.self.at.place
