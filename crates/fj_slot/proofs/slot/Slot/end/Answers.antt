use Rattle.std.proofs.Common.{arith}
use Rattle.std.proofs.lemmas.Grind.{common_steps}
use Rattle.fj_slot.proofs.Counted.{counted_end}
use Rattle.fj_slot.proofs.Sound.{end_keeps}
use Rattle.fj_slot.proofs.slot.Slot.end.Goals as goal

pub returns-clause-ok : goal.returns-clause-ok
returns-clause-ok g c = grind (arith, common_steps)

pub returns-clause-err : goal.returns-clause-err
returns-clause-err g c = grind (arith, common_steps)

pub returns-clause-sound : goal.returns-clause-sound
returns-clause-sound g c = λ s ts t h due served count.
    end_keeps g.E.Engine.meaning s ts t c.args.self.now _ c.args.out.engine c.args.out.job c.args.got c.args.before h c.requires.out due served count c.requires.cause
    (returns-clause-ok g c) (returns-clause-err g c)

pub returns-clause-counted : goal.returns-clause-counted
returns-clause-counted g c = λ count h.
    counted_end g.E.Engine.meaning c.args.self.now _ c.args.out.engine c.args.out.job c.args.got c.args.before h c.requires.out count c.requires.cause (returns-clause-ok g c) (returns-clause-err g c)
