use Rattle.std.proofs.Common.{rules}
use Rattle.fj_pace.proofs.Dues.{settling_inv}
use Rattle.fj_pace.proofs.asker.AskerScript.told.Goals.{then-self-eq0, else-self-eq0}
use Rattle.fj_pace.proofs.asker.AskerScript.told.Goals as goal

pub returns-then-self-eq0-2 : goal.returns-then-self-eq0-2
returns-then-self-eq0-2 c = let h = settling_inv _ _ _ c.requires in elim c.if-self-eq0.branch [ then-self-eq0 w ↦ search rules | else-self-eq0 w ↦ search rules ]

pub returns-else-self-eq0-2 : goal.returns-else-self-eq0-2
returns-else-self-eq0-2 c = let h = settling_inv _ _ _ c.requires in elim c.if-self-eq0.branch [ then-self-eq0 w ↦ search rules | else-self-eq0 w ↦ search rules ]

pub returns-in-Stopped : goal.returns-in-Stopped
returns-in-Stopped c = let h = settling_inv _ _ _ c.requires in elim c.if-self-eq0.branch [ then-self-eq0 w ↦ search rules | else-self-eq0 w ↦ search rules ]
