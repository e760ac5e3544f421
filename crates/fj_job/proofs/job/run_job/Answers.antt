use Rattle.std.proofs.Common.{◌∙◌, ap, refl, arith}
use Rattle.fj_job.specs.Task.{task_of}
use Rattle.fj_job.proofs.AskedLaws.{answered_told, executed_told}
use Rattle.fj_job.proofs.RunLaws.{run_nothing}
use Rattle.fj_job.proofs.job.run_job.Goals as goal

pub returns-in_default : goal.returns-in_default
returns-in_default g c = run_nothing _ _ _ _ refl refl c.requires refl refl refl (((λ t. t, λ t. t), omega arith), ((λ t. t, λ t. t), omega arith), ((λ t. t, λ t. t), omega arith))

pub returns-in-Answered : goal.returns-in-Answered
returns-in-Answered g c =
    answered_told _ _ _ _ _ _ (c.task_of.ensures ∙ ap task_of c.in-Ok.ensures) (rw c.in-Answered.is at c.answer.ensures.asked) refl refl ((λ t. t, λ t. t), omega arith) c.requires

pub returns-in-Deck : goal.returns-in-Deck
returns-in-Deck g c =
    executed_told _ _ _ g.D.Disk.tells g.D.Disk.held g.D.Disk.count g.D.Disk.refusals _ _ (c.task_of.ensures ∙ ap task_of c.in-Ok.ensures) _ _ _ _ _ _
    (rw c.in-Deck.is at c.answer.ensures.asked) _ _ _ _ c.execute_with.ensures.executed
