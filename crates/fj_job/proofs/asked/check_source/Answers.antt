use Rattle.fj_job.specs.Taken.{IsReadOf}
use Rattle.fj_job.specs.declared.task.Task.TheVariants.{Check}
use Rattle.fj_job.proofs.ReplyLaws.{replied_whole, refused_whole, ended_whole}
use Rattle.fj_job.proofs.Fronts.{took_whole}
use Rattle.fj_job.specs.Reply.{files_in}
use Rattle.fj_job.proofs.asked.check_source.Given
use Rattle.fj_job.proofs.asked.check_source.Goals as goal

-- what was read is the text, as the reader sees it
read : (g : Given.Over) (c : goal.After-drop-text g) → g.R.Source.tells c.args.deck.now → IsReadOf 4194304 (g.R.Source.left c.args.deck.now) c.deref.result.now
read g c t = rw c.deref.ensures.value (c.in-Ok.ensures.text t)

pub returns-in-Ok-clause-replied : goal.returns-in-Ok-clause-replied
returns-in-Ok-clause-replied g c = λ files a t. replied_whole Check _ _ files _ files _ (read g c t) (c.check_text.ensures.replied files a)

pub returns-in-Ok-clause-refused : goal.returns-in-Ok-clause-refused
returns-in-Ok-clause-refused g c = λ t. refused_whole Check _ _ c.check_text.result (read g c t) c.check_text.ensures.refused

pub returns-in-Ok-clause-ended : goal.returns-in-Ok-clause-ended
returns-in-Ok-clause-ended g c = λ t. ended_whole Check _ _ c.check_text.result (read g c t) c.check_text.ensures.ended

pub returns-in-Ok-clause-front : goal.returns-in-Ok-clause-front
returns-in-Ok-clause-front g c = λ files t w. took_whole Check _ _ (files_in files) _ _ (read g c t) (c.check_text.ensures.front files w)
