use Rattle.fj_job.specs.Taken.{IsReadOf}
use Rattle.fj_job.proofs.RunLaws.{unread_whole}
use Rattle.fj_job.proofs.Fronts.{front_whole}
use Rattle.fj_job.proofs.asked.deck_of.Given
use Rattle.fj_job.proofs.asked.deck_of.Goals as goal

-- what was read is the text, as the reader sees it
read : (g : Given.Over) (c : goal.After-drop-text g) → g.R.Source.tells c.args.deck.now → IsReadOf 4194304 (g.R.Source.left c.args.deck.now) c.deref.result.now
read g c t = rw c.deref.ensures.value (c.in-Ok.ensures.text t)

pub returns-in-Ok-clause-refused : goal.returns-in-Ok-clause-refused
returns-in-Ok-clause-refused g c = unread_whole c.read_deck.result _ _ _ (read g c) c.read_deck.ensures.refused

pub returns-in-Ok-clause-front : goal.returns-in-Ok-clause-front
returns-in-Ok-clause-front g c = front_whole c.read_deck.result _ _ _ _ _ _ (read g c) c.read_deck.ensures.front
