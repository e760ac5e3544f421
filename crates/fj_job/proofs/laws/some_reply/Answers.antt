use Rattle.fj_job.proofs.SomeReplies as laws
use Rattle.fj_job.proofs.laws.some_reply.Goals as goal

pub returns : goal.returns
returns c = laws.some_reply c.some_answer.ensures c.decks_are_sound.ensures
