use Rattle.fj_job.proofs.ReplyLaws as laws
use Rattle.fj_job.proofs.laws.one_reply.Goals as goal

pub returns : goal.returns
returns c = laws.one_reply c.one_answer.ensures.deck c.one_answer.ensures.apart c.one_answer.ensures.refusal
