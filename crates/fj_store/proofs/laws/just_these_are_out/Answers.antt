use Rattle.fj_store.proofs.LawLemmas.{out_at}
use Rattle.fj_store.proofs.laws.just_these_are_out.Goals as goal

pub returns : goal.returns
returns c s places p = out_at places s.values p
