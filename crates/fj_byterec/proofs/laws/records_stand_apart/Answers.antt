use Rattle.fj_byterec.proofs.Apart.{written_there, other_there}
use Rattle.fj_byterec.proofs.laws.records_stand_apart.Goals as goal

pub returns : goal.returns
returns c = λ bytes text size number fill some fits. (
  written_there bytes text size number fill some fits,
  λ other found some' apart is. other_there bytes text found size number fill other some fits some' apart is,
)
