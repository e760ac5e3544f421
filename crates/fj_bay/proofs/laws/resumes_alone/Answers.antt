use Rattle.std.proofs.Common.{refl}
use Rattle.fj_bay.specs.Serving.{serve}
use Rattle.fj_bay.proofs.laws.resumes_alone.Goals as goal

pub returns : goal.returns
unfolding serve
returns c = λ bay. refl
