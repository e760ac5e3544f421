-- A bay behind jobs is what a slot's engine is behind them.
use Rattle.std.proofs.Common.{◌≡◌, List, [], ◌∷◌, refl, ap, ◌∙◌}
use Rattle.fj_slot.specs.Serving.{Meaning, Served}
use Rattle.fj_slot.specs.Sound.{served_by}
use Rattle.fj_bay.specs.Bay.{Bay}
use Rattle.fj_bay.specs.Jobs.{Job, Answer}
use Rattle.fj_bay.specs.Serving.{serve}
use Rattle.fj_bay.specs.Spoilt.{behind}

pub behind_is : {E J A : Type 0} (m : Meaning E J A Bay Job Answer) → m.serve ≡ serve → (bay : Bay) (jobs : List Job) → served_by m bay jobs ≡ behind bay jobs
behind_is m same bay [] = refl
behind_is m same bay (job ∷ jobs) = ap (λ (f : Bay → Job → Served Bay Job Answer). served_by m (f bay job).engine jobs) same ∙ behind_is m same (serve bay job).engine jobs
