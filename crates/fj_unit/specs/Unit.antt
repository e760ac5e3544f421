-- A unit as a program sees it: what its jobs, each carried out at once behind those before it, have come to.
use Rattle.std.specs.Prelude.{List, [], ◌∷◌, ◌++◌, drop, None}
use Rattle.fj_bay.specs.Bay.{Bay}
use Rattle.fj_bay.specs.Jobs.{Job, Answer}
use Rattle.fj_bay.specs.Serving.{serve}

-- what serving a job left of it, and its answer
abbrev pub Outcome : Type 0
Outcome = Job × Answer

pub record Unit : Type 0 where
  pub bay : Bay
  -- what became of the jobs that were not told, in the order in which they were given
  pub pending : List Outcome

-- not connected
abbrev pub fresh : Unit
fresh = record { bay = record { connection = None; halt = None }; pending = [] }

-- one job more
abbrev pub given : Unit → Job → Unit
given u job = record { bay = (serve u.bay job).engine; pending = u.pending ++ ((serve u.bay job).job, (serve u.bay job).answer) ∷ [] }

-- the first of them is told
abbrev pub told : Unit → Unit
told u = record u { pending = drop 1 u.pending }
