-- Serving jobs in order, over plain data.
use Rattle.std.specs.Prelude.{◌≡◌, ℕ, Option, Some, IsSome, Result, Ok, Err}
use Rattle.fj_outside.specs.declared.errors.Stop.{Stop}

-- what serving a job leaves of the engine and of the job, and the answer
pub record Served (S T R : Type 0) : Type 0 where
  pub engine : S
  pub job : T
  pub answer : R

-- What an engine means over plain data S, its jobs T and its answers R: what each is, where it tells;
-- what serving a job gives; and which engines a stop may leave.
pub record Meaning (E J A S T R : Type 0) : Type 1 where
  pub state : E → Option S
  pub task : J → Option T
  pub reply : A → R
  pub serve : S → T → Served S T R
  pub spoilt : S → T → Stop → E → Type 0
  pub faults : E → ℕ

-- what performing the job t on the engine s may give, and what it leaves of the two
abbrev pub Serves : {E J A S T R : Type 0} → Meaning E J A S T R → S → T → Result A Stop → E → J → Type 0
Serves m s t (Ok a) engine job =
    (m.state engine ≡ Some (m.serve s t).engine) × (m.task job ≡ Some (m.serve s t).job) × (m.reply a ≡ (m.serve s t).answer)
Serves m s t (Err stop) engine job = IsSome (m.state engine) × m.spoilt s t stop engine
