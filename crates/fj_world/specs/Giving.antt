-- A job that is asked for, and comes back where it is refused.
use Rattle.fj_world.specs.declared.ask.Ask.{Ask}
use Rattle.fj_world.specs.declared.ask.Ask.TheVariants.{Submit, Settle, Finished}

-- what is asked is such a job, or none
abbrev pub GivesOf : {S J : Type 0} → (S → J → Type 0) → S → Ask J → Type 0
GivesOf gives script (Submit slot job) = gives script job
GivesOf gives script (Settle slot) = Unit {0}
GivesOf gives script Finished = Unit {0}
