-- How many jobs a statement gives.
use Rattle.std.specs.Prelude.{◌≡◌, ℕ, zero, suc, ◌*◌, List, Some}
use Rattle.fj_statement.specs.declared.deck.Variable.{Variable}
use Rattle.fj_meaning.specs.State.{Files}
use Rattle.fj_meaning.specs.Statement.{Stated}
use Rattle.fj_meaning_jobs.specs.Desks.{Outcome, most_slots}
use Rattle.fj_meaning_jobs.specs.Doing.{Doing, finishes, gives, awaits, Desked}
use Rattle.fj_meaning_jobs.specs.Desking.{fresh}
use Rattle.fj_meaning_turns.specs.Inside.{does, cut_desks}

-- so many jobs at most, whatever their numbers are and whatever becomes of them
abbrev pub AtMost : ℕ → Doing → Type 0
AtMost k (finishes core condition) = Unit {0}
AtMost zero (gives slot job core next) = ⊥
AtMost (suc k) (gives slot job core next) = (number : ℕ) → AtMost k (next number)
AtMost zero (awaits slot job core next) = ⊥
AtMost (suc k) (awaits slot job core next) = (o : Outcome) → AtMost k (next o)

-- for each unit the end of its halt, and as many for what it does itself
abbrev pub most_jobs : ℕ
most_jobs = 2 * most_slots

-- for every deck, each statement that is come to
abbrev pub GivesFewJobs : Type 0
GivesFewJobs = (variables : List Variable) (deck : List Stated) (files : Files) (index : ℕ) (statement : Stated) (before : Desked) →
    cut_desks variables index deck (fresh variables files) ≡ Some (statement, before) → AtMost most_jobs (does variables statement before)
