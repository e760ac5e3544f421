-- The execution over desks inside a statement, and just before one.
use Rattle.std.specs.Prelude.{ℕ, zero, suc, List, [], ◌∷◌, Option, Some, None, slice_get}
use Rattle.fj_statement.specs.declared.deck.Variable.{Variable}
use Rattle.fj_bay.specs.Jobs.{Job}
use Rattle.fj_meaning.specs.State.{Entry}
use Rattle.fj_meaning.specs.Telling.{waited_in}
use Rattle.fj_meaning.specs.Statement.{Stated}
use Rattle.fj_meaning_jobs.specs.Desks.{Desk, carry, outcome, log_length}
use Rattle.fj_meaning_jobs.specs.Doing.{Doing, finishes, gives, awaits, Desked, given}
use Rattle.fj_meaning_jobs.specs.Desking.{entries, begun_at, desk_step}
use Rattle.fj_meaning_turns.specs.Turns.{doing_told}

-- the transfers that it tells
abbrev pub waited_at : Stated → Desked → List Entry
waited_at st p = waited_in (entries p) p.core.vars st.0.what

-- all that it does once they are told, and the jobs that it gives, each with its slot
abbrev pub does : List Variable → Stated → Desked → Doing
does variables st p = doing_told variables st (waited_at st p) p.core

abbrev pub jobs_of : List Variable → Stated → Desked → List (ℕ × Job)
jobs_of variables st p = given p.desks (does variables st p)

-- after so many jobs: the desks, and what is done next
abbrev pub walked : ℕ → List Desk → Doing → List Desk × Doing
walked zero desks d = (desks, d)
walked (suc k) desks (finishes core condition) = (desks, finishes core condition)
walked (suc k) desks (gives slot job core next) = walked k (carry desks slot job) (next (log_length (slice_get desks slot)))
walked (suc k) desks (awaits slot job core next) = walked k (carry desks slot job) (next (outcome desks slot job))

-- just before the statement at a place of the deck, counted from 0, that one as it begins; none where the execution ends before it
abbrev pub cut_desks : List Variable → ℕ → List Stated → Desked → Option (Stated × Desked)
cut_desks variables index [] p = None
cut_desks variables zero (st ∷ more) p = Some (begun_at p st, p)
cut_desks variables (suc index) (st ∷ more) p =
    let done = desk_step variables (begun_at p st) p in
    elim done.1 as (λ _. Option (Stated × Desked)) [
      | None ↦ cut_desks variables index more done.0
      | Some e ↦ None
    ]
