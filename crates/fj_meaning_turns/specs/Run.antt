-- The runner as plain data: what it holds between two asks.
use Rattle.std.specs.Prelude.{ℕ, List, Option}
use Rattle.fj_statement.specs.declared.deck.Variable.{Variable}
use Rattle.fj_meaning.specs.State.{Entry}
use Rattle.fj_meaning.specs.Statement.{Stated, Ending}
use Rattle.fj_meaning_jobs.specs.Core.{Core, Pending}
use Rattle.fj_meaning_jobs.specs.Desks.{Outcome, Brought, entry_with}
use Rattle.fj_meaning_jobs.specs.Doing.{Doing}

-- a pending transfer with what its job brought, once that was told
pub record Held : Type 0 where
  pub pending : Pending
  pub answer : Option Brought

-- where the statement at hand is
pub data Stage : Type 0 where
  -- nothing of it is done
  Start : Stage
  -- it waits for transfers that it tells
  Waiting : Stage
  -- they are told, and this is what it does next
  Acting : Doing → Stage
  -- it waits for its own job, of that slot and number, and then does this
  Awaiting : ℕ → ℕ → (Outcome → Doing) → Stage

pub record Run : Type 0 where
  pub variables : List Variable
  pub core : Core
  -- the pending transfers of the core, with their answers
  pub book : List Held
  -- the statement at hand and those behind it
  pub rest : List Stated
  -- by slot: how many jobs were submitted, and how many of them were told
  pub sent : List ℕ
  pub told : List ℕ
  pub stage : Stage
  -- the slot of the last Settle
  pub due : ℕ
  pub ending : Option Ending

-- as far as it is known
abbrev pub known : Held → Entry
known h = entry_with h.pending h.answer
