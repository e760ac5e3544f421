-- A transfer that is made pending.
use Rattle.std.specs.Prelude.{◌≡◌, ◌⊎◌, ℕ, ◌+◌, List, [], ◌∷◌, ◌++◌, None}
use Rattle.fj_statement.specs.declared.deck.Variable.{Variable}
use Rattle.fj_statement.specs.declared.statement.Transfer.{Transfer}
use Rattle.fj_meaning.specs.Transfers.{held_places}
use Rattle.fj_meaning_jobs.specs.Core.{Pending}
use Rattle.fj_meaning_turns.specs.Run.{Held as PlainHeld}
use Rattle.fj_run_pending.specs.declared.held.Held.{Held}
use Rattle.fj_run_statements.specs.State.{KeepsPending}
use Rattle.fj_run_statements.specs.declared.doing.Given.{Given}
use Rattle.fj_run_statements.specs.declared.doing.Given.TheVariants as given
use Rattle.fj_run_statements.specs.declared.state.Core.{Core}

-- on a unit under an identifier, by the number of its job at a slot
abbrev pub pending_under : List Variable → ℕ → Transfer → ℕ → ℕ → ℕ → Pending
pending_under variables id t unit slot number =
    record { id = id; unit = unit; input = t.input; places = held_places variables t; size = t.size; slot = slot; number = number }

-- with no answer yet
abbrev pub unanswered : Pending → PlainHeld
unanswered p = record { pending = p; answer = None }

-- ---- as the program holds it

-- one more is pending, under that identifier and by the number of its job at that slot
pub record HoldsMore (id slot number : ℕ) (old new : List Held) : Type 0 where
  pub transfer : Held
  pub id_is : transfer.tag.0 ≡ id
  pub slot_is : transfer.slot ≡ slot
  pub number_is : transfer.number ≡ number
  pub behind : new ≡ old ++ transfer ∷ []

-- it has the next identifier
abbrev pub Enters : ℕ → ℕ → Core → Core → Type 0
Enters slot number old new = HoldsMore old.next slot number old.pending new.pending × (new.next ≡ old.next + 1)

-- once the number of its job is known a transfer may be made pending
abbrev pub MayEnter : Given → ℕ → Core → Core → Type 0
MayEnter (given.Finishes condition) number old new = KeepsPending old new
MayEnter (given.Pends unit slot) number old new = KeepsPending old new ⊎ Enters slot number old new
