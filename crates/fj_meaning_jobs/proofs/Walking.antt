-- To go over what a statement may do, case by case.
use Rattle.std.proofs.Common.{◌≡◌, ℕ, Bool, true, false, ◌&&◌, List, Option, Some, None, refl, Result, Ok, Err}
use Rattle.std.specs.Prelude.{if◌then◌else◌, unwrap_or}
use Rattle.fj_value.specs.declared.condition.Condition.{Condition}
use Rattle.fj_value.specs.declared.condition.Condition.TheVariants.{Fine, EndOfFile, EndOfRecord, Error}
use Rattle.fj_modes.specs.Modes.{settled}
use Rattle.fj_modes.specs.Modes as mode
use Rattle.fj_modes.specs.declared.modes.Modes.{Modes}
use Rattle.fj_modes.specs.declared.specifiers.OpenSpec.{OpenSpec}
use Rattle.fj_statement.specs.declared.unit.UnitRef.{UnitRef}
use Rattle.fj_statement.specs.Units.{is_outside}
use Rattle.fj_value.specs.declared.place.Place.{Place}
use Rattle.fj_moved.specs.declared.moved.Moved.{Moved}
use Rattle.fj_control.specs.Steps.{Given}
use Rattle.fj_connect.specs.Connection.{Connection}
use Rattle.fj_connect.specs.Opening.{opened_file}
use Rattle.fj_statement.specs.declared.deck.Variable.{Variable}
use Rattle.fj_statement.specs.declared.statement.Statement.{Statement}
use Rattle.fj_statement.specs.declared.statement.Statement.TheVariants as statement
use Rattle.fj_statement.specs.declared.statement.Transfer.{Transfer}
use Rattle.fj_store.specs.Variables.{Variables}
use Rattle.fj_meaning.specs.Needs.{number_of}
use Rattle.fj_meaning.specs.Transfers.{layout_of, refusal}
use Rattle.fj_meaning.specs.Connecting.{file_due, keeps_name}
use Rattle.fj_meaning_jobs.specs.Core.{Core, Connected, connected_at}
use Rattle.fj_meaning_jobs.specs.Desks.{most_slots}
use Rattle.fj_meaning_jobs.specs.Doing.{Doing, finishes}
use Rattle.fj_meaning_jobs.specs.Acting.{transferred, refused, unless_refused, on_unit, keeps, detaches, closes, closes_anyway, all_closed, free_from, changes, is_taken, attaches, connects_at, connects, closes_first, opens_with, opens_unit, if_numbered, unit_at, own, instead, doing}
use Rattle.fj_meaning_jobs.proofs.Opening.{FreeSlot, free_found}

-- a fact of whatever it does
module _ (P : Doing → Type 0) where
  pub either : (b : Bool) (x y : Doing) → P x → P y → P (if b then x else y)
  either true x y h k = h
  either false x y h k = k

  -- READ and WRITE on a unit
  pub unit_by : (control : ℕ → List Given) (variables : List Variable) (line : ℕ) (core : Core) (t : Transfer) (moved : Moved) (o : Option Connected) → ((condition : Condition) → P (refused variables core t moved condition))
      → ((u : Connected) → o ≡ Some u → P (transferred control variables line core t moved u)) → P (on_unit control variables line core t moved o)
  unit_by control variables line core t moved None ends f = ends (Error 1)
  unit_by control variables line core t moved (Some u) ends f = by (refusal u.modes t (layout_of variables moved.cells t.control))
    where
      by : (c : Condition) → P (unless_refused control variables line core t moved u c)
      by Fine = f u refl
      by EndOfFile = ends EndOfFile
      by EndOfRecord = ends EndOfRecord
      by (Error n) = ends (Error n)

  -- CLOSE
  pub closes_by : (core : Core) (keep : Option Bool) (o : Option Connected) → ((condition : Condition) → P (finishes core condition))
      → ((u : Connected) → o ≡ Some u → P (detaches core u (unwrap_or keep (keeps u)) (λ new. finishes new Fine))) → P (closes core keep o)
  closes_by core keep None ends f = ends Fine
  closes_by core keep (Some u) ends f = either (unwrap_or keep false && u.modes.scratch) _ _ (ends (Error 4)) (f u refl)

  pub anyway_by : (core : Core) (keep : Option Bool) (condition : Condition) (o : Option Connected) → P (finishes core condition)
      → ((u : Connected) → o ≡ Some u → P (detaches core u (keeps u && unwrap_or keep true) (λ new. finishes new condition))) → P (closes_anyway core keep condition o)
  anyway_by core keep condition None ends f = ends
  anyway_by core keep condition (Some u) ends f = f u refl

  -- OPEN, at a slot that no unit has
  pub connects_by : (core : Core) (number : ℕ) (spec : OpenSpec) (modes : Modes) → ((condition : Condition) → P (finishes core condition))
      → ((slot : ℕ) (c : Connection) → FreeSlot core.units 0 most_slots slot → opened_file (core.files (file_due spec number)) (file_due spec number) spec modes ≡ Ok c → P (attaches core number slot (Ok c))) → P (connects number spec modes core)
  connects_by core number spec modes ends f = by (free_from core.units 0 most_slots) refl
    where
      opened : (slot : ℕ) → FreeSlot core.units 0 most_slots slot → (r : Result Connection Condition) → opened_file (core.files (file_due spec number)) (file_due spec number) spec modes ≡ r → P (attaches core number slot r)
      opened slot free (Err condition) e = ends condition
      opened slot free (Ok c) e = f slot c free e

      by : (o : Option ℕ) → free_from core.units 0 most_slots ≡ o → P (connects_at number spec modes core o)
      by None e = ends (Error 9)
      by (Some slot) e = opened slot (free_found core.units 0 most_slots slot e) (opened_file (core.files (file_due spec number)) (file_due spec number) spec modes) refl

  -- nothing is done, or other modes, or a new connection, or one for another
  pub open_by : (core : Core) (ref : UnitRef) (spec : OpenSpec) (number : Option ℕ) → ((condition : Condition) → P (finishes core condition))
      → ((n : ℕ) (u : Connected) (modes : Modes) → number ≡ Some n → connected_at core.units n ≡ Some u → P (changes core u (Ok modes)))
      → ((n : ℕ) (modes : Modes) → number ≡ Some n → connected_at core.units n ≡ None → P (connects n spec modes core))
      → ((n : ℕ) (u : Connected) (modes : Modes) → number ≡ Some n → connected_at core.units n ≡ Some u → keeps_name u.name spec spec.file ≡ false → P (detaches core u (keeps u) (connects n spec modes)))
      → P (if_numbered core number (λ n. opens_unit core ref n spec (connected_at core.units n)))
  open_by core ref spec None ends other new first = ends (Error 1)
  open_by core ref spec (Some n) ends other new first = by (connected_at core.units n) refl
    where
      opened : (old : Option Connected) (r : Result Modes Condition) → ((modes : Modes) → P (closes_first core old (connects n spec modes))) → P (opens_with core n spec old r)
      opened old (Err condition) f = ends condition
      opened old (Ok modes) f = either (is_taken core n (file_due spec n)) _ _ (ends (Error 7)) (f modes)

      changed : (u : Connected) → connected_at core.units n ≡ Some u → (r : Result Modes Condition) → P (changes core u r)
      changed u e (Err condition) = ends condition
      changed u e (Ok modes) = other n u modes refl e

      same : (u : Connected) → connected_at core.units n ≡ Some u → (k : Bool) → keeps_name u.name spec spec.file ≡ k → P (if k then changes core u (mode.changed u.modes spec) else opens_with core n spec (Some u) (settled spec))
      same u e true is = changed u e (mode.changed u.modes spec)
      same u e false is = opened (Some u) (settled spec) (λ modes. first n u modes refl e is)

      by : (o : Option Connected) → connected_at core.units n ≡ o → P (opens_unit core ref n spec o)
      by None e = either (is_outside ref) _ _ (ends (Error 3)) (opened None (settled spec) (λ modes. new n modes refl e))
      by (Some u) e = same u e (keeps_name u.name spec spec.file) refl

  -- its own, or what is done in its place where a condition of a transfer was told
  pub doing_by : (control : ℕ → List Given) (variables : List Variable) (line : ℕ) (core : Core) (st : Statement) → P (own control variables line core st)
      → ((vars : Variables) (condition : Condition) → P (finishes (record core { vars = vars }) condition))
      → ((u : UnitRef) (keep : Option Bool) (iostat : Option Place) (condition : Condition) → st ≡ statement.CloseUnit u keep iostat → P (closes_anyway core keep condition (unit_at core (number_of u))))
      → ((condition : Condition) → st ≡ statement.End → P (all_closed core.units core condition)) → (condition : Condition) → P (doing control variables line core st condition)
  doing_by control variables line core st owns ends anyway all = by
    where
      behind : (st : Statement) (condition : Condition) → ((u : UnitRef) (keep : Option Bool) (iostat : Option Place) → st ≡ statement.CloseUnit u keep iostat → P (closes_anyway core keep condition (unit_at core (number_of u))))
          → (st ≡ statement.End → P (all_closed core.units core condition)) → P (instead variables core st condition)
      behind (statement.Assign to from) condition f g = ends core.vars condition
      behind (statement.OpenUnit u spec iostat) condition f g = ends core.vars condition
      behind (statement.CloseUnit u keep iostat) condition f g = f u keep iostat refl
      behind (statement.WaitFor u id iostat) condition f g = ends core.vars condition
      behind (statement.Move how u iostat) condition f g = ends core.vars condition
      behind (statement.Inquire subject asked id iostat _) condition f g = ends _ condition
      behind (statement.Transfer t) condition f g = ends _ condition
      behind statement.End condition f g = g refl

      told : (condition : Condition) → P (instead variables core st condition)
      told condition = behind st condition (λ u keep iostat. anyway u keep iostat condition) (all condition)

      by : (condition : Condition) → P (doing control variables line core st condition)
      by Fine = owns
      by EndOfFile = told EndOfFile
      by EndOfRecord = told EndOfRecord
      by (Error n) = told (Error n)
