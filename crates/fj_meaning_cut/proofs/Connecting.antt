-- A file that a statement connects is the one that it opens.
use Rattle.std.proofs.Common.{◌≡◌, ℕ, ℤ, Bool, false, List, [], ◌∷◌, Option, Some, None, slice_get, sym, ap, ◌∙◌, subst}
use Rattle.std.specs.Prelude.{if◌then◌else◌, unwrap_or, option_map, option_and_then, Result, Ok, Err}
use Rattle.std.specs.List.{list_any}
use Rattle.fj_value.specs.declared.condition.Condition.{Condition}
use Rattle.fj_value.specs.declared.condition.Condition.TheVariants.{Fine}
use Rattle.fj_modes.specs.declared.modes.Modes.{Modes}
use Rattle.fj_modes.specs.declared.specifiers.OpenSpec.{OpenSpec}
use Rattle.fj_modes.specs.declared.specifiers.FileStatus.TheVariants.{Unknown}
use Rattle.fj_modes.specs.declared.asked.Wanted.{Wanted}
use Rattle.fj_modes.specs.declared.motion.Motion.{Motion}
use Rattle.fj_modes.specs.declared.motion.Motion.TheVariants as motion
use Rattle.fj_statement.specs.declared.unit.UnitRef.{UnitRef}
use Rattle.fj_statement.specs.declared.unit.UnitRef.TheVariants as unit
use Rattle.fj_moved.specs.declared.moved.Moved.{Moved}
use Rattle.fj_control.specs.Steps.{Given}
use Rattle.fj_connect.specs.Connection.{Connection}
use Rattle.fj_connect.specs.Opening.{bytes_opened, connected, connected_to}
use Rattle.fj_statement.specs.declared.deck.Variable.{Variable}
use Rattle.fj_statement.specs.declared.statement.Statement.{Statement}
use Rattle.fj_statement.specs.declared.statement.Statement.TheVariants as statement
use Rattle.fj_statement.specs.declared.statement.Transfer.{Transfer}
use Rattle.fj_bay.specs.Halt.{halts}
use Rattle.fj_bay.specs.Jobs.{Job, attach}
use Rattle.fj_meaning.specs.Needs.{number_of, number_given, unit_about}
use Rattle.fj_meaning.specs.State.{Entry}
use Rattle.fj_meaning.specs.Telling.{is_asynchronous, condition_of}
use Rattle.fj_meaning.specs.Transfers.{moved_in}
use Rattle.fj_meaning.specs.Connecting.{file_due, keeps_name}
use Rattle.fj_meaning.specs.Statement.{Stated, file_asked}
use Rattle.fj_meaning_jobs.specs.Core.{Core, Connected, connected_at, unit_named}
use Rattle.fj_meaning_jobs.specs.Desks.{Desk, Outcome, carry, log_length}
use Rattle.fj_meaning_jobs.specs.Desks as desks
use Rattle.fj_meaning_jobs.specs.Desking.{told_core}
use Rattle.fj_meaning_jobs.specs.Doing.{Doing, finishes, gives, awaits}
use Rattle.fj_meaning_jobs.specs.Acting.{finishes_behind, transferred, transfer_at, keeps, disconnected, came_out, closes, closes_anyway, all_closed, connects, opens_unit, moves, asks_connection, inquires, if_numbered, unit_at, own, doing}
use Rattle.fj_meaning_jobs.proofs.Walking.{either, unit_by, closes_by, anyway_by, connects_by, open_by, doing_by}
use Rattle.fj_meaning_turns.specs.Turns.{halted_slots, ends_halts, doing_told}
use Rattle.fj_meaning_turns.specs.Inside.{walked}
use Rattle.fj_meaning_cut.specs.Others.{Names, names_of, opens_on, file_opened, file_about}
use Rattle.fj_meaning_cut.proofs.Points.{at_point}

-- the file of OPEN
pub named_due : (modes : Modes) (name : List ℕ) (r : Result (List ℕ) Condition) (c : Connection) → connected_to modes name r ≡ Ok c → c.name ≡ name
named_due modes name (Err condition) c e = cc
named_due modes name (Ok bytes) c e = let same : connected modes name bytes ≡ c = cc in ap (λ (x : Connection). x.name) (sym same)

-- of a unit that is not connected, and of one that is connected to another
pub opens_new : (us : List Connected) (number : Option ℕ) (spec : OpenSpec) (n : ℕ) → number ≡ Some n → connected_at us n ≡ None → option_and_then (λ m. opens_on (names_of us m) spec m) number ≡ Some (file_due spec n)
opens_new us number spec n is e = ap (option_and_then (λ m. opens_on (names_of us m) spec m)) is ∙ ap (λ (o : Option Connected). opens_on (option_map (λ (x : Connected). x.name) o) spec n) e

pub opens_other : (us : List Connected) (number : Option ℕ) (spec : OpenSpec) (n : ℕ) (u : Connected) → number ≡ Some n → connected_at us n ≡ Some u → keeps_name u.name spec spec.file ≡ false
    → option_and_then (λ m. opens_on (names_of us m) spec m) number ≡ Some (file_due spec n)
opens_other us number spec n u is e other =
    ap (option_and_then (λ m. opens_on (names_of us m) spec m)) is
    ∙ ap (λ (o : Option Connected). opens_on (option_map (λ (x : Connected). x.name) o) spec n) e
    ∙ ap (λ k. if k then None else Some (file_due spec n)) other

-- a name of the files that may be connected
module _ (Q : List ℕ → Type 0) where
  abbrev OfBrought : Option Connection → Type 0
  OfBrought None = Unit {0}
  OfBrought (Some c) = Q c.name

  abbrev OfJob : Job → Type 0
  OfJob (attach brought) = OfBrought brought
  OfJob _ = Unit {0}

  -- each file that it connects is one of them
  abbrev pub Connects : Doing → Type 0
  Connects (finishes core condition) = Unit {0}
  Connects (gives slot job core next) = (number : ℕ) → Connects (next number)
  Connects (awaits slot job core next) = OfJob job × ((o : Outcome) → Connects (next o))

  pub connects_at_point : (jobs : ℕ) (ds : List Desk) (d : Doing) → Connects d → Connects (walked jobs ds d).1
  connects_at_point = at_point (λ ds d. Connects d) (λ ds slot job core next h. h (log_length (slice_get ds slot))) (λ ds slot job core next h. h.1 (desks.outcome ds slot job))

  -- ---- READ and WRITE

  behind_connects : (u : Connected) (core : Core) (condition : Condition) → Connects (finishes_behind u core condition)
  behind_connects u core condition = either Connects (halts condition) _ _ (λ number. tt) tt

  transferred_connects : (control : ℕ → List Given) (variables : List Variable) (line : ℕ) (core : Core) (t : Transfer) (moved : Moved) (u : Connected) → Connects (transferred control variables line core t moved u)
  transferred_connects control variables line core t moved u = either Connects (is_asynchronous t) _ _ (λ number. tt) (tt, λ o. behind_connects u _ _)

  transfer_connects : (control : ℕ → List Given) (variables : List Variable) (line : ℕ) (core : Core) (t : Transfer) (moved : Moved) (ref : UnitRef) → Connects (transfer_at control variables line core t moved ref)
  transfer_connects control variables line core t moved unit.Star = tt
  transfer_connects control variables line core t moved (unit.Internal file) = tt
  transfer_connects control variables line core t moved (unit.Number n) =
      unit_by Connects control variables line core t moved (connected_at core.units n) (λ condition. tt) (λ u e. transferred_connects control variables line core t moved u)
  transfer_connects control variables line core t moved (unit.Held place n) =
      unit_by Connects control variables line core t moved (connected_at core.units n) (λ condition. tt) (λ u e. transferred_connects control variables line core t moved u)
  transfer_connects control variables line core t moved (unit.New place n) =
      unit_by Connects control variables line core t moved (connected_at core.units n) (λ condition. tt) (λ u e. transferred_connects control variables line core t moved u)

  -- ---- CLOSE and END

  closes_connect : (core : Core) (keep : Option Bool) (o : Option Connected) → Connects (closes core keep o)
  closes_connect core keep o = closes_by Connects core keep o (λ condition. tt) (λ u e. (tt, λ o. either Connects (came_out u o) _ _ tt tt))

  anyway_connect : (core : Core) (keep : Option Bool) (condition : Condition) (o : Option Connected) → Connects (closes_anyway core keep condition o)
  anyway_connect core keep condition o = anyway_by Connects core keep condition o tt (λ u e. (tt, λ o. either Connects (came_out u o) _ _ tt tt))

  end_connects : (us : List Connected) (core : Core) (condition : Condition) → Connects (all_closed us core condition)
  end_connects [] core condition = tt
  end_connects (u ∷ us) core condition = (tt, λ o. either Connects (came_out u o) _ _ (end_connects us (disconnected core u (keeps u) o) condition) tt)

  -- ---- OPEN

  connects_connect : (core : Core) (number : ℕ) (spec : OpenSpec) (modes : Modes) → Q (file_due spec number) → Connects (connects number spec modes core)
  connects_connect core number spec modes q = connects_by Connects core number spec modes (λ condition. tt)
      (λ slot c free e. (subst Q (sym (named_due modes (file_due spec number) (bytes_opened (unwrap_or spec.status Unknown) (core.files (file_due spec number))) c e)) q, λ o. tt))

  open_connects : (core : Core) (ref : UnitRef) (number : Option ℕ) (spec : OpenSpec) → ((name : List ℕ) → option_and_then (λ n. opens_on (names_of core.units n) spec n) number ≡ Some name → Q name)
      → Connects (if_numbered core number (λ n. opens_unit core ref n spec (connected_at core.units n)))
  open_connects core ref number spec h =
      open_by Connects core ref spec number (λ condition. tt) (λ n u modes is e. (tt, λ o. tt)) (λ n modes is e. connects_connect core n spec modes (h (file_due spec n) (opens_new core.units number spec n is e)))
      (λ n u modes is e other. (tt, λ o. either Connects (came_out u o) _ _ (connects_connect (disconnected core u (keeps u) o) n spec modes (h (file_due spec n) (opens_other core.units number spec n u is e other))) tt))

  -- ---- the motions, INQUIRE

  moves_connect : (core : Core) (how : Motion) (o : Option Connected) → Connects (moves core how o)
  moves_connect core how None = tt
  moves_connect core motion.Flush (Some u) = (tt, λ o. tt)
  moves_connect core motion.Backspace (Some u) = (tt, λ o. tt)
  moves_connect core motion.Rewind (Some u) = (tt, λ o. tt)
  moves_connect core motion.Endfile (Some u) = (tt, λ o. tt)

  inquires_connect : (variables : List Variable) (core : Core) (number : Option ℕ) (file : Option (List ℕ)) (asked : List Wanted) (id : Option ℤ) (o : Option Connected) → Connects (inquires variables core number file asked id o)
  inquires_connect variables core number file asked id None = tt
  inquires_connect variables core number file asked id (Some u) = either Connects (list_any (λ (w : Wanted). asks_connection w.what) asked) _ _ (tt, λ o. tt) tt

  -- ---- each kind of statement

  module _ (control : ℕ → List Given) (variables : List Variable) (line : ℕ) (core : Core) where
    own_connects : (st : Statement) → ((name : List ℕ) → file_opened (names_of core.units) st ≡ Some name → Q name) → Connects (own control variables line core st)
    own_connects (statement.Assign to from) h = tt
    own_connects (statement.OpenUnit u spec iostat) h = open_connects core u (number_of u) spec h
    own_connects (statement.CloseUnit u keep iostat) h = closes_connect core keep (unit_at core (number_of u))
    own_connects (statement.WaitFor u id iostat) h = tt
    own_connects (statement.Move how u iostat) h = moves_connect core how (unit_at core (number_of u))
    own_connects (statement.Inquire subject asked id iostat _) h =
        let number = unit_about (unit_named core.units) subject in inquires_connect variables core number (file_asked subject) asked (number_given core.vars id) (unit_at core number)
    own_connects (statement.Transfer t) h = transfer_connects control variables line core t (moved_in variables core.vars t) t.unit
    own_connects statement.End h = end_connects core.units core Fine

    doing_connects : (st : Statement) (condition : Condition) → ((name : List ℕ) → file_opened (names_of core.units) st ≡ Some name → Q name) → Connects (doing control variables line core st condition)
    doing_connects st condition h =
        doing_by Connects control variables line core st (own_connects st h) (λ vars condition. tt) (λ u keep iostat condition is. anyway_connect core keep condition (unit_at core (number_of u)))
        (λ condition is. end_connects core.units core condition) condition

  halts_connect : (slots : List ℕ) (core : Core) (next : Doing) → Connects next → Connects (ends_halts slots core next)
  halts_connect [] core next h = h
  halts_connect (slot ∷ slots) core next h = λ number. halts_connect slots core next h

  pub told_connects : (variables : List Variable) (st : Stated) (told : List Entry) (core : Core) → ((name : List ℕ) → file_opened (names_of core.units) st.0.what ≡ Some name → Q name) → Connects (doing_told variables st told core)
  told_connects variables st told core h =
      let new : Core = told_core variables st.0.line told core in
      halts_connect (halted_slots told core.units) new _ (doing_connects st.1 variables st.0.line new st.0.what (condition_of told) h)

  -- where it waits to connect one
  pub connects_one : (d : Doing) → Connects d → (slot : ℕ) (c : Connection) (core : Core) (next : Outcome → Doing) → d ≡ awaits slot (attach (Some c)) core next → Q c.name
  connects_one d h slot c core next e = (subst Connects e h).0

-- what is opened the statement is about
pub opened_about : (names : Names) (st : Statement) (name : List ℕ) → file_opened names st ≡ Some name → file_about names st ≡ Some name
opened_about names (statement.Assign to from) name e = cc
opened_about names (statement.OpenUnit u spec iostat) name e = e
opened_about names (statement.CloseUnit u keep iostat) name e = cc
opened_about names (statement.WaitFor u id iostat) name e = cc
opened_about names (statement.Move how u iostat) name e = cc
opened_about names (statement.Inquire subject asked id iostat _) name e = cc
opened_about names (statement.Transfer t) name e = cc
opened_about names statement.End name e = cc
