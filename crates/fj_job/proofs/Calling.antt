-- Statements that learn of no fault of the disk, and those that leave the files that no unit has.
use Rattle.std.proofs.Common.{◌≡◌, inl, inr, ℕ, Bool, true, false, ◌||◌, List, Option, Some, None, is_none, refl, sym, ap, ◌∙◌}
use Rattle.std.specs.Prelude.{if◌then◌else◌}
use Rattle.fj_value.specs.declared.condition.Condition.{Condition}
use Rattle.fj_value.specs.declared.condition.Condition.TheVariants.{Fine, EndOfFile, EndOfRecord, Error}
use Rattle.fj_value.specs.declared.condition.Rule.{Rule}
use Rattle.fj_modes.specs.declared.motion.Motion.{Motion}
use Rattle.fj_modes.specs.declared.motion.Motion.TheVariants as motion
use Rattle.fj_statement.specs.declared.unit.UnitRef.{UnitRef}
use Rattle.fj_statement.specs.declared.unit.UnitRef.TheVariants as unit
use Rattle.fj_control.specs.Steps.{Given}
use Rattle.fj_moved.specs.declared.moved.Moved.{Moved}
use Rattle.fj_statement.specs.declared.deck.Variable.{Variable}
use Rattle.fj_statement.specs.declared.statement.Transfer.{Transfer}
use Rattle.fj_statement.specs.declared.statement.Statement.{Statement}
use Rattle.fj_statement.specs.declared.statement.Statement.TheVariants as statement
use Rattle.fj_book.specs.Prohibitions.{prohibited}
use Rattle.fj_meaning.specs.Needs.{need, holders, number_of}
use Rattle.fj_meaning.specs.State.{State, Files, Unit, found}
use Rattle.fj_meaning.specs.Statement.{own, instead, acts, goes_on, step}
use Rattle.fj_meaning.specs.Telling.{is_asynchronous, after_tells, waited, condition_of}
use Rattle.fj_meaning.specs.Transfers.{moved_by, transferred, unless_refused, on_unit, transfer_at}
use Rattle.fj_meaning.specs.Connecting.{moves}
use Rattle.fj_meaning_cut.specs.Awaiting.{WaitsAt}
use Rattle.fj_run_statements.specs.Calling.{calls_disk}
use Rattle.fj_job.specs.Faulting.{does_without_file, SomeLearnNothing, OthersLeaveFiles}

-- ---- no fault is learnt there

no_number : (u : UnitRef) (number : ℕ) → is_none (number_of u) ≡ true → number_of u ≡ Some number → ⊥
no_number unit.Star number none e = cc
no_number (unit.Number n) number none e = cc
no_number (unit.Held place n) number none e = cc
no_number (unit.New place n) number none e = cc
no_number (unit.Internal file) number none e = cc

waits_nowhere : (s : State) (what : Statement) (number : ℕ) → does_without_file what ≡ true → WaitsAt s what number → ⊥
waits_nowhere s (statement.Assign to from) number e w = w
waits_nowhere s (statement.OpenUnit u spec iostat) number e w = cc
waits_nowhere s (statement.CloseUnit u keep iostat) number e w = cc
waits_nowhere s (statement.WaitFor u id iostat) number e w = cc
waits_nowhere s (statement.Move how u iostat) number e w = cc
waits_nowhere s (statement.Inquire about asked id iostat _) number e w = cc
waits_nowhere s (statement.Transfer t) number e w = no_number t.unit number (sym (ap (λ b. b || is_none (number_of t.unit)) w.0) ∙ e) w.1
waits_nowhere s statement.End number e w = cc

calls_nothing : (what : Statement) → does_without_file what ≡ true → calls_disk what ≡ true → ⊥
calls_nothing (statement.Assign to from) e c = cc
calls_nothing (statement.OpenUnit u spec iostat) e c = cc
calls_nothing (statement.CloseUnit u keep iostat) e c = cc
calls_nothing (statement.WaitFor u id iostat) e c = cc
calls_nothing (statement.Move how u iostat) e c = cc
calls_nothing (statement.Inquire about asked id iostat _) e c = cc
calls_nothing (statement.Transfer t) e c = cc
calls_nothing statement.End e c = cc

pub learn_nothing : SomeLearnNothing
learn_nothing deck files comes left before now e (inl it) = waits_nowhere comes.before comes.statement.0.what it.unit.number e it.unit.waits
learn_nothing deck files comes left before now e (inr (called, rose)) = calls_nothing comes.statement.0.what e called

-- ---- files that no unit has

either : (b : Bool) (x y : State × Condition) (files : Files) → x.0.files ≡ files → y.0.files ≡ files → (if b then x else y).0.files ≡ files
either true x y files e f = e
either false x y files e f = f

module _ (control : ℕ → List Given) (variables : List Variable) (s : State) where
  moves_leave : (how : Motion) (old : Option Unit) → (moves s how old).0.files ≡ s.files
  moves_leave how None = refl
  moves_leave motion.Flush (Some u) = refl
  moves_leave motion.Backspace (Some u) = refl
  moves_leave motion.Rewind (Some u) = refl
  moves_leave motion.Endfile (Some u) = refl

  transferred_leaves : (t : Transfer) (m : Moved) (u : Unit) → (transferred control variables s t m u).0.files ≡ s.files
  transferred_leaves t m u = either (is_asynchronous t) _ _ _ refl refl

  refused_leaves : (t : Transfer) (m : Moved) (u : Unit) (condition : Condition) → (unless_refused control variables s t m u condition).0.files ≡ s.files
  refused_leaves t m u Fine = transferred_leaves t m u
  refused_leaves t m u EndOfFile = refl
  refused_leaves t m u EndOfRecord = refl
  refused_leaves t m u (Error n) = refl

  unit_leaves : (t : Transfer) (m : Moved) (old : Option Unit) → (on_unit control variables s t m old).0.files ≡ s.files
  unit_leaves t m None = refl
  unit_leaves t m (Some u) = refused_leaves t m u _

  transfer_leaves : (t : Transfer) (m : Moved) (ref : UnitRef) → (transfer_at control variables s t m ref).0.files ≡ s.files
  transfer_leaves t m unit.Star = refl
  transfer_leaves t m (unit.Internal file) = refl
  transfer_leaves t m (unit.Number n) = unit_leaves t m (found s.units n)
  transfer_leaves t m (unit.Held place n) = unit_leaves t m (found s.units n)
  transfer_leaves t m (unit.New place n) = unit_leaves t m (found s.units n)

  own_leaves : (what : Statement) → calls_disk what ≡ false → (own control variables s what).0.files ≡ s.files
  own_leaves (statement.Assign to from) e = refl
  own_leaves (statement.OpenUnit u spec iostat) e = cc
  own_leaves (statement.CloseUnit u keep iostat) e = cc
  own_leaves (statement.WaitFor u id iostat) e = refl
  own_leaves (statement.Move how unit.Star iostat) e = refl
  own_leaves (statement.Move how (unit.Number n) iostat) e = moves_leave how (found s.units n)
  own_leaves (statement.Move how (unit.Held place n) iostat) e = moves_leave how (found s.units n)
  own_leaves (statement.Move how (unit.New place n) iostat) e = moves_leave how (found s.units n)
  own_leaves (statement.Move how (unit.Internal file) iostat) e = refl
  own_leaves (statement.Inquire about asked id iostat _) e = refl
  own_leaves (statement.Transfer t) e = transfer_leaves t (moved_by variables s t) t.unit
  own_leaves statement.End e = cc

  instead_leaves : (what : Statement) → calls_disk what ≡ false → (instead variables s what).files ≡ s.files
  instead_leaves (statement.Assign to from) e = refl
  instead_leaves (statement.OpenUnit u spec iostat) e = refl
  instead_leaves (statement.CloseUnit u keep iostat) e = cc
  instead_leaves (statement.WaitFor u id iostat) e = refl
  instead_leaves (statement.Move how u iostat) e = refl
  instead_leaves (statement.Inquire about asked id iostat _) e = refl
  instead_leaves (statement.Transfer t) e = refl
  instead_leaves statement.End e = cc

  acts_leave : (what : Statement) (condition : Condition) → calls_disk what ≡ false → (acts control variables s what condition).0.files ≡ s.files
  acts_leave what Fine e = own_leaves what e
  acts_leave what EndOfFile e = instead_leaves what e
  acts_leave what EndOfRecord e = instead_leaves what e
  acts_leave what (Error n) e = instead_leaves what e

goes_leave : (control : ℕ → List Given) (variables : List Variable) (line : ℕ) (what : Statement) (s : State) (rule : Option Rule) → calls_disk what ≡ false
    → (goes_on control variables line what s rule).0.files ≡ s.files
goes_leave control variables line what s (Some rule) e = refl
goes_leave control variables line what s None e = acts_leave control variables (after_tells variables line (waited s what) s) what (condition_of (waited s what)) e

pub leave_files : OthersLeaveFiles
unfolding step
leave_files variables st s e = goes_leave st.1 variables st.0.line st.0.what s (prohibited s.vars (holders s.book) (need variables s st.0.what)) e
