-- What becomes of a statement's condition: IOSTAT= gets its number, or it ends the deck (ISO/IEC 1539-1:2004, 9.10.4); and where it comes from.
use Rattle.std.specs.Prelude.{◌≡◌, ◌≢◌, ℕ, ℤ, pos, negsuc, Bool, List, Option, Some, None}
use Rattle.std.specs.List.{All}
use Rattle.fj_value.specs.declared.condition.Condition.{Condition}
use Rattle.fj_value.specs.declared.condition.Condition.TheVariants.{Fine, EndOfFile, EndOfRecord, Error}
use Rattle.fj_value.specs.declared.place.Place.{Place}
use Rattle.fj_value.specs.declared.value.Value.{Value}
use Rattle.fj_value.specs.declared.value.Value.TheVariants as value
use Rattle.fj_statement.specs.declared.deck.Variable.{Variable}
use Rattle.fj_statement.specs.declared.unit.UnitRef.{UnitRef}
use Rattle.fj_statement.specs.declared.statement.Statement.{Statement}
use Rattle.fj_statement.specs.declared.statement.Statement.TheVariants as statement
use Rattle.fj_book.specs.Prohibitions.{prohibited}
use Rattle.fj_store.specs.Kinds.{of_kind}
use Rattle.fj_store.specs.Tables.{element_at}
use Rattle.fj_meaning.specs.Items.{kind_of}
use Rattle.fj_meaning.specs.Needs.{need, holders}
use Rattle.fj_meaning.specs.State.{State, Entry}
use Rattle.fj_meaning.specs.Telling.{waited, condition_of, after_tells}
use Rattle.fj_meaning.specs.Statement.{Stated, Ending, ended, error_stop, step, own}
use Rattle.fj_meaning.specs.UnitLaws.{connections}
use Rattle.fj_meaning_laws.specs.Naming.{HasStatus}

-- the number of a condition (those of errors are the processor's)
pub data IsCode : Condition → ℤ → Type 0 where
  fine : IsCode Fine (pos 0)
  file_ended : IsCode EndOfFile (negsuc 0)
  record_ended : IsCode EndOfRecord (negsuc 1)
  error : {n : ℕ} → IsCode (Error n) (pos n)

-- CLOSE and END close whatever was told
pub data Closes : Statement → Type 0 where
  by_close : {u : UnitRef} {keep : Option Bool} {status : Option Place} → Closes (statement.CloseUnit u keep status)
  by_end : Closes statement.End

-- connections, files, output, identifiers and numbers of units are as before
pub record IsUntouched (s after : State) : Type 0 where
  pub units : connections after ≡ connections s
  pub files : after.files ≡ s.files
  pub output : after.output ≡ s.output
  pub next : (after.next ≡ s.next) × (after.new_unit ≡ s.new_unit)

-- A condition that is told is the statement's, and its action is left out; else it is that of its action. What stands at the place of IOSTAT= then is
-- its number, as the kind of the variable has it. Without IOSTAT= it ends the deck in error, whichever it is, unless it is fine; and END ends it.
pub record Concludes (variables : List Variable) (st : Stated) (s : State) : Type 0 where
  pub condition : Condition
  pub code : ℤ
  pub is_code : IsCode condition code
  pub told : condition_of (waited s st.0.what) ≢ Fine →
      (condition ≡ condition_of (waited s st.0.what)) × ((Closes st.0.what → ⊥) → IsUntouched s (step variables st s).0)
  pub own : condition_of (waited s st.0.what) ≡ Fine →
      condition ≡ (own st.1 variables (after_tells variables st.0.line (waited s st.0.what) s) st.0.what).1
  pub caught : (p : Place) → HasStatus st.0.what p → ((step variables st s).1 ≡ None)
      × ((v : Value) → element_at (step variables st s).0.vars p ≡ Some v → v ≡ of_kind (kind_of variables p.var) (value.Int code))
  pub uncaught : ((p : Place) → HasStatus st.0.what p → ⊥) → condition ≢ Fine → (step variables st s).1 ≡ Some (error_stop st.0.line code)
  pub ends : condition ≡ Fine → ((st.0.what ≡ statement.End → ⊥) → (step variables st s).1 ≡ None) × (st.0.what ≡ statement.End → (step variables st s).1 ≡ Some ended)

abbrev pub ConditionsConclude : Type 0
ConditionsConclude = (variables : List Variable) (st : Stated) (s : State) →
    prohibited s.vars (holders s.book) (need variables s st.0.what) ≡ None → Concludes variables st s
