-- What READ and WRITE do, as jobs and how the statement goes on.
use Rattle.std.proofs.Common.{◌≡◌, ◌⊎◌, inl, inr, ℕ, Bool, true, false, List, [], Option, Some, None, Result, Ok, Err, IfOk, refl, sym, ap, subst, append-nil, ◌∙◌}
use Rattle.std.specs.Prelude.{if◌then◌else◌, OnErr}
use Rattle.fj_statement.specs.declared.unit.InternalFile.{InternalFile}
use Rattle.fj_statement.specs.declared.unit.UnitRef.{UnitRef}
use Rattle.fj_statement.specs.declared.unit.UnitRef.TheVariants as unit
use Rattle.fj_run_items.specs.Handing.{HandsFront, whole_records}
use Rattle.fj_run_items.specs.declared.lost.Lost.{Lost}
use Rattle.fj_value.specs.declared.place.Place.{Place}
use Rattle.fj_value.specs.declared.condition.Condition.{Condition}
use Rattle.fj_value.specs.declared.condition.Condition.TheVariants.{Fine, EndOfFile, EndOfRecord, Error}
use Rattle.fj_control.specs.Steps.{Given}
use Rattle.fj_moved.specs.declared.moved.Moved.{Moved}
use Rattle.fj_statement.specs.declared.deck.Variable.{Variable}
use Rattle.fj_statement.specs.declared.statement.Statement.{Statement}
use Rattle.fj_statement.specs.declared.statement.Statement.TheVariants as statement
use Rattle.fj_statement.specs.declared.statement.Transfer.{Transfer}
use Rattle.fj_transfer.specs.declared.transfer.Transfer.{Transfer as Job}
use Rattle.fj_bay.specs.Halt.{halts}
use Rattle.fj_bay.specs.Jobs.{move, resume}
use Rattle.fj_bay.specs.Plain.{moving_of as task_of}
use Rattle.fj_bay.specs.declared.job.Job.TheVariants as job
use Rattle.fj_store.specs.Storage.{Storage, values_of}
use Rattle.fj_meaning.specs.State.{Files, Output}
use Rattle.fj_meaning.specs.Statement.{Stated, control_by}
use Rattle.fj_meaning.specs.Transfers.{moved_in, without_values, refusal, layout_of}
use Rattle.fj_meaning.specs.Telling.{is_asynchronous}
use Rattle.fj_meaning_jobs.specs.Core.{Core, Connected, connected_at}
use Rattle.fj_meaning_jobs.specs.Doing.{Doing, finishes, gives, awaits}
use Rattle.fj_meaning_jobs.specs.Acting.{transferred, moving_of, with_items_out, with_pending, carried_out, refused, unless_refused, on_unit, transfer_at}
use Rattle.fj_run_statements.specs.Doing.{IsDoing, pends, carries, ends_behind}
use Rattle.fj_run_statements.specs.State.{core_of, core_at}
use Rattle.fj_run_statements.specs.declared.state.Core.{Core as Kept}
use Rattle.fj_run_statements.specs.declared.doing.Given.TheVariants as given
use Rattle.fj_run_statements.specs.declared.doing.Then.TheVariants as then
use Rattle.fj_run_statements.specs.declared.doing.Doing.{Doing as Does}
use Rattle.fj_run_statements.specs.declared.doing.Doing.TheVariants as doing

abbrev at_once : (control : ℕ → List Given) (variables : List Variable) (line : ℕ) (core : Core) (t : Transfer) (moved : Moved) (u : Connected) → Doing
at_once control variables line core t moved u =
    awaits u.slot (move (moving_of control variables line 0 core.vars t moved)) (with_items_out variables core t moved) (carried_out variables core t moved u)

abbrev later : (control : ℕ → List Given) (variables : List Variable) (line : ℕ) (core : Core) (t : Transfer) (moved : Moved) (u : Connected) → Doing
later control variables line core t moved u =
    gives u.slot (move (moving_of control variables line core.next core.vars t moved)) (with_items_out variables core t moved)
    (λ number. finishes (with_pending variables core t moved u number) Fine)

by_kind : (control : ℕ → List Given) (variables : List Variable) (line : ℕ) (core : Core) (t : Transfer) (moved : Moved) (u : Connected) (b : Bool) → is_asynchronous t ≡ b
    → transferred control variables line core t moved u ≡ (if b then later control variables line core t moved u else at_once control variables line core t moved u)
by_kind control variables line core t moved u b e =
    ap (λ b. if b then later control variables line core t moved u else at_once control variables line core t moved u) e

pub gives_is : {F : Type 0} (told : F → Bool) (bytes : F → List ℕ) (control : ℕ → List Given) (variables : List Variable) (line : ℕ) (st : Stated) (core new : Core) (t : Transfer) (moved : Moved) (u : Connected) (unit slot : ℕ) (it : Job)
    → u.number ≡ unit → u.slot ≡ slot → st.0.what ≡ statement.Transfer t → is_asynchronous t ≡ true
    → task_of it ≡ moving_of control variables line core.next core.vars t moved → new ≡ with_items_out variables core t moved
    → IsDoing told bytes variables st new (doing.Gives slot (job.Move it) (given.Pends unit slot)) (transferred control variables line core t moved u)
gives_is told bytes control variables line st core new t moved u unit slot it number_is slot_is what_is is_later is_task is_new =
    let out : Core = with_items_out variables core t moved in
    record {
      task = move (task_of it);
      is = refl;
      gives =
          by_kind control variables line core t moved u true is_later
          ∙ ap (λ m. gives u.slot (move m) out (λ number. finishes (with_pending variables core t moved u number) Fine)) (sym is_task)
          ∙ ap (λ (what : Statement). gives u.slot (move (task_of it)) out (λ number. pends variables out what u.number u.slot number)) (sym what_is)
          ∙ ap (λ (c : Core). gives u.slot (move (task_of it)) c (λ number. pends variables c st.0.what u.number u.slot number)) (sym is_new)
          ∙ ap (λ s. gives s (move (task_of it)) new (λ number. pends variables new st.0.what u.number s number)) slot_is
          ∙ ap (λ n. gives slot (move (task_of it)) new (λ number. pends variables new st.0.what n slot number)) number_is;
    }

pub awaits_is : {F : Type 0} (told : F → Bool) (bytes : F → List ℕ) (control : ℕ → List Given) (variables : List Variable) (line : ℕ) (st : Stated) (core new : Core) (t : Transfer) (moved : Moved) (u : Connected) (slot : ℕ) (it : Job)
    → u.slot ≡ slot → st.0.what ≡ statement.Transfer t → is_asynchronous t ≡ false
    → task_of it ≡ moving_of control variables line 0 core.vars t moved → new ≡ with_items_out variables core t moved
    → IsDoing told bytes variables st new (doing.Awaits slot (job.Move it) (then.Carries slot)) (transferred control variables line core t moved u)
awaits_is told bytes control variables line st core new t moved u slot it slot_is what_is is_now is_task is_new =
    let out : Core = with_items_out variables core t moved in
    record {
      task = move (task_of it);
      is = refl;
      gives =
          by_kind control variables line core t moved u false is_now
          ∙ ap (λ m. awaits u.slot (move m) out (carried_out variables core t moved u)) (sym is_task)
          ∙ ap (λ (what : Statement). awaits u.slot (move (task_of it)) out (λ o. carries variables out what u.slot o)) (sym what_is)
          ∙ ap (λ (c : Core). awaits u.slot (move (task_of it)) c (λ o. carries variables c st.0.what u.slot o)) (sym is_new)
          ∙ ap (λ s. awaits s (move (task_of it)) new (λ o. carries variables new st.0.what s o)) slot_is;
    }

-- ---- behind a transfer

pub resumes_is : {F : Type 0} (told : F → Bool) (bytes : F → List ℕ) (variables : List Variable) (st : Stated) (core new : Core) (slot : ℕ) (condition : Condition)
    → halts condition ≡ true → new ≡ core → IsDoing told bytes variables st new (doing.Gives slot job.Resume (given.Finishes condition)) (ends_behind slot core condition)
resumes_is told bytes variables st core new slot condition is_halt is_new = record {
  task = resume;
  is = refl;
  gives =
      ap (λ b. if b then gives slot resume core (λ number. finishes core condition) else finishes core condition) is_halt
      ∙ ap (λ (c : Core). gives slot resume c (λ number. finishes c condition)) (sym is_new);
}

pub ends_is : (core new : Core) (slot : ℕ) (condition : Condition) → halts condition ≡ false → new ≡ core → ends_behind slot core condition ≡ finishes new condition
ends_is core new slot condition is_fine is_new =
    ap (λ b. if b then gives slot resume core (λ number. finishes core condition) else finishes core condition) is_fine
    ∙ ap (λ (c : Core). finishes c condition) (sym is_new)

-- ---- with what the program holds

out_of : (files : Files) (variables : List Variable) (old : Kept) (s : Storage) (t : Transfer) (moved : Moved) → values_of s ≡ without_values variables t moved (values_of old.store)
    → record (core_of files old) { vars = values_of s } ≡ with_items_out variables (core_of files old) t moved
out_of files variables old s t moved values = ap (λ v. (let r : Core = record (core_of files old) { vars = v } in r)) values

pub pends_is : {F : Type 0} (told : F → Bool) (bytes : F → List ℕ) (variables : List Variable) (line : ℕ) (st : Stated) (files : Files) (old : Kept) (s : Storage) (t : Transfer) (u : Connected) (unit slot : ℕ) (it : Job)
    → u.number ≡ unit → u.slot ≡ slot → st.0.what ≡ statement.Transfer t → true ≡ is_asynchronous t
    → task_of it ≡ moving_of (control_by (statement.Transfer t)) variables line old.next (values_of old.store) t (moved_in variables (values_of old.store) t)
    → values_of s ≡ without_values variables t (moved_in variables (values_of old.store) t) (values_of old.store)
    → IsDoing told bytes variables st (record (core_of files old) { vars = values_of s }) (doing.Gives slot (job.Move it) (given.Pends unit slot))
    (transferred (control_by (statement.Transfer t)) variables line (core_of files old) t (moved_in variables (values_of old.store) t) u)
pends_is told bytes variables line st files old s t u unit slot it number_is slot_is what_is is_later is_task values =
    let moved : Moved = moved_in variables (values_of old.store) t in
    gives_is told bytes (control_by (statement.Transfer t)) variables line st (core_of files old) (record (core_of files old) { vars = values_of s }) t moved u unit slot it number_is slot_is what_is (sym is_later) is_task
    (out_of files variables old s t moved values)

pub carries_is : {F : Type 0} (told : F → Bool) (bytes : F → List ℕ) (variables : List Variable) (line : ℕ) (st : Stated) (files : Files) (old : Kept) (s : Storage) (t : Transfer) (u : Connected) (slot : ℕ) (it : Job)
    → u.slot ≡ slot → st.0.what ≡ statement.Transfer t → false ≡ is_asynchronous t
    → task_of it ≡ moving_of (control_by (statement.Transfer t)) variables line 0 (values_of old.store) t (moved_in variables (values_of old.store) t)
    → values_of s ≡ without_values variables t (moved_in variables (values_of old.store) t) (values_of old.store)
    → IsDoing told bytes variables st (record (core_of files old) { vars = values_of s }) (doing.Awaits slot (job.Move it) (then.Carries slot))
    (transferred (control_by (statement.Transfer t)) variables line (core_of files old) t (moved_in variables (values_of old.store) t) u)
carries_is told bytes variables line st files old s t u slot it slot_is what_is is_now is_task values =
    let moved : Moved = moved_in variables (values_of old.store) t in
    awaits_is told bytes (control_by (statement.Transfer t)) variables line st (core_of files old) (record (core_of files old) { vars = values_of s }) t moved u slot it slot_is what_is (sym is_now) is_task
    (out_of files variables old s t moved values)

-- ---- the condition of a transfer that came back

pub halts_by : (condition : Condition) → (condition ≡ EndOfFile) ⊎ ((n : ℕ) × (condition ≡ Error n)) → halts condition ≡ true
halts_by condition (inl e) = ap halts e
halts_by condition (inr e) = ap halts e.1

-- ---- on a unit

-- what is done is what the plain statement does, in other words
pub ok_same : {F : Type 0} (told : F → Bool) (bytes : F → List ℕ) (variables : List Variable) (st : Stated) (core : Core) (r : Result (Does F) Lost) (p q : Doing) → q ≡ p
    → IfOk r (λ next. IsDoing told bytes variables st core next p) → IfOk r (λ next. IsDoing told bytes variables st core next q)
ok_same told bytes variables st core r p q e h = subst (λ x. IfOk r (λ next. IsDoing told bytes variables st core next x)) (sym e) h

pub on_none : (control : ℕ → List Given) (variables : List Variable) (line : ℕ) (core : Core) (t : Transfer) (moved : Moved) (o : Option Connected) → None ≡ o
    → on_unit control variables line core t moved o ≡ refused variables core t moved (Error 1)
on_none control variables line core t moved o e = ap (on_unit control variables line core t moved) (sym e)

pub on_fine : (control : ℕ → List Given) (variables : List Variable) (line : ℕ) (core : Core) (t : Transfer) (moved : Moved) (o : Option Connected) (u : Connected) → Some u ≡ o
    → Fine ≡ refusal u.modes t (layout_of variables moved.cells t.control) → on_unit control variables line core t moved o ≡ transferred control variables line core t moved u
on_fine control variables line core t moved o u e fine =
    ap (on_unit control variables line core t moved) (sym e) ∙ ap (unless_refused control variables line core t moved u) (sym fine)

not_fine : (control : ℕ → List Given) (variables : List Variable) (line : ℕ) (core : Core) (t : Transfer) (moved : Moved) (u : Connected) (condition : Condition) → (condition ≡ Fine → ⊥)
    → unless_refused control variables line core t moved u condition ≡ refused variables core t moved condition
not_fine control variables line core t moved u Fine other = absurd (other refl)
not_fine control variables line core t moved u EndOfFile other = refl
not_fine control variables line core t moved u EndOfRecord other = refl
not_fine control variables line core t moved u (Error n) other = refl

pub on_refused : (control : ℕ → List Given) (variables : List Variable) (line : ℕ) (core : Core) (t : Transfer) (moved : Moved) (o : Option Connected) (u : Connected) (condition : Condition) → Some u ≡ o
    → condition ≡ refusal u.modes t (layout_of variables moved.cells t.control) → (condition ≡ Fine → ⊥) → on_unit control variables line core t moved o ≡ refused variables core t moved condition
on_refused control variables line core t moved o u condition e is other =
    ap (on_unit control variables line core t moved) (sym e) ∙ ap (unless_refused control variables line core t moved u) (sym is) ∙ not_fine control variables line core t moved u condition other

-- ---- the output stays as it is

stays_by : (control : ℕ → List Given) (variables : List Variable) (line : ℕ) (core : Core) (t : Transfer) (moved : Moved) (u : Connected) (b : Bool)
    → (core_at (if b then later control variables line core t moved u else at_once control variables line core t moved u)).output ≡ core.output
stays_by control variables line core t moved u true = refl
stays_by control variables line core t moved u false = refl

stays_under : (control : ℕ → List Given) (variables : List Variable) (line : ℕ) (core : Core) (t : Transfer) (moved : Moved) (u : Connected) (condition : Condition)
    → (core_at (unless_refused control variables line core t moved u condition)).output ≡ core.output
stays_under control variables line core t moved u Fine = stays_by control variables line core t moved u (is_asynchronous t)
stays_under control variables line core t moved u EndOfFile = refl
stays_under control variables line core t moved u EndOfRecord = refl
stays_under control variables line core t moved u (Error n) = refl

stays : (control : ℕ → List Given) (variables : List Variable) (line : ℕ) (core : Core) (t : Transfer) (moved : Moved) (o : Option Connected)
    → (core_at (on_unit control variables line core t moved o)).output ≡ core.output
stays control variables line core t moved None = refl
stays control variables line core t moved (Some u) = stays_under control variables line core t moved u (refusal u.modes t (layout_of variables moved.cells t.control))

-- a unit that is written by its number, or has it from a place
abbrev pub IsOf : ℕ → UnitRef → Type 0
IsOf n u = (u ≡ unit.Number n) ⊎ (((place : Place) × (u ≡ unit.Held place n)) ⊎ ((place : Place) × (u ≡ unit.New place n)))

pub on_number : (control : ℕ → List Given) (variables : List Variable) (line : ℕ) (core : Core) (t : Transfer) (moved : Moved) (n : ℕ) (u : UnitRef) → IsOf n u
    → on_unit control variables line core t moved (connected_at core.units n) ≡ transfer_at control variables line core t moved u
on_number control variables line core t moved n u (inl e) = ap (transfer_at control variables line core t moved) (sym e)
on_number control variables line core t moved n u (inr (inl e)) = ap (transfer_at control variables line core t moved) (sym e.1)
on_number control variables line core t moved n u (inr (inr e)) = ap (transfer_at control variables line core t moved) (sym e.1)

-- so a sink that took nothing took a front of what was due
front_of_none : (taken : List ℕ) (old due : Output) → due ≡ old → HandsFront taken taken old due
front_of_none taken old due same = ([], [], ap whole_records same ∙ sym (append-nil (whole_records old)), sym (append-nil taken))

pub hands_nothing : {X : Type 0} (r : Result X Lost) (taken : List ℕ) (control : ℕ → List Given) (variables : List Variable) (line : ℕ) (core : Core) (t : Transfer) (moved : Moved) (n : ℕ) → IsOf n t.unit
    → OnErr r (HandsFront taken taken core.output (core_at (transfer_at control variables line core t moved t.unit)).output)
hands_nothing (Ok x) taken control variables line core t moved n is = tt
hands_nothing (Err lost) taken control variables line core t moved n is =
    front_of_none taken core.output (core_at (transfer_at control variables line core t moved t.unit)).output
    (ap (λ (d : Doing). (core_at d).output) (sym (on_number control variables line core t moved n t.unit is)) ∙ stays control variables line core t moved (connected_at core.units n))

-- and so it did where the unit is an internal file
pub hands_nothing_inside : (taken : List ℕ) (control : ℕ → List Given) (variables : List Variable) (line : ℕ) (core : Core) (t : Transfer) (moved : Moved) (file : InternalFile) → t.unit ≡ unit.Internal file
    → HandsFront taken taken core.output (core_at (transfer_at control variables line core t moved t.unit)).output
hands_nothing_inside taken control variables line core t moved file is =
    front_of_none taken core.output (core_at (transfer_at control variables line core t moved t.unit)).output (ap (λ u. (core_at (transfer_at control variables line core t moved u)).output) is)
