-- How a statement goes on, and what a connection leaves that is closed.
use Rattle.std.proofs.Common.{◌≡◌, ℕ, Bool, true, false, List, Option, Some, None, refl, sym, ap, subst, ◌∙◌}
use Rattle.std.specs.Prelude.{if◌then◌else◌, option_map, unwrap_or}
use Rattle.std.specs.Str.{bytes_eq}
use Rattle.std.proofs.lemmas.Slice.Eq.{bytes_eq-Decides}
use Rattle.fj_value.specs.declared.condition.Condition.TheVariants.{Fine, Error}
use Rattle.fj_modes.specs.declared.specifiers.OpenSpec.{OpenSpec}
use Rattle.fj_statement.specs.declared.unit.UnitRef.{UnitRef}
use Rattle.fj_value.specs.declared.place.Place.{Place}
use Rattle.fj_outside.specs.Holdings.{Holdings}
use Rattle.fj_connect.specs.Connection.{Connection}
use Rattle.fj_connect.specs.Linked.{Linked, connection_of}
use Rattle.fj_statement.specs.declared.deck.Variable.{Variable}
use Rattle.fj_statement.specs.declared.statement.Statement.{Statement}
use Rattle.fj_statement.specs.declared.statement.Statement.TheVariants as statement
use Rattle.fj_statement.specs.declared.statement.Transfer.{Transfer}
use Rattle.fj_bay.specs.Jobs.{Job as Task, Answer, attach, detach, move, go, change, flush, look, resume}
use Rattle.fj_bay.specs.Plain.{looked_of, moving_of, place_of, task_of, told_of}
use Rattle.fj_bay.specs.declared.job.Job.{Job}
use Rattle.fj_bay.specs.declared.job.Job.TheVariants as job
use Rattle.fj_meaning.specs.State.{Files, with_file, without_file}
use Rattle.fj_meaning.specs.Statement.{Stated}
use Rattle.fj_meaning_jobs.specs.Core.{Core, Connected, connected_at, without_connected}
use Rattle.fj_meaning_jobs.specs.Desks.{Outcome, brought_by, condition_in, connection_in, look_in}
use Rattle.fj_run_pending.specs.Plain.{brought_of}
use Rattle.fj_meaning_jobs.specs.Doing.{Doing, finishes}
use Rattle.fj_meaning_jobs.specs.Acting.{came_out, disconnected, left}
use Rattle.fj_run_units.specs.Files.{files_of}
use Rattle.fj_run_units.proofs.Returning.{given_back, given_files}
use Rattle.fj_run_statements.specs.Doing.{AsksToOpen, carries, closed, entered, goes_on, next_of, pends}
use Rattle.fj_run_statements.specs.declared.doing.After.{After}
use Rattle.fj_run_statements.specs.declared.doing.Given.{Given}
use Rattle.fj_run_statements.specs.declared.doing.Given.TheVariants as given
use Rattle.fj_run_statements.specs.Steps.{held_in, is_due, looked_in, told_in}
use Rattle.fj_run_statements.proofs.ClosingLemmas.{found_number}

-- ---- the connection of a unit is closed

told_is : {F : Type 0} (told : F → Bool) (bytes : F → List ℕ) (conn : Linked F) (c : Connection) (b : Bool) → told conn.file ≡ b → told_of told bytes conn ≡ Some c → connection_of bytes conn ≡ c
told_is told bytes conn c true t e = let same : Some (connection_of bytes conn) ≡ Some c = sym (ap (λ b. if b then Some (connection_of bytes conn) else None) t) ∙ e in cc
told_is told bytes conn c false t e = absurd (let none : None ≡ Some c = sym (ap (λ b. if b then Some (connection_of bytes conn) else None) t) ∙ e in let bad : ⊥ = cc in bad)

pub disconnects_is : {F : Type 0} (told : F → Bool) (bytes : F → List ℕ) (core : Core) (h new : Holdings) (number : ℕ) (conn : Linked F) (c : Connection) (sound keep : Bool) (answer : Answer) (next : Core → Doing) (found : Option Connected)
    → connected_at core.units number ≡ found → is_due found conn.name ≡ true → told_of told bytes conn ≡ Some c → core.files ≡ files_of h → new ≡ given_back keep h conn.name (bytes conn.file) sound
    → next (record core { units = without_connected number core.units; files = files_of new }) ≡ closed core (connected_at core.units number) keep next (detach (Some c), answer)
disconnects_is told bytes core h new number conn c sound keep answer next None found due is_told home is_new = absurd (let bad : ⊥ = cc in bad)
disconnects_is told bytes core h new number conn c sound keep answer next (Some u) found due is_told home is_new =
    let name : u.name ≡ conn.name = sym ((bytes_eq-Decides conn.name u.name).0 due) in
    let same : connection_of bytes conn ≡ c = told_is told bytes conn c (told conn.file) refl is_told in
    let o : Outcome = (detach (Some c), answer) in
    let files : files_of new ≡ left u.name (Some c) keep core.files =
    ap (λ (x : Holdings). files_of x) is_new
    ∙ given_files keep h conn.name (bytes conn.file) sound
    ∙ ap (λ (f : Files). if keep then with_file conn.name (bytes conn.file) f else without_file conn.name f) (sym home)
    ∙ ap (λ n. if keep then with_file n (bytes conn.file) core.files else without_file n core.files) (sym name)
    ∙ ap (λ (x : Connection). left u.name (Some x) keep core.files) same in
    let out : came_out u o ≡ true = ap (λ (x : Connection). bytes_eq x.name u.name) (sym same) ∙ due in
    ap (λ (f : Files). next (record core { units = without_connected number core.units; files = f })) files
    ∙ ap (λ n. next (record core { units = without_connected n core.units; files = left u.name (Some c) keep core.files })) (sym (found_number core.units number u found))
    ∙ sym (ap (λ b. if b then next (disconnected core u keep o) else finishes core (Error 1)) out)
    ∙ ap (λ x. closed core x keep next o) (sym found)

-- how the statement goes on from there
pub closed_goes_on : {F : Type 0} (told : F → Bool) (bytes : F → List ℕ) (core : Core) (h new : Holdings) (number : ℕ) (conn : Linked F) (c : Connection) (sound keep : Bool) (answer : Answer)
    (what : Statement) (next : After) (units : List Connected)
    → is_due (connected_at core.units number) conn.name ≡ true → told_of told bytes conn ≡ Some c → core.files ≡ files_of h → new ≡ given_back keep h conn.name (bytes conn.file) sound
    → units ≡ without_connected number core.units
    → goes_on what (record core { units = units; files = files_of new }) next ≡ closed core (connected_at core.units number) keep (λ (k : Core). goes_on what k next) (detach (Some c), answer)
closed_goes_on told bytes core h new number conn c sound keep answer what next units due is_told home is_new is_units =
    ap (λ (us : List Connected). goes_on what (record core { units = us; files = files_of new }) next) is_units
    ∙ disconnects_is told bytes core h new number conn c sound keep answer (λ (k : Core). goes_on what k next) (connected_at core.units number) refl due is_told home is_new

-- another connection came out
pub other_closed : {F : Type 0} (told : F → Bool) (bytes : F → List ℕ) (core : Core) (conn : Linked F) (c : Connection) (keep : Bool) (next : Core → Doing) (answer : Answer) (found : Option Connected)
    → is_due found conn.name ≡ false → told_of told bytes conn ≡ Some c → closed core found keep next (detach (Some c), answer) ≡ finishes core (Error 1)
other_closed told bytes core conn c keep next answer None due is_told = refl
other_closed told bytes core conn c keep next answer (Some u) due is_told =
    ap (λ b. if b then next (disconnected core u keep (detach (Some c), answer)) else finishes core (Error 1))
    (ap (λ (x : Connection). bytes_eq x.name u.name) (sym (told_is told bytes conn c (told conn.file) refl is_told)) ∙ due)

-- none came out
pub none_closed : (core : Core) (keep : Bool) (next : Core → Doing) (o : Outcome) (found : Option Connected) → connection_in o.0 ≡ None → closed core found keep next o ≡ finishes core (Error 1)
none_closed core keep next o None none = refl
none_closed core keep next o (Some u) none =
    ap (λ (x : Option Connection). if unwrap_or (option_map (λ (c : Connection). bytes_eq c.name u.name) x) false then next (disconnected core u keep o) else finishes core (Error 1)) none

-- ---- kinds of statements

pub asks_to_open : (what : Statement) (unit : UnitRef) (spec : OpenSpec) (iostat : Option Place) → what ≡ statement.OpenUnit unit spec iostat → AsksToOpen what spec
asks_to_open what unit spec iostat e = subst (λ (s : Statement). AsksToOpen s spec) (sym e) refl

pub carries_nothing : (variables : List Variable) (core : Core) (what : Statement) (slot : ℕ) (o : Outcome) → ((t : Transfer) → what ≡ statement.Transfer t → ⊥) → carries variables core what slot o ≡ finishes core Fine
carries_nothing variables core (statement.OpenUnit unit spec iostat) slot o never = refl
carries_nothing variables core (statement.Assign to from) slot o never = refl
carries_nothing variables core (statement.CloseUnit unit keep iostat) slot o never = refl
carries_nothing variables core (statement.WaitFor unit id iostat) slot o never = refl
carries_nothing variables core (statement.Move how unit iostat) slot o never = refl
carries_nothing variables core (statement.Inquire subject asked id iostat _) slot o never = refl
carries_nothing variables core (statement.Transfer t) slot o never = absurd (never t refl)
carries_nothing variables core statement.End slot o never = refl

pends_by : (variables : List Variable) (core : Core) (what : Statement) (unit slot number : ℕ) → ((t : Transfer) → what ≡ statement.Transfer t → ⊥) → pends variables core what unit slot number ≡ finishes core Fine
pends_by variables core (statement.OpenUnit u spec iostat) unit slot number never = refl
pends_by variables core (statement.Assign to from) unit slot number never = refl
pends_by variables core (statement.CloseUnit u keep iostat) unit slot number never = refl
pends_by variables core (statement.WaitFor u id iostat) unit slot number never = refl
pends_by variables core (statement.Move how u iostat) unit slot number never = refl
pends_by variables core (statement.Inquire subject asked id iostat _) unit slot number never = refl
pends_by variables core (statement.Transfer t) unit slot number never = absurd (never t refl)
pends_by variables core statement.End unit slot number never = refl

pub pends_nothing : (variables : List Variable) (st : Stated) (core new : Core) (next : Given) (unit slot number : ℕ)
    → next ≡ given.Pends unit slot → ((t : Transfer) → st.0.what ≡ statement.Transfer t → ⊥) → new ≡ core → next_of variables st core next number ≡ finishes new Fine
pends_nothing variables st core new next unit slot number is never same =
    ap (λ n. next_of variables st core n number) is ∙ pends_by variables core st.0.what unit slot number never ∙ ap (λ (c : Core). finishes c Fine) (sym same)

pub pends_is : (variables : List Variable) (st : Stated) (core new : Core) (next : Given) (unit slot number : ℕ) (t : Transfer)
    → next ≡ given.Pends unit slot → st.0.what ≡ statement.Transfer t → new ≡ entered variables core t unit slot number → next_of variables st core next number ≡ finishes new Fine
pends_is variables st core new next unit slot number t is what is_new =
    ap (λ n. next_of variables st core n number) is
    ∙ ap (λ (w : Statement). pends variables core w unit slot number) what
    ∙ ap (λ (c : Core). finishes c Fine) (sym is_new)

-- ---- jobs that came back

same_task : {A X : Type 0} → (f : Task → X) (o : Option A) (make : A → Task) (task : Task) (x : X) → option_map make o ≡ Some task → ((a : A) → x ≡ f (make a)) → x ≡ f task
same_task f None make task x is each = absurd (let bad : ⊥ = cc in bad)
same_task f (Some a) make task x is each = each a ∙ ap f (let same : make a ≡ task = cc in same)

-- no connection, where it brings none out
pub none_out : {F : Type 0} (told : F → Bool) (bytes : F → List ℕ) (it : Job F) (task : Task) → task_of told bytes it ≡ Some task → held_in it ≡ None → connection_in task ≡ None
none_out told bytes (job.Attach brought) task is none = sym (same_task connection_in (place_of told bytes brought) attach task _ is (λ c. refl))
none_out told bytes (job.Detach None) task is none = ap connection_in (sym (let same : detach None ≡ task = cc in same))
none_out told bytes (job.Detach (Some conn)) task is none = absurd (let bad : ⊥ = cc in bad)
none_out told bytes (job.Move m) task is none = ap connection_in (sym (let same : move (moving_of m) ≡ task = cc in same))
none_out told bytes (job.Go how) task is none = ap connection_in (sym (let same : go how ≡ task = cc in same))
none_out told bytes (job.Change edit) task is none = ap connection_in (sym (let same : change edit ≡ task = cc in same))
none_out told bytes job.Flush task is none = ap connection_in (sym (let same : flush ≡ task = cc in same))
none_out told bytes (job.Look l) task is none = ap connection_in (sym (let same : look (option_map looked_of l) ≡ task = cc in same))
none_out told bytes job.Resume task is none = ap connection_in (sym (let same : resume ≡ task = cc in same))

-- what it brought
pub brought_is : {F : Type 0} (told : F → Bool) (bytes : F → List ℕ) (it : Job F) (task : Task) (answer : Answer) → task_of told bytes it ≡ Some task
    → brought_of (told_in it (condition_in answer)) ≡ brought_by (task, answer)
brought_is told bytes (job.Attach brought) task answer is = same_task (λ t. brought_by (t, answer)) (place_of told bytes brought) attach task _ is (λ c. refl)
brought_is told bytes (job.Detach place) task answer is = same_task (λ t. brought_by (t, answer)) (place_of told bytes place) detach task _ is (λ c. refl)
brought_is told bytes (job.Move m) task answer is = ap (λ t. brought_by (t, answer)) (let same : move (moving_of m) ≡ task = cc in same)
brought_is told bytes (job.Go how) task answer is = ap (λ t. brought_by (t, answer)) (let same : go how ≡ task = cc in same)
brought_is told bytes (job.Change edit) task answer is = ap (λ t. brought_by (t, answer)) (let same : change edit ≡ task = cc in same)
brought_is told bytes job.Flush task answer is = ap (λ t. brought_by (t, answer)) (let same : flush ≡ task = cc in same)
brought_is told bytes (job.Look l) task answer is = ap (λ t. brought_by (t, answer)) (let same : look (option_map looked_of l) ≡ task = cc in same)
brought_is told bytes job.Resume task answer is = ap (λ t. brought_by (t, answer)) (let same : resume ≡ task = cc in same)

-- what it saw
pub looked_is : {F : Type 0} (told : F → Bool) (bytes : F → List ℕ) (it : Job F) (task : Task) → task_of told bytes it ≡ Some task → option_map looked_of (looked_in it) ≡ look_in task
looked_is told bytes (job.Attach brought) task is = same_task look_in (place_of told bytes brought) attach task _ is (λ c. refl)
looked_is told bytes (job.Detach place) task is = same_task look_in (place_of told bytes place) detach task _ is (λ c. refl)
looked_is told bytes (job.Move m) task is = ap look_in (let same : move (moving_of m) ≡ task = cc in same)
looked_is told bytes (job.Go how) task is = ap look_in (let same : go how ≡ task = cc in same)
looked_is told bytes (job.Change edit) task is = ap look_in (let same : change edit ≡ task = cc in same)
looked_is told bytes job.Flush task is = ap look_in (let same : flush ≡ task = cc in same)
looked_is told bytes (job.Look l) task is = ap look_in (let same : look (option_map looked_of l) ≡ task = cc in same)
looked_is told bytes job.Resume task is = ap look_in (let same : resume ≡ task = cc in same)

detached_by : (o : Option Connection) (task : Task) → option_map detach (option_map Some o) ≡ Some task → (c : Connection) × (o ≡ Some c) × (detach (Some c) ≡ task)
detached_by None task e = absurd (let bad : ⊥ = cc in bad)
detached_by (Some c) task e = (c, refl, cc)

pub detached_is : {F : Type 0} (told : F → Bool) (bytes : F → List ℕ) (it : Job F) (conn : Linked F) (task : Task) → held_in it ≡ Some conn → task_of told bytes it ≡ Some task
    → (c : Connection) × (told_of told bytes conn ≡ Some c) × (detach (Some c) ≡ task)
detached_is told bytes (job.Detach None) conn task some is = absurd (let bad : ⊥ = cc in bad)
detached_is {F = F} told bytes (job.Detach (Some held)) conn task some is =
    let same : held ≡ conn = cc in
    detached_by (told_of told bytes conn) task (ap (λ (x : Linked F). option_map detach (option_map Some (told_of told bytes x))) (sym same) ∙ is)
detached_is told bytes (job.Attach brought) conn task some is = absurd (let bad : ⊥ = cc in bad)
detached_is told bytes (job.Move m) conn task some is = absurd (let bad : ⊥ = cc in bad)
detached_is told bytes (job.Go how) conn task some is = absurd (let bad : ⊥ = cc in bad)
detached_is told bytes (job.Change edit) conn task some is = absurd (let bad : ⊥ = cc in bad)
detached_is told bytes job.Flush conn task some is = absurd (let bad : ⊥ = cc in bad)
detached_is told bytes (job.Look l) conn task some is = absurd (let bad : ⊥ = cc in bad)
detached_is told bytes job.Resume conn task some is = absurd (let bad : ⊥ = cc in bad)
