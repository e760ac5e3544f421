-- A READ on an internal file, by its parts.
use Rattle.std.proofs.Common.{◌≡◌, ℕ, cond, true, List, [], map, refl, sym, ap, ◌∙◌}
use Rattle.fj_value.specs.declared.condition.Condition.{Condition}
use Rattle.fj_value.specs.declared.value.Cell.{Cell}
use Rattle.fj_control.specs.Steps.{Given}
use Rattle.fj_internal.specs.Internal.{read_inside, written_inside}
use Rattle.fj_moved.specs.declared.moved.Moved.{Moved}
use Rattle.fj_statement.specs.declared.deck.Variable.{Variable}
use Rattle.fj_statement.specs.declared.statement.Statement.TheVariants.{Transfer}
use Rattle.fj_statement.specs.declared.statement.Transfer.{Transfer as Stated}
use Rattle.fj_statement.specs.declared.unit.InternalFile.{InternalFile}
use Rattle.fj_store.specs.Places.{places_of}
use Rattle.fj_store.specs.Storage.{Storage, cell_at, values_of}
use Rattle.fj_store.specs.Variables.{Variables, moved_of}
use Rattle.fj_store.specs.declared.run.Run.{Run}
use Rattle.fj_transfer.specs.declared.transfer.Transfer.{Transfer as Job}
use Rattle.fj_transfer.specs.declared.transfer.TransferSpec.{TransferSpec}
use Rattle.fj_meaning.specs.Items.{file_places, given_back}
use Rattle.fj_meaning.specs.Statement.{control_by}
use Rattle.fj_meaning.specs.Telling.{with_size}
use Rattle.fj_meaning.specs.Transfers.{file_cells, inside, moved_in, spec_in, with_put, without_values}
use Rattle.fj_run_items.specs.Inside.{read_by}
use Rattle.fj_run_items.specs.Kinds.{kinds_of}
use Rattle.fj_run_items.proofs.Cells.{run_added}
use Rattle.fj_run_items.proofs.Gathers.{cells_same}
use Rattle.fj_run_items.proofs.Takes.{job_control}

-- the places of a run are as many cells
pub elements_are : (variables : List Variable) (s : Storage) (run : Run) (file : InternalFile) (moved : Moved) → s.kinds ≡ kinds_of variables → places_of run ≡ file_places variables file → moved ≡ moved_of (map (cell_at s) (places_of run))
    → moved.cells ≡ file_cells variables (values_of s) file
elements_are variables s run file moved kinds same made =
    ap (λ (m : Moved). m.cells) made
    ∙ run_added (cell_at s) (λ p. refl) run.var run.first run.count (record { cells = []; order = [] }) (λ k high. refl)
    ∙ ap (map (cell_at s)) same
    ∙ cells_same variables s (file_places variables file) kinds

-- what is done by the job that was made is what the statement does
pub read_is : (variables : List Variable) (vars mid : Variables) (t : Stated) (file : InternalFile) (elements : List Cell) (job : Job) → t.input ≡ true
    → elements ≡ file_cells variables vars file → job.spec ≡ spec_in variables vars t (moved_in variables vars t).cells → job.moved ≡ moved_in variables vars t → mid ≡ without_values variables t (moved_in variables vars t) vars
    → read_by variables t.size elements job mid ≡ inside (control_by (Transfer t)) variables vars t (moved_in variables vars t) file
read_is variables vars mid t file elements job reads elements_is spec_is moved_is mid_is =
    let due : Moved = moved_in variables vars t in
    let spec : TransferSpec = spec_in variables vars t due.cells in
    let cells : List Cell = file_cells variables vars file in
    let control : ℕ → List Given = control_by (Transfer t) in
    let out : Variables = without_values variables t due vars in
    let taken = read_inside control cells spec due in
    let by : (ℕ → List Given) → List Cell → TransferSpec → Moved → Variables → Variables × Condition =
    λ c es x m vs. (let it = read_inside c es x m in (with_size variables t.size it.count (given_back variables it.cells vs), it.condition)) in
    ap (λ c. by c elements job.spec job.moved mid) (job_control variables due.cells t job.spec.layout (ap (λ (x : TransferSpec). x.layout) spec_is))
    ∙ ap (λ es. by control es job.spec job.moved mid) elements_is
    ∙ ap (λ x. by control cells x job.moved mid) spec_is
    ∙ ap (λ m. by control cells spec m mid) moved_is
    ∙ ap (by control cells spec due) mid_is
    ∙ sym (ap (λ b. cond b (cond b (with_size variables t.size taken.count (given_back variables taken.cells out)) out, taken.condition) (with_put variables vars (written_inside control cells spec due))) reads)
