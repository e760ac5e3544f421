-- READ and WRITE on one element of characters.
use Rattle.std.proofs.Common.{◌≡◌, ℕ, cond, true, false, List, [], ◌∷◌, None, sym, ap, subst, ◌∙◌}
use Rattle.fj_value.specs.declared.condition.Condition.{Condition}
use Rattle.fj_value.specs.declared.place.Place.{Place}
use Rattle.fj_value.specs.declared.value.Cell.{Cell}
use Rattle.fj_value.specs.declared.value.Value.{Value}
use Rattle.fj_control.specs.Steps.{Given}
use Rattle.fj_internal.specs.Internal.{IsInput, IsOutput, Put, Taken, characters_of, read_inside, written_inside}
use Rattle.fj_internal.specs.OneElement.{PutsOne, TakesOne}
use Rattle.fj_internal.specs.declared.one.One.{One}
use Rattle.fj_moved.specs.Items.{Output, items_of}
use Rattle.fj_moved.specs.declared.moved.Moved.{Moved}
use Rattle.fj_statement.specs.declared.deck.Variable.{Variable}
use Rattle.fj_statement.specs.declared.statement.Control.{Control}
use Rattle.fj_statement.specs.declared.statement.Control.TheVariants as control
use Rattle.fj_statement.specs.declared.statement.Statement.TheVariants.{Transfer}
use Rattle.fj_statement.specs.declared.statement.Transfer.{Transfer as Stated}
use Rattle.fj_statement.specs.declared.unit.InternalFile.TheVariants as file
use Rattle.fj_store.specs.Storage.{Storage, with_value, values_of}
use Rattle.fj_store.specs.Variables.{Variables, undefined_at, value_at}
use Rattle.fj_transfer.specs.Printing.{IsRecords, control_of}
use Rattle.fj_transfer.specs.declared.explicit.Performed.{Performed}
use Rattle.fj_transfer.specs.declared.transfer.TransferSpec.{TransferSpec}
use Rattle.fj_meaning.specs.Items.{cell_at, given_back}
use Rattle.fj_meaning.specs.Needs.{number_given}
use Rattle.fj_meaning.specs.Statement.{control_by}
use Rattle.fj_meaning.specs.Telling.{with_size}
use Rattle.fj_meaning.specs.Transfers.{inside, layout_of, moved_in, spec_in, with_put}
use Rattle.fj_meaning.proofs.Stored.{set_is}
use Rattle.fj_run_items.specs.Inside.{IsPlain, LeavesOne}
use Rattle.fj_run_items.specs.Kinds.{kinds_of}
use Rattle.fj_run_items.specs.Shown.{IsOfItems}
use Rattle.fj_run_items.proofs.Takes.{job_control}

-- ---- the statement without its items

abbrev pub IsSpecOf : Stated → TransferSpec → Type 0
IsSpecOf t spec = (variables : List Variable) (vars : Variables) (cells : List Cell) → spec ≡ spec_in variables vars t cells

records_of : (variables : List Variable) (cells : List Cell) (c : Control) → IsOfItems c → IsRecords (layout_of variables cells c)
records_of variables cells control.Unformatted h = absurd h
records_of variables cells (control.Explicit f) h = tt
records_of variables cells control.Listed h = tt
records_of variables cells (control.Group name vars) h = tt

pub spec_output : (t : Stated) (spec : TransferSpec) → t.input ≡ false → IsPlain t → IsSpecOf t spec → IsOutput spec
spec_output t spec writes is same =
    let e : spec ≡ spec_in [] [] t [] = same [] [] [] in
    record {
      output = ap (λ (x : TransferSpec). x.input) e ∙ writes;
      rec = ap (λ (x : TransferSpec). x.rec) e ∙ ap (number_given []) is.rec;
      pos = ap (λ (x : TransferSpec). x.pos) e ∙ ap (number_given []) is.pos;
      records = let P : TransferSpec → Type 0 = λ x. IsRecords x.layout in subst P (sym e) (records_of [] [] t.control is.items);
    }

pub spec_input : (t : Stated) (spec : TransferSpec) → t.input ≡ true → IsPlain t → IsSpecOf t spec → IsInput spec
spec_input t spec reads is same =
    let e : spec ≡ spec_in [] [] t [] = same [] [] [] in
    record {
      input = ap (λ (x : TransferSpec). x.input) e ∙ reads;
      rec = ap (λ (x : TransferSpec). x.rec) e ∙ ap (number_given []) is.rec;
      pos = ap (λ (x : TransferSpec). x.pos) e ∙ ap (number_given []) is.pos;
    }

-- ---- what becomes of the element

pub leaves_one : (variables : List Variable) (vars : Variables) (t : Stated) (size : ℕ) (items : List Output) (one : One) (spec : TransferSpec) (moved : Moved) → IsSpecOf t spec → moved ≡ moved_in variables vars t → items ≡ items_of moved
    → PutsOne size spec items one → LeavesOne variables vars t size one
leaves_one variables vars t size items one spec moved same made of puts = λ cell long.
    let due : Moved = moved_in variables vars t in
    let spec_due : TransferSpec = spec_in variables vars t due.cells in
    let e : spec ≡ spec_due = same variables vars due.cells in
    ap (λ (c : ℕ → List Given). written_inside c (cell ∷ []) spec_due due) (sym (job_control variables due.cells t spec.layout (ap (λ (x : TransferSpec). x.layout) e)))
    ∙ ap (λ (x : TransferSpec). written_inside (control_of spec.layout) (cell ∷ []) x due) (sym e)
    ∙ puts cell due long (ap items_of (sym made) ∙ sym of)

-- ---- the element gets it

pub element_set : (variables : List Variable) (s new : Storage) (p : Place) (v : Value) (k : Condition) → s.kinds ≡ kinds_of variables → new ≡ with_value s p v
    → (let d : Variables × Condition = (values_of new, k) in d) ≡ with_put variables (values_of s) (let p : Put = record { elements = record (cell_at variables (values_of s) p) { value = v } ∷ []; condition = k } in p)
element_set variables s new p v k kinds put = ap (λ (vs : Variables). (let d : Variables × Condition = (vs, k) in d)) (set_is variables s new p v kinds put)

pub element_kept : (variables : List Variable) (s new : Storage) (p : Place) (v : Value) (k : Condition) → s.kinds ≡ kinds_of variables → v ≡ (cell_at variables (values_of s) p).value → new ≡ with_value s p v
    → (let d : Variables × Condition = (values_of new, k) in d) ≡ with_put variables (values_of s) (let q : Put = record { elements = cell_at variables (values_of s) p ∷ []; condition = k } in q)
element_kept variables s new p v k kinds same put =
    element_set variables s new p v k kinds put
    ∙ ap (λ (x : Value). with_put variables (values_of s) (let q : Put = record { elements = record (cell_at variables (values_of s) p) { value = x } ∷ []; condition = k } in q)) same

-- ---- what is taken from the element

pub read_one_is : (variables : List Variable) (vars out mid new : Variables) (t : Stated) (p : Place) (spec : TransferSpec) (text : List ℕ) (moved : Moved) (cells : List Cell) (performed : Performed) → t.input ≡ true → IsSpecOf t spec
    → text ≡ characters_of (value_at vars p) → moved ≡ moved_in variables vars t → out ≡ undefined_at (moved_in variables vars t).cells vars → mid ≡ with_size variables t.size None out → TakesOne text spec moved cells performed
    → new ≡ with_size variables t.size performed.count (given_back variables cells mid)
    → (let d : Variables × Condition = (new, performed.condition) in d) ≡ inside (control_by (Transfer t)) variables vars t (moved_in variables vars t) (file.One p)
read_one_is variables vars out mid new t p spec text moved cells performed reads same chars made out_is mid_is takes gave =
    let due : Moved = moved_in variables vars t in
    let spec_due : TransferSpec = spec_in variables vars t due.cells in
    let e : spec ≡ spec_due = same variables vars due.cells in
    let cell : Cell = cell_at variables vars p in
    let control : ℕ → List Given = control_by (Transfer t) in
    let without : Variables = with_size variables t.size None (undefined_at due.cells vars) in
    let taken : Taken = read_inside control (cell ∷ []) spec_due due in
    let by : Taken → Variables → Variables × Condition = λ k vs. (with_size variables t.size k.count (given_back variables k.cells vs), k.condition) in
    ap (λ (vs : Variables). (let d : Variables × Condition = (vs, performed.condition) in d)) gave
    ∙ ap (λ (k : Taken). by k mid) (takes cell (sym chars))
    ∙ ap (λ (m : Moved). by (read_inside (control_of spec.layout) (cell ∷ []) spec m) mid) made
    ∙ ap (λ (c : ℕ → List Given). by (read_inside c (cell ∷ []) spec due) mid) (job_control variables due.cells t spec.layout (ap (λ (x : TransferSpec). x.layout) e))
    ∙ ap (λ (x : TransferSpec). by (read_inside control (cell ∷ []) x due) mid) e
    ∙ ap (by taken) (mid_is ∙ ap (with_size variables t.size None) out_is)
    ∙ sym (ap (λ b. cond b (cond b (with_size variables t.size taken.count (given_back variables taken.cells (cond b without vars))) (cond b without vars), taken.condition) (with_put variables vars (written_inside control (cell ∷ []) spec_due due))) reads)
