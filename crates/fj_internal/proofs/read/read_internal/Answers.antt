use Rattle.std.proofs.Common.{◌≡◌, List, ap, sym, subst, ◌∙◌}
use Rattle.std.specs.Prelude.{IfOk}
use Rattle.std.specs.List.{list_any}
use Rattle.fj_value.specs.declared.value.Cell.{Cell}
use Rattle.fj_modes.specs.Modes.{usual_edit}
use Rattle.fj_transfer.specs.Change.{changed}
use Rattle.fj_transfer.specs.Printing.{control_of}
use Rattle.fj_internal.specs.Carried.{taken}
use Rattle.fj_internal.specs.Internal.{Taken, records_of, holds_line_end}
use Rattle.fj_internal.specs.Records.{records_taken}
use Rattle.fj_internal.proofs.ByRecords.{records_are_taken}
use Rattle.fj_internal.proofs.LawProofs.{refused_is}
use Rattle.fj_internal.proofs.read.read_internal.Goals as goal

pub returns-then-any_line_end-clause-taken : goal.returns-then-any_line_end-clause-taken
returns-then-any_line_end-clause-taken c =
    let job = c.args.job.now in
    let elements = c.args.elements.now in
    let same : list_any holds_line_end (records_of c.as_slice-elements.result.now) ≡ list_any holds_line_end (records_of elements) =
    ap (λ (cells : List Cell). list_any holds_line_end (records_of cells)) c.as_slice-elements.ensures in
    c.refuse.ensures.taken ∙ refused_is (control_of job.spec.layout) elements job.spec job.moved (sym same ∙ sym c.any_line_end.ensures ∙ c.if-any_line_end.true)

pub returns-clause-taken : goal.returns-clause-taken
returns-clause-taken c =
    let job = c.args.job.now in
    let elements = c.args.elements.now in
    let same : list_any holds_line_end (records_of c.as_slice-elements.result.now) ≡ list_any holds_line_end (records_of elements) =
    ap (λ (cells : List Cell). list_any holds_line_end (records_of cells)) c.as_slice-elements.ensures in
    let T : Taken → Type 0 = λ d. IfOk c.read_records.result (λ condition. taken c.read_records.new.job condition ≡ d) in
    subst T (ap (λ (cells : List Cell). records_taken job.spec.layout (control_of job.spec.layout) job.spec.advance (changed job.spec.edit usual_edit) job.moved (records_of cells)) c.as_slice-elements.ensures
    ∙ records_are_taken (control_of job.spec.layout) elements job.spec job.moved (sym same ∙ sym c.any_line_end.ensures ∙ c.if-any_line_end.false) c.requires)
    c.read_records.ensures.taken
