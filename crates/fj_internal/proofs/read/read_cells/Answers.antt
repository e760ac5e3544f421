use Rattle.std.proofs.Common.{◌≡◌, ap, subst, ◌∙◌}
use Rattle.std.specs.Prelude.{IfOk}
use Rattle.fj_value.specs.declared.edit.EditModes.{EditModes}
use Rattle.fj_modes.specs.Modes.{usual_edit}
use Rattle.fj_transfer.specs.Change.{changed}
use Rattle.fj_internal.specs.Internal.{Taken, records_of}
use Rattle.fj_internal.specs.Records.{taken_with}
use Rattle.fj_internal.proofs.Heads.{same_taken, same_group}
use Rattle.fj_internal.proofs.read.read_cells.Goals as goal

pub returns-in-Unformatted-clause-taken : goal.returns-in-Unformatted-clause-taken
returns-in-Unformatted-clause-taken c =
    let spec = c.args.spec.now in
    let modes : c.change-modes.result ≡ changed spec.edit usual_edit = c.change-modes.ensures ∙ ap (λ (m : EditModes). changed c.args.spec.now.edit m) c.usual_edit.ensures in
    c.leave.ensures.taken ∙ same_taken _ spec.layout _ _ spec.advance c.args.moved.now (records_of c.args.elements.now) modes c.in-Unformatted.is

pub returns-in-Explicit-clause-taken : goal.returns-in-Explicit-clause-taken
returns-in-Explicit-clause-taken c =
    let spec = c.args.spec.now in
    let modes : c.change-modes.result ≡ changed spec.edit usual_edit = c.change-modes.ensures ∙ ap (λ (m : EditModes). changed c.args.spec.now.edit m) c.usual_edit.ensures in
    let T : Taken → Type 0 = λ d. IfOk c.read_explicit.result (λ performed. taken_with c.read_explicit.new.moved.cells performed ≡ d) in
    subst T (same_taken _ spec.layout _ _ spec.advance c.args.moved.now (records_of c.args.elements.now) modes c.in-Explicit.is) c.read_explicit.ensures.taken

pub returns-in-Listed-clause-taken : goal.returns-in-Listed-clause-taken
returns-in-Listed-clause-taken c =
    let spec = c.args.spec.now in
    let modes : c.change-modes.result ≡ changed spec.edit usual_edit = c.change-modes.ensures ∙ ap (λ (m : EditModes). changed c.args.spec.now.edit m) c.usual_edit.ensures in
    let T : Taken → Type 0 = λ d. IfOk c.read_listed.result (λ performed. taken_with c.read_listed.new.moved.cells performed ≡ d) in
    subst T (same_taken _ spec.layout _ _ spec.advance c.args.moved.now (records_of c.args.elements.now) modes c.in-Listed.is) c.read_listed.ensures.taken

pub returns-in-Group-clause-taken : goal.returns-in-Group-clause-taken
returns-in-Group-clause-taken c =
    let spec = c.args.spec.now in
    let modes : c.change-modes.result ≡ changed spec.edit usual_edit = c.change-modes.ensures ∙ ap (λ (m : EditModes). changed c.args.spec.now.edit m) c.usual_edit.ensures in
    let T : Taken → Type 0 = λ d. IfOk c.read_grouped.result (λ performed. taken_with c.read_grouped.new.moved.cells performed ≡ d) in
    subst T (same_group c.change-modes.result spec.advance c.args.moved.now (records_of c.args.elements.now) _ _ _ _ c.bytes.ensures c.as_slice.ensures
    ∙ same_taken _ spec.layout _ _ spec.advance c.args.moved.now (records_of c.args.elements.now) modes c.in-Group.is) c.read_grouped.ensures.taken
