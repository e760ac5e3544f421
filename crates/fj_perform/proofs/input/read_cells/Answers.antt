use Rattle.std.proofs.Common.{◌≡◌, false, ap, refl, subst, ◌∙◌, ◌&&◌, not}
use Rattle.std.specs.Prelude.{IfOk, OnErr, Option, ℕ}
use Rattle.fj_span.specs.Change.{KeepsUpToChange}
use Rattle.fj_modes.specs.declared.modes.Modes.{Modes}
use Rattle.fj_modes.specs.declared.specifiers.Access.TheVariants.{Direct}
use Rattle.fj_modes.specs.Words.{same_access}
use Rattle.fj_connect.specs.Linked.{connection_of}
use Rattle.fj_connect.specs.Positions.{ended}
use Rattle.fj_transfer.specs.Change.{changed}
use Rattle.fj_transfer.specs.Places.{at_place}
use Rattle.fj_transfer.specs.Reader.{done_with}
use Rattle.fj_transfer.specs.Transfer.{Done, is_explicit, needs_sequence}
use Rattle.fj_transfer.specs.declared.transfer.Layout.{Layout}
use Rattle.fj_perform.specs.Front.{started}
use Rattle.fj_perform.proofs.Cases.{same_reading, same_group}
use Rattle.fj_perform.proofs.Fitting.{in_sequence, begins_there}
use Rattle.fj_perform.proofs.input.read_cells.Goals as goal

pub returns-in-Explicit-clause-done : goal.returns-in-Explicit-clause-done
returns-in-Explicit-clause-done g c = λ t.
    let now = c.args.connection.now in
    let spec = c.args.spec.now in
    let old = connection_of g.F.FileStore.bytes c.args.connection.now in
    let modes : c.change-modes.result ≡ changed spec.edit now.modes.edit = c.change-modes.ensures ∙ ap (λ (m : Modes). changed c.args.spec.now.edit m.edit) c.modes.ensures.value in
    let D : Done → Type 0 = λ d. IfOk c.read_explicit.result (λ performed. done_with (connection_of g.F.FileStore.bytes c.read_explicit.new.connection) c.read_explicit.new.moved.cells performed ≡ d) in
    subst D (same_reading old spec c.args.moved.now _ spec.layout _ _ _ (started c.args.start (ended old)) modes refl c.in-Explicit.is) (c.read_explicit.ensures.done t)

pub returns-in-Listed-clause-done : goal.returns-in-Listed-clause-done
returns-in-Listed-clause-done g c = λ t.
    let now = c.args.connection.now in
    let spec = c.args.spec.now in
    let old = connection_of g.F.FileStore.bytes c.args.connection.now in
    let modes : c.change-modes.result ≡ changed spec.edit now.modes.edit = c.change-modes.ensures ∙ ap (λ (m : Modes). changed c.args.spec.now.edit m.edit) c.modes.ensures.value in
    let sequence : same_access now.modes.access Direct ≡ false = in_sequence now.modes spec c.requires.fit (ap (λ (l : Layout). needs_sequence l (is_explicit l && not c.args.spec.now.advance)) c.in-Listed.is) in
    let place : at_place c.place_of.result (ended old) ≡ started c.args.start (ended old) =
    ap (λ (p : Option ℕ). at_place p (ended (connection_of g.F.FileStore.bytes c.args.connection.now))) c.place_of.ensures ∙ begins_there c.args.start now.modes.access _ (ended old) c.requires.start sequence in
    let D : Done → Type 0 = λ d. IfOk c.read_listed.result (λ performed. done_with (connection_of g.F.FileStore.bytes c.read_listed.new.connection) c.read_listed.new.moved.cells performed ≡ d) in
    subst D (same_reading old spec c.args.moved.now _ spec.layout _ _ _ _ modes place c.in-Listed.is) (c.read_listed.ensures.done t)

pub returns-in-Listed-clause-stopped : goal.returns-in-Listed-clause-stopped
returns-in-Listed-clause-stopped g c = λ t.
    let now = c.args.connection.now in
    let spec = c.args.spec.now in
    let old = connection_of g.F.FileStore.bytes c.args.connection.now in
    let modes : c.change-modes.result ≡ changed spec.edit now.modes.edit = c.change-modes.ensures ∙ ap (λ (m : Modes). changed c.args.spec.now.edit m.edit) c.modes.ensures.value in
    let sequence : same_access now.modes.access Direct ≡ false = in_sequence now.modes spec c.requires.fit (ap (λ (l : Layout). needs_sequence l (is_explicit l && not c.args.spec.now.advance)) c.in-Listed.is) in
    let place : at_place c.place_of.result (ended old) ≡ started c.args.start (ended old) =
    ap (λ (p : Option ℕ). at_place p (ended (connection_of g.F.FileStore.bytes c.args.connection.now))) c.place_of.ensures ∙ begins_there c.args.start now.modes.access _ (ended old) c.requires.start sequence in
    let D : Done → Type 0 = λ d. OnErr c.read_listed.result (KeepsUpToChange (g.F.FileStore.bytes now.file) d.connection.bytes (g.F.FileStore.bytes c.read_listed.new.connection.file)) in
    subst D (same_reading old spec c.args.moved.now _ spec.layout _ _ _ _ modes place c.in-Listed.is) (c.read_listed.ensures.stopped t)

pub returns-in-Group-clause-done : goal.returns-in-Group-clause-done
returns-in-Group-clause-done g c = λ t.
    let now = c.args.connection.now in
    let spec = c.args.spec.now in
    let old = connection_of g.F.FileStore.bytes c.args.connection.now in
    let modes : c.change-modes.result ≡ changed spec.edit now.modes.edit = c.change-modes.ensures ∙ ap (λ (m : Modes). changed c.args.spec.now.edit m.edit) c.modes.ensures.value in
    let sequence : same_access now.modes.access Direct ≡ false = in_sequence now.modes spec c.requires.fit (ap (λ (l : Layout). needs_sequence l (is_explicit l && not c.args.spec.now.advance)) c.in-Group.is) in
    let place : at_place c.place_of-in-Group.result (ended old) ≡ started c.args.start (ended old) =
    ap (λ (p : Option ℕ). at_place p (ended (connection_of g.F.FileStore.bytes c.args.connection.now))) c.place_of-in-Group.ensures ∙ begins_there c.args.start now.modes.access _ (ended old) c.requires.start sequence in
    let D : Done → Type 0 = λ d. IfOk c.read_grouped.result (λ performed. done_with (connection_of g.F.FileStore.bytes c.read_grouped.new.connection) c.read_grouped.new.moved.cells performed ≡ d) in
    subst D (same_group old spec c.args.moved.now c.change-modes.result (at_place c.place_of-in-Group.result (ended old)) _ _ _ _ c.bytes.ensures c.as_slice.ensures
    ∙ same_reading old spec c.args.moved.now _ spec.layout _ _ _ _ modes place c.in-Group.is) (c.read_grouped.ensures.done t)

pub returns-in-Group-clause-stopped : goal.returns-in-Group-clause-stopped
returns-in-Group-clause-stopped g c = λ t.
    let now = c.args.connection.now in
    let spec = c.args.spec.now in
    let old = connection_of g.F.FileStore.bytes c.args.connection.now in
    let modes : c.change-modes.result ≡ changed spec.edit now.modes.edit = c.change-modes.ensures ∙ ap (λ (m : Modes). changed c.args.spec.now.edit m.edit) c.modes.ensures.value in
    let sequence : same_access now.modes.access Direct ≡ false = in_sequence now.modes spec c.requires.fit (ap (λ (l : Layout). needs_sequence l (is_explicit l && not c.args.spec.now.advance)) c.in-Group.is) in
    let place : at_place c.place_of-in-Group.result (ended old) ≡ started c.args.start (ended old) =
    ap (λ (p : Option ℕ). at_place p (ended (connection_of g.F.FileStore.bytes c.args.connection.now))) c.place_of-in-Group.ensures ∙ begins_there c.args.start now.modes.access _ (ended old) c.requires.start sequence in
    let D : Done → Type 0 = λ d. OnErr c.read_grouped.result (KeepsUpToChange (g.F.FileStore.bytes now.file) d.connection.bytes (g.F.FileStore.bytes c.read_grouped.new.connection.file)) in
    subst D (same_group old spec c.args.moved.now c.change-modes.result (at_place c.place_of-in-Group.result (ended old)) _ _ _ _ c.bytes.ensures c.as_slice.ensures
    ∙ same_reading old spec c.args.moved.now _ spec.layout _ _ _ _ modes place c.in-Group.is) (c.read_grouped.ensures.stopped t)
