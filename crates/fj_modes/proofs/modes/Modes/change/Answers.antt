-- Error 8 comes exactly where the test holds, which decides its cases.
use Rattle.std.proofs.Common.{◌≡◌, false, Ok, ap, sym}
use Rattle.fj_modes.specs.Modes.{is_conflict, changed}
use Rattle.fj_modes.proofs.Reopening.{changed_is_consistent}
use Rattle.fj_modes.proofs.Refusals.{is_conflict-decides}
use Rattle.fj_modes.proofs.modes.Modes.change.Goals as goal

pub returns-then-is_conflict-clause-refused : goal.returns-then-is_conflict-clause-refused
returns-then-is_conflict-clause-refused c =
    (λ e. (is_conflict-decides c.args.self.now c.args.spec.now).0 cc, λ h. cc)

pub returns-clause-refused : goal.returns-clause-refused
returns-clause-refused c =
    let decides = is_conflict-decides c.args.self.now c.args.spec.now in
    (λ e. cc, λ h. let e = decides.1 h in cc)

pub returns-clause-consistent : goal.returns-clause-consistent
returns-clause-consistent c =
    λ consistent.
    let free : is_conflict c.args.self.now c.args.spec.now ≡ false = cc in
    let is_changed : changed c.args.self.now c.args.spec.now ≡ Ok (record c.args.self.now { edit = c.edit_asked-self.result }) = rw free (ap (λ edit. Ok (record c.args.self.now { edit = edit })) (sym c.edit_asked-self.ensures)) in
    changed_is_consistent c.args.self.now c.args.spec.now _ consistent is_changed
