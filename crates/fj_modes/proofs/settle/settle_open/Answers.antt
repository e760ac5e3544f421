-- Error 3 comes exactly where the test holds, which decides its cases.
use Rattle.fj_modes.proofs.Refusals.{is_refused-decides}
use Rattle.fj_modes.proofs.settle.settle_open.Goals as goal

pub returns-then-is_refused-clause-refused : goal.returns-then-is_refused-clause-refused
returns-then-is_refused-clause-refused c =
    (λ e. (is_refused-decides c.args.spec.now).0 cc, λ h. cc)

pub returns-clause-refused : goal.returns-clause-refused
returns-clause-refused c =
    let decides = is_refused-decides c.args.spec.now in
    (λ e. cc, λ h. let e = decides.1 h in cc)
