use Rattle.std.proofs.Common.{◌≡◌, ◌<◌, ◌≤◌, ◌+◌, ◌-◌, ◌*◌, ◌/◌, ℕ, length, ap, subst, ◌∙◌, arith}
use Rattle.fj_span.specs.Change.{KeepsUpToChange}
use Rattle.fj_span.proofs.ChangeLaws.{on_any_err}
use Rattle.fj_connect.specs.Connection.{Connection}
use Rattle.fj_connect.specs.DirectRuns.{with_direct_run}
use Rattle.fj_connect.specs.Linked.{connection_of}
use Rattle.fj_modes.specs.declared.modes.Modes.{Modes}
use Rattle.fj_value.specs.declared.condition.Condition.TheVariants.{Fine}
use Rattle.fj_transfer.specs.Transfer.{told_with}
use Rattle.fj_transfer.proofs.PutLemmas.{run_fine, run_past, run_kept, far}
use Rattle.fj_transfer.proofs.pieces.put_pieces.Goals as goal

pub returns-then-number-gt-LONGEST_FILE-clause-written :
    goal.returns-then-number-gt-LONGEST_FILE-clause-written
returns-then-number-gt-LONGEST_FILE-clause-written g c = λ t cells records has.
    let old = connection_of g.F.FileStore.bytes c.args.connection.now in
    let long : 0 < old.modes.recl = c.modes.ensures.length.0 in
    run_past old c.args.number c.args.run.now records cells c.requires.number long has (far old c.args.number c.args.run.now records long has c.if-number-gt-LONGEST_FILE.true)

pub returns-then-start-long-gt-LONGEST_FILE-clause-written :
    goal.returns-then-start-long-gt-LONGEST_FILE-clause-written
returns-then-start-long-gt-LONGEST_FILE-clause-written g c = λ t cells records has.
    let old = connection_of g.F.FileStore.bytes c.args.connection.now in
    let number = c.args.number in
    let run = c.args.run.now in
    let long : 0 < old.modes.recl = c.modes.ensures.length.0 in
    let same : c.from-recl.result ≡ old.modes.recl = c.from-recl.ensures ∙ ap (λ (m : Modes). m.recl) c.modes.ensures.value in
    run_past old number run records cells c.requires.number long has (subst (λ (r : ℕ). 268435456 < (number - 1) * r + length run) same c.if-start-long-gt-LONGEST_FILE.true)

pub returns-in_err-put_direct_run-clause-stopped :
    goal.returns-in_err-put_direct_run-clause-stopped
returns-in_err-put_direct_run-clause-stopped g c = λ t cells records has.
    let old = connection_of g.F.FileStore.bytes c.args.connection.now in
    let number = c.args.number in
    let run = c.args.run.now in
    let long : 0 < old.modes.recl = c.modes.ensures.length.0 in
    let same : c.from-recl.result ≡ old.modes.recl = c.from-recl.ensures ∙ ap (λ (m : Modes). m.recl) c.modes.ensures.value in
    let new = g.F.FileStore.bytes c.put_direct_run.new.self.file in
    let short : length old.bytes ≤ 268435456 = omega (arith, c.file_len-size.ensures.bytes t, c.file_len-size.ensures.size, c.file_len-size.ensures.placed.short) in
    let fits : (number - 1) * old.modes.recl + length run ≤ 268435456 = subst (λ (r : ℕ). (number - 1) * r + length run ≤ 268435456) same c.if-start-long-gt-LONGEST_FILE.false in
    let P : ℕ → Type 0 = λ r. KeepsUpToChange old.bytes (with_direct_run old ((number - 1) * r) run (number + length run / r - 1) 32).bytes new in
    on_any_err c.from_residual.result (run_kept old number run records cells new c.requires.number long has short fits (subst P same (c.in_err-put_direct_run.ensures.stopped t)))

pub returns-clause-written : goal.returns-clause-written
returns-clause-written g c = λ t cells records has.
    let old = connection_of g.F.FileStore.bytes c.args.connection.now in
    let number = c.args.number in
    let run = c.args.run.now in
    let long : 0 < old.modes.recl = c.modes.ensures.length.0 in
    let same : c.from-recl.result ≡ old.modes.recl = c.from-recl.ensures ∙ ap (λ (m : Modes). m.recl) c.modes.ensures.value in
    let short : length old.bytes ≤ 268435456 = omega (arith, c.file_len-size.ensures.bytes t, c.file_len-size.ensures.size, c.file_len-size.ensures.placed.short) in
    let fits : (number - 1) * old.modes.recl + length run ≤ 268435456 = subst (λ (r : ℕ). (number - 1) * r + length run ≤ 268435456) same c.if-start-long-gt-LONGEST_FILE.false in
    let new = connection_of g.F.FileStore.bytes c.put_direct_run.new.self in
    let P : ℕ → Type 0 = λ r. new ≡ with_direct_run old ((number - 1) * r) run (number + length run / r - 1) 32 in
    ap (λ (m : Connection). told_with m cells Fine) (subst P same (c.in_ok-put_direct_run.ensures.put t))
    ∙ run_fine old number run records cells c.requires.number long has short fits
