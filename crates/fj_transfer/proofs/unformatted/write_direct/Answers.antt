use Rattle.std.proofs.Common.{◌≡◌, ◌<◌, ◌≤◌, ◌*◌, ◌-◌, ℕ, length, max, ap, subst, ◌∙◌, arith}
use Rattle.fj_span.specs.Change.{KeepsUpToChange}
use Rattle.fj_span.proofs.ChangeLaws.{on_any_err}
use Rattle.fj_modes.specs.declared.modes.Modes.{Modes}
use Rattle.fj_byterec.specs.Pieces.{filled_to}
use Rattle.fj_connect.specs.DirectRuns.{with_direct_run}
use Rattle.fj_connect.specs.Linked.{connection_of}
use Rattle.fj_transfer.proofs.UnformattedLemmas.{direct_past, direct_kept, far}
use Rattle.fj_transfer.proofs.unformatted.write_direct.Goals as goal
use Rattle.fj_transfer.proofs.unformatted.write_direct.Goals.{then-number-gt-LONGEST_FILE-via-then-number-gt-LONGEST_FILE, then-number-gt-LONGEST_FILE-via-else-number-gt-LONGEST_FILE+then-max-gt-LONGEST_FILE}

pub returns-then-number-gt-LONGEST_FILE-clause-written : goal.returns-then-number-gt-LONGEST_FILE-clause-written
returns-then-number-gt-LONGEST_FILE-clause-written g c = λ t cells.
    let old = connection_of g.F.FileStore.bytes c.args.connection.now in
    let number = c.args.number in
    let body = c.args.body in
    let long : c.file_len-size.result ≡ length old.bytes = c.file_len-size.ensures.bytes t in
    let fits : c.len.result ≤ old.modes.recl = rw c.modes.ensures.value at c.if-len-recl.false in
    let short : length body ≤ old.modes.recl = omega (arith, c.len.ensures, fits) in
    let past : 268435456 < max (length old.bytes) (number * old.modes.recl) = elim c.then-number-gt-LONGEST_FILE.branch [
      | then-number-gt-LONGEST_FILE-via-then-number-gt-LONGEST_FILE w ↦ omega (arith, far number old.modes.recl c.modes.ensures.length.0 w.if-number-gt-LONGEST_FILE.true)
      | then-number-gt-LONGEST_FILE-via-else-number-gt-LONGEST_FILE+then-max-gt-LONGEST_FILE w ↦ grind arith
    ] in
    direct_past old number cells body c.requires.number short past

pub returns-in_err-put_direct_run-clause-stopped : goal.returns-in_err-put_direct_run-clause-stopped
returns-in_err-put_direct_run-clause-stopped g c = λ t cells.
    let old = connection_of g.F.FileStore.bytes c.args.connection.now in
    let new = g.F.FileStore.bytes c.put_direct_run.new.self.file in
    let number = c.args.number in
    let body = c.args.body in
    let run = c.bytes.result.now in
    let width : c.from-2.result ≡ old.modes.recl = c.from-2.ensures ∙ ap (λ (m : Modes). m.recl) c.modes.ensures.value in
    let within : c.len.result ≤ old.modes.recl = rw c.modes.ensures.value at c.if-len-recl.false in
    let short : length body ≤ old.modes.recl = omega (arith, c.len.ensures, within) in
    let whole : run ≡ filled_to body old.modes.recl 0 = c.bytes.ensures ∙ c.in_ok-fill_to.ensures.ok ∙ ap (λ (m : Modes). filled_to body m.recl 0) c.modes.ensures.value in
    let end : max (length old.bytes) (number * c.from.result) ≤ 268435456 = omega (arith, c.if-max-gt-LONGEST_FILE.false, c.max.ensures, c.file_len-size.ensures.bytes t) in
    let fits = subst (λ (r : ℕ). max (length old.bytes) (number * r) ≤ 268435456) (c.from.ensures ∙ ap (λ (m : Modes). m.recl) c.modes.ensures.value) end in
    let P : ℕ → Type 0 = λ r. KeepsUpToChange old.bytes (with_direct_run old ((number - 1) * r) run number 0).bytes new in
    on_any_err c.from_residual-in_err-put_direct_run.result
    (direct_kept old number cells body run new c.requires.number short fits whole (subst P width (c.in_err-put_direct_run.ensures.stopped t)))
