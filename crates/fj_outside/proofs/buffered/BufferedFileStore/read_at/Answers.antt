use Rattle.std.proofs.Common.{◌≡◌, ◌++◌, length, take, drop, subst, List, ℕ, sym, ap, ◌∙◌, ◌<◌, ◌≤◌, arith}
use Rattle.std.proofs.lemmas.List.{length-take}
use Rattle.fj_outside.specs.Buffered.{window_in}
use Rattle.fj_outside.specs.Windows.{IsWindowOf, lent}
use Rattle.fj_outside.proofs.WindowLaws.{after_ready, served}
use Rattle.fj_outside.proofs.buffered.BufferedFileStore.read_at.Goals as goal
use Rattle.fj_outside.proofs.buffered.BufferedFileStore.read_at.Goals.{else-due-gt-WINDOW-via-then-due-gt-WINDOW+else-from-due, else-due-gt-WINDOW-via-else-due-gt-WINDOW}

pub returns-clause-window : goal.returns-clause-window
returns-clause-window g c = λ t.
    let ready = c.in_ok-ready.ensures in
    let old = c.args.self.now in
    let now = c.ready.new.self in
    let bytes = g.F.FileStore.bytes old.file in
    let is : IsWindowOf bytes now.window = subst (λ (all : List ℕ). IsWindowOf all now.window) (ready.same t) (now.of_file (ready.telling.0 t)) in
    let told = sym c.len.ensures.size ∙ c.len.ensures.bytes t in
    after_ready old.window now.window bytes c.args.at (length c.args.buf.now) c.min-due.result (g.F.FileStore.size old.file) told (omega arith) (λ within. ap window_in (ready.kept within).1) ready.place ready.amount
    (λ beyond. elim c.else-due-gt-WINDOW.branch [
      | else-due-gt-WINDOW-via-then-due-gt-WINDOW+else-from-due w ↦ absurd (omega (arith, ap length w.from.ensures, w.if-from-due.false, beyond))
      | else-due-gt-WINDOW-via-else-due-gt-WINDOW w ↦ omega arith
    ]) is

pub returns-clause-bytes : goal.returns-clause-bytes
returns-clause-bytes g c = λ t.
    let ready = c.in_ok-ready.ensures in
    let old = c.args.self.now in
    let now = c.ready.new.self in
    let bytes = g.F.FileStore.bytes old.file in
    let is : IsWindowOf bytes now.window = subst (λ (all : List ℕ). IsWindowOf all now.window) (ready.same t) (now.of_file (ready.telling.0 t)) in
    let copied : c.copy_from_slice.new.self ≡ take c.min-due.result (lent now.window c.args.at) = c.copy_from_slice.ensures.after ∙ ap (take c.min-due.result) c.from-2.ensures in
    let fits : c.min-due.result ≤ length (lent now.window c.args.at) =
    omega (arith, ap length copied, c.copy_from_slice.ensures.len, length-take c.min-due.result (lent now.window c.args.at), length-take c.min-due.result c.args.buf.now) in
    ap (λ s. s ++ drop c.min-due.result c.args.buf.now) (copied ∙ served bytes now.window c.args.at c.min-due.result is fits)
