use Rattle.std.proofs.Common.{◌<◌, ◌≤◌, ◌+◌, length, ap, subst, arith}
use Rattle.fj_span.specs.Change.{KeepsUpToChange}
use Rattle.fj_span.proofs.ChangeLaws.{on_any_err}
use Rattle.fj_connect.specs.Connection.{Connection, with_records, with_open_record}
use Rattle.fj_connect.specs.Linked.{connection_of}
use Rattle.fj_transfer.specs.Places.{at_place}
use Rattle.fj_transfer.proofs.FormattedLemmas.{placed, ended_kept, open_kept}
use Rattle.fj_transfer.proofs.formatted.put_text.Goals as goal
use Rattle.fj_transfer.proofs.formatted.put_text.Goals.{then-ends, else-ends}

pub returns-in_err-put_records-clause-stopped : goal.returns-in_err-put_records-clause-stopped
returns-in_err-put_records-clause-stopped g c = λ t cells.
    let bytes = g.F.FileStore.bytes in
    let now = c.args.connection.now in
    let old = connection_of bytes now in
    let at = at_place c.args.place old in
    let new = bytes c.put_records.new.self.file in
    let kept = (rw c.go_to.ensures at c.in_err-put_records.ensures).stopped t in
    let P : Connection → Type 0 = λ p. KeepsUpToChange old.bytes (with_records p c.args.text.now).bytes new in
    let fits : at.spot.at + length c.args.text.now ≤ 268435456 = omega (arith, ap (λ (p : Connection). p.spot.at) (placed bytes now c.args.place), c.position.ensures.at, c.if-behind-feed-gt-LONGEST_FILE.false) in
    on_any_err c.from_residual.result (ended_kept old at cells c.args.text.now c.args.count c.args.ends new c.if-ends-2.true fits (subst P (placed bytes now c.args.place) kept))

pub returns-in_err-put_open_record-clause-stopped :
    goal.returns-in_err-put_open_record-clause-stopped
returns-in_err-put_open_record-clause-stopped g c = λ t cells.
    let bytes = g.F.FileStore.bytes in
    let now = c.args.connection.now in
    let old = connection_of bytes now in
    let at = at_place c.args.place old in
    let new = bytes c.put_open_record.new.self.file in
    let kept = (rw c.go_to.ensures at c.in_err-put_open_record.ensures).stopped t in
    let P : Connection → Type 0 = λ p. KeepsUpToChange old.bytes (with_open_record p c.args.text.now c.args.count).bytes new in
    let fits : at.spot.at + length c.args.text.now < 268435456 = elim c.if-ends.branch [
      | then-ends w ↦ cc (w.if-ends.true, c.if-ends-2.false)
      | else-ends w ↦ omega (arith, ap (λ (p : Connection). p.spot.at) (placed bytes now c.args.place), c.position.ensures.at, c.if-behind-feed-gt-LONGEST_FILE.false, w.feed-is)
    ] in
    on_any_err c.from_residual-in_err-put_open_record.result (open_kept old at cells c.args.text.now c.args.count c.args.ends new c.if-ends-2.false fits (subst P (placed bytes now c.args.place) kept))
