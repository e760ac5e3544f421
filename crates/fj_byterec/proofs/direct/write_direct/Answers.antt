use Rattle.std.proofs.Common.{◌≡◌, ◌+◌, ◌-◌, ◌*◌, length, take, arith}
use Rattle.std.proofs.lemmas.Result.{on_err_weaker, on_ok_weaker}
use Rattle.fj_outside.specs.Bytes.{written}
use Rattle.fj_span.specs.Change.{IsChanged}
use Rattle.fj_span.proofs.ChangeLaws.{on_any_err, kept_as, made_as}
use Rattle.fj_byterec.specs.Pieces.{with_record}
use Rattle.fj_byterec.proofs.RecordLaws.{start_is, end_is, filled_front, inside_is, kept_in_gap, after_gap, kept_in_text, after_text, kept_in_rest, after_rest}
use Rattle.fj_byterec.proofs.direct.write_direct.Goals as goal
use Rattle.fj_byterec.proofs.direct.write_direct.Goals.{After-put, In_ok-write_span}

-- the file with the record that was filled up first
inside : (g : _) (c : After-put g) → g.F.FileStore.tells c.args.file.now
    → written (g.F.FileStore.bytes c.args.file.now) (c.args.number * c.from-size.result - c.from-size.result) (take c.args.recl c.put.new.buffer)
    ≡ with_record (g.F.FileStore.bytes c.args.file.now) c.args.recl c.args.number c.args.piece.now c.args.fill
inside g c = λ t.
    let here = start_is c.args.recl c.from-size.result c.args.number c.from-size.ensures c.requires.number in
    inside_is _ _ _ c.args.recl c.args.number c.args.fill _ here (omega (arith, c.len-len.ensures.bytes t)) (filled_front _ _ c.args.recl c.args.fill c.put.ensures c.requires.piece (omega arith))

pub returns-then-start-len-clause-bytes : goal.returns-then-start-len-clause-bytes
returns-then-start-len-clause-bytes g c = λ t.
    on_ok_weaker _ (made_as _ _ _ (inside g (goal.at.returns-then-start-len-clause-bytes g c).After-put t)) (c.write_span.ensures.bytes t)

pub returns-then-start-len-clause-stopped : goal.returns-then-start-len-clause-stopped
returns-then-start-len-clause-stopped g c = λ t.
    on_err_weaker _ (kept_as _ _ _ _ (inside g (goal.at.returns-then-start-len-clause-stopped g c).After-put t)) (c.write_span.ensures.stopped t)

pub returns-in_err-write_copies-clause-stopped : goal.returns-in_err-write_copies-clause-stopped
returns-in_err-write_copies-clause-stopped g c = λ t.
    let here = start_is c.args.recl c.from-size.result c.args.number c.from-size.ensures c.requires.number in
    on_any_err _ (kept_in_gap _ _ _ c.args.recl c.args.number c.args.fill _ _ _ c.requires.piece here c.min.ensures (c.len-len.ensures.bytes t) (c.in_err-write_copies.ensures.stopped t))

pub returns-in_err-write_span-clause-stopped : goal.returns-in_err-write_span-clause-stopped
returns-in_err-write_span-clause-stopped g c = λ t.
    let here = start_is c.args.recl c.from-size.result c.args.number c.from-size.ensures c.requires.number in
    let filled = c.in_ok-write_copies.ensures in
    let before = after_gap _ _ _ c.args.recl c.args.number c.args.fill _ _ _ c.requires.piece here c.min.ensures (c.len-len.ensures.bytes t) (filled.bytes t) in
    on_any_err _ (kept_in_text _ _ _ _ c.args.recl c.args.number c.args.fill _ c.requires.piece here before (c.in_err-write_span.ensures.stopped (filled.telling.0 t)))

-- the file with the gap filled and the text written
before_rest : (g : _) (c : In_ok-write_span g) → g.F.FileStore.tells c.args.file.now
    → IsChanged (g.F.FileStore.bytes c.args.file.now) (with_record (g.F.FileStore.bytes c.args.file.now) c.args.recl c.args.number c.args.piece.now c.args.fill)
    (c.args.number * c.from-size.result - c.from-size.result + length c.args.piece.now) (g.F.FileStore.bytes c.write_span-2.new.file)
before_rest g c = λ t.
    let here = start_is c.args.recl c.from-size.result c.args.number c.from-size.ensures c.requires.number in
    let filled = c.in_ok-write_copies.ensures in
    let before = after_gap _ _ _ c.args.recl c.args.number c.args.fill _ _ _ c.requires.piece here c.min.ensures (c.len-len.ensures.bytes t) (filled.bytes t) in
    after_text _ _ _ _ c.args.recl c.args.number c.args.fill _ c.requires.piece here before (c.in_ok-write_span.ensures.bytes (filled.telling.0 t))

pub returns-clause-bytes : goal.returns-clause-bytes
returns-clause-bytes g c = λ t.
    let here = start_is c.args.recl c.from-size.result c.args.number c.from-size.ensures c.requires.number in
    let end = end_is c.args.recl c.from-size.result c.args.number c.from-size.ensures c.requires.number in
    let t' = c.in_ok-write_span.ensures.telling.0 (c.in_ok-write_copies.ensures.telling.0 t) in
    on_ok_weaker _ (after_rest _ _ _ _ c.args.recl c.args.number c.args.fill _ _ c.requires.piece here end (before_rest g (goal.at.returns-clause-bytes g c).In_ok-write_span t)) (c.write_copies-2.ensures.bytes t')

pub returns-clause-stopped : goal.returns-clause-stopped
returns-clause-stopped g c = λ t.
    let here = start_is c.args.recl c.from-size.result c.args.number c.from-size.ensures c.requires.number in
    let end = end_is c.args.recl c.from-size.result c.args.number c.from-size.ensures c.requires.number in
    let t' = c.in_ok-write_span.ensures.telling.0 (c.in_ok-write_copies.ensures.telling.0 t) in
    on_err_weaker _ (kept_in_rest _ _ _ _ c.args.recl c.args.number c.args.fill _ _ c.requires.piece here end (before_rest g (goal.at.returns-clause-stopped g c).In_ok-write_span t)) (c.write_copies-2.ensures.stopped t')
