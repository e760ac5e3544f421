use Rattle.std.proofs.lemmas.Result.{on_err_weaker, on_ok_weaker}
use Rattle.fj_span.proofs.ChangeLaws.{on_any_err}
use Rattle.fj_byterec.proofs.RunLemmas.{kept_in_hole, after_hole, kept_in_run, after_run}
use Rattle.fj_byterec.proofs.run.write_run.Goals as goal

pub returns-in_err-write_copies-clause-stopped : goal.returns-in_err-write_copies-clause-stopped
returns-in_err-write_copies-clause-stopped g c = λ t.
    on_any_err _ (kept_in_hole _ c.args.run.now _ c.args.start c.args.fill _ _ c.min.ensures (c.len-len.ensures.bytes t) (c.in_err-write_copies.ensures.stopped t))

pub returns-clause-bytes : goal.returns-clause-bytes
returns-clause-bytes g c = λ t.
    let filled = c.in_ok-write_copies.ensures in
    let before = after_hole _ c.args.run.now _ c.args.start c.args.fill _ _ c.min.ensures (c.len-len.ensures.bytes t) (filled.bytes t) in
    on_ok_weaker _ (after_run _ c.args.run.now _ _ c.args.start c.args.fill before) (c.write_span.ensures.bytes (filled.telling.0 t))

pub returns-clause-stopped : goal.returns-clause-stopped
returns-clause-stopped g c = λ t.
    let filled = c.in_ok-write_copies.ensures in
    let before = after_hole _ c.args.run.now _ c.args.start c.args.fill _ _ c.min.ensures (c.len-len.ensures.bytes t) (filled.bytes t) in
    on_err_weaker _ (kept_in_run _ c.args.run.now _ _ c.args.start c.args.fill before) (c.write_span.ensures.stopped (filled.telling.0 t))
