use Rattle.fj_span.proofs.ChangeLaws.{kept_by_part, on_any_err}
use Rattle.fj_span.proofs.write.write_span.Goals as goal

pub returns-in_err-write_piece-clause-stopped : goal.returns-in_err-write_piece-clause-stopped
returns-in_err-write_piece-clause-stopped g c = λ t.
    on_any_err _ (kept_by_part _ _ _ _ _ _ c.args.shorten c.requires.place c.len-len.ensures.size (c.len-len.ensures.bytes t) (c.in_err-write_piece.ensures.err t))
