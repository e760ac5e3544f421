use Rattle.std.proofs.Common.{◌≡◌, ◌+◌, ◌-◌, length, arith}
use Rattle.fj_span.proofs.ChangeLaws.{on_any_err}
use Rattle.fj_unfrec.proofs.AppendLaws.{kept_in_head, kept_in_body, kept_in_tail}
use Rattle.fj_unfrec.proofs.append.append_frame.Goals as goal

pub returns-in_err-write_span-2-clause-stopped : goal.returns-in_err-write_span-2-clause-stopped
returns-in_err-write_span-2-clause-stopped g c = λ t.
    on_any_err _ (kept_in_head _ _ _ _ c.args.at _ _ c.requires.place c.len.ensures.size (c.len.ensures.bytes t) c.to_le_bytes-width.ensures (c.in_err-write_span-2.ensures.stopped t))

pub returns-in_err-write_span-3-clause-stopped : goal.returns-in_err-write_span-3-clause-stopped
returns-in_err-write_span-3-clause-stopped g c = λ t.
    let first = c.in_ok-write_span-2.ensures in
    on_any_err _
    (kept_in_body _ _ _ _ _ c.args.at _ _ c.requires.place c.len.ensures.size (c.len.ensures.bytes t) c.to_le_bytes-width.ensures (first.bytes t) (c.in_err-write_span-3.ensures.stopped (first.telling.0 t)))

pub returns-in_err-write_span-4-clause-stopped : goal.returns-in_err-write_span-4-clause-stopped
returns-in_err-write_span-4-clause-stopped g c = λ t.
    let first = c.in_ok-write_span-2.ensures in
    let second = c.in_ok-write_span-3.ensures in
    let t' = first.telling.0 t in
    let behind : c.args.at + length c.args.body.now + 8 - 4 ≡ c.args.at + 4 + length c.args.body.now = omega arith in
    on_any_err _
    (kept_in_tail _ _ _ _ _ _ c.args.at _ _ _ c.requires.place c.len.ensures.size (c.len.ensures.bytes t) c.to_le_bytes-width.ensures (first.bytes t) (second.bytes t') behind (c.in_err-write_span-4.ensures.stopped (second.telling.0 t')))
