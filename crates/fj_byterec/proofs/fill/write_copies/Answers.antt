use Rattle.std.proofs.Common.{◌≡◌, ◌+◌, ◌≤◌, length, take, replicate, ap, ◌∙◌, arith}
use Rattle.std.proofs.lemmas.List.{take-replicate, length-replicate}
use Rattle.fj_span.proofs.ChangeLaws.{changed_next, kept_at_piece, on_any_err}
use Rattle.fj_byterec.proofs.CopyLaws.{next_copies, size_more}
use Rattle.fj_byterec.proofs.fill.write_copies.Goals as goal

pub returns-in_err-write_span-clause-stopped : goal.returns-in_err-write_span-clause-stopped
returns-in_err-write_span-clause-stopped g c = λ t.
    let kept = c.filling.invariant in
    let within : c.args.from ≤ length (g.F.FileStore.bytes c.args.file.now) = omega (arith, c.len.ensures.bytes t, c.len.ensures.size, c.requires.place) in
    let next = next_copies _ c.args.from c.args.to c.args.fill c.filling.place c.min-width.result _ within kept.above (omega arith) (take-replicate c.min-width.result 1024 c.args.fill (omega arith)) in
    on_any_err _ (kept_at_piece _ _ _ _ _ c.filling.place (kept.changed t) next (c.in_err-write_span.ensures.stopped (kept.telling.0 t)))

pub filling-preserved : goal.filling-preserved
filling-preserved g c =
    let kept = c.filling.invariant in
    let wrote = c.in_ok-write_span.ensures in
    let width = c.min-width.result in
    let copies : take width (replicate 1024 c.args.fill) ≡ replicate width c.args.fill = take-replicate width 1024 c.args.fill (omega arith) in
    let long : length (take width (replicate 1024 c.args.fill)) ≡ width = ap length copies ∙ length-replicate width c.args.fill in
    record {
      above = omega arith;
      below = omega arith;
      telling = (λ t. wrote.telling.0 (kept.telling.0 t), λ t. kept.telling.1 (wrote.telling.1 t));
      changed = λ t.
          let within : c.args.from ≤ length (g.F.FileStore.bytes c.args.file.now) = omega (arith, c.len.ensures.bytes t, c.len.ensures.size, c.requires.place) in
          let next = next_copies _ c.args.from c.args.to c.args.fill c.filling.place width _ within kept.above (omega arith) copies in
          changed_next _ _ _ _ _ c.filling.place (c.filling.place + width) (kept.changed t) next (wrote.bytes (kept.telling.0 t)) (ap (λ n. c.filling.place + n) long);
      size = size_more _ _ _ c.filling.place _ width kept.size wrote.size long;
      later = omega arith;
    }
