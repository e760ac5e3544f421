use Rattle.std.proofs.Common.{ℕ, ◌+◌, List, take, drop, ap, rules}
use Rattle.fj_span.proofs.PieceLaws.{taken_more}
use Rattle.fj_span.proofs.read.read_span.Goals as goal

pub taking-preserved : goal.taking-preserved
taking-preserved g c =
    let kept = c.taking.invariant in
    let read = c.in_ok-taken.ensures in
    let part = c.in_ok-taken.field-0 in
    record {
      within = search rules;
      telling = search rules;
      same = search rules;
      text = λ t. taken_more _ _ _ _ _ c.args.at c.taking.taken part (kept.text t) (read.bytes (kept.telling.0 t)) (ap (λ (held : List ℕ). take part (drop (c.args.at + c.taking.taken) held)) (kept.same t));
      longer = search rules;
      size = search rules;
      later = search rules;
    }
