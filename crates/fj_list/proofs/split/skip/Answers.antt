use Rattle.std.proofs.Common.{◌≤◌, ◌+◌, length, drop, ap, sym, ◌∙◌, rules, arith}
use Rattle.std.specs.List.{position_or_len}
use Rattle.fj_list.specs.Stream.{stream, is_no_blank, skipped}
use Rattle.fj_list.specs.ListInput.{condition_of}
use Rattle.fj_list.specs.Scan.{ahead}
use Rattle.fj_list.proofs.StreamLaws.{skip_passes}
use Rattle.fj_list.proofs.Outcomes.{stops_by, reaches_end, reaches_next}
use Rattle.fj_list.proofs.split.skip.Goals as goal

pub returns-then-scan-len-clause-contents : goal.returns-then-scan-len-clause-contents
returns-then-scan-len-clause-contents g c = λ t.
    let before = c.lines.scan in
    let after = c.pass_blanks.new.self in
    stops_by before.line after.line before.at after.at (g.R.Records.to_come c.lines.records) (skipped (ahead c.args.scan.now (g.R.Records.to_come c.args.records.now)))
    c.pass_blanks.ensures.line c.pass_blanks.ensures.at c.lines.invariant.sound.at (omega arith) (c.lines.invariant.contents t)

pub returns-then-is_some-clause-contents : goal.returns-then-is_some-clause-contents
returns-then-is_some-clause-contents g c = λ t.
    let kept = c.lines.invariant in
    let before = c.lines.scan in
    let to_come = g.R.Records.to_come c.lines.records in
    let long = ap length c.pass_blanks.ensures.line in
    let past : length before.line ≤ before.at + position_or_len is_no_blank (drop before.at before.line) = omega arith in
    reaches_end c.in_ok-end.end (stream to_come) (skipped (ahead c.args.scan.now (g.R.Records.to_come c.args.records.now))) (ahead c.advance.new.scan (g.R.Records.to_come c.advance.new.records))
    (condition_of (g.R.Records.ending c.args.records.now)) (condition_of (g.R.Records.ending c.lines.records)) (g.R.Records.to_come c.advance.new.records)
    (sym c.is_some.ensures ∙ c.if-is_some.true)
    (λ none. sym (kept.contents t) ∙ skip_passes before.line before.at to_come past ∙ ap skipped none)
    (ap condition_of (kept.same t)) (c.in_ok-end.ensures.contents (kept.telling.0 t))

pub lines-preserved : goal.lines-preserved
lines-preserved g c =
    let kept = c.lines.invariant in
    let before = c.lines.scan in
    let to_come = g.R.Records.to_come c.lines.records in
    let long = ap length c.pass_blanks.ensures.line in
    let past : length before.line ≤ before.at + position_or_len is_no_blank (drop before.at before.line) = omega arith in
    record {
      sound = c.in_ok-end.ensures.sound;
      telling = search rules;
      contents = λ t. ap skipped (reaches_next c.in_ok-end.end (stream to_come) (ahead c.advance.new.scan (g.R.Records.to_come c.advance.new.records)) (condition_of (g.R.Records.ending c.lines.records)) (g.R.Records.to_come c.advance.new.records)
          (sym c.is_some.ensures ∙ c.if-is_some.false) (c.in_ok-end.ensures.contents (kept.telling.0 t)))
          ∙ sym (skip_passes before.line before.at to_come past) ∙ kept.contents t;
      same = search rules;
      source = search rules;
      later = search rules;
    }
