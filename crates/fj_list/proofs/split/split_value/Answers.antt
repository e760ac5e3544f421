use Rattle.std.proofs.Common.{sym, ◌∙◌, false}
use Rattle.fj_value.specs.declared.condition.Condition.TheVariants.{Error}
use Rattle.fj_list.specs.ListInput.{condition_of, delimited, value_at}
use Rattle.fj_list.specs.Scan.{ahead}
use Rattle.fj_list.proofs.Outcomes.{is_stopped, is_missing, closed_missing, closed_wrong}
use Rattle.fj_list.proofs.split.split_value.Goals as goal

pub returns-in-Some-clause-contents : goal.returns-in-Some-clause-contents
returns-in-Some-clause-contents g c = λ t.
    let to_come = g.R.Records.to_come c.args.records.now in
    let ending = condition_of (g.R.Records.ending c.args.records.now) in
    let s = c.read_value.new.self in
    let h = rw c.in-Some.is at (c.in_ok-condition-in-Opened.ensures.contents t) in
    is_missing c.in-Some.condition ending (value_at c.args.comma ending (ahead c.args.scan.now to_come)) c.read_delimited.new.scan (g.R.Records.to_come c.read_delimited.new.records)
    (c.in-Opened.ensures.split ending to_come ∙ closed_missing c.args.comma ending s.count (delimited c.in-Opened.mark false (ahead s to_come)) h.0) h.1 h.2

pub returns-then-not-has_ended-clause-contents : goal.returns-then-not-has_ended-clause-contents
returns-then-not-has_ended-clause-contents g c = λ t.
    let to_come = g.R.Records.to_come c.args.records.now in
    let ending = condition_of (g.R.Records.ending c.args.records.now) in
    let s = c.read_value.new.self in
    let after = c.read_delimited.new.scan in
    let left = g.R.Records.to_come c.read_delimited.new.records in
    let h = rw c.in_default.is at (c.in_ok-condition-in-Opened.ensures.contents t) in
    is_stopped (Error 13) (value_at c.args.comma ending (ahead c.args.scan.now to_come)) after left
    (c.in-Opened.ensures.split ending to_come
    ∙ closed_wrong c.args.comma ending s.count (delimited c.in-Opened.mark false (ahead s to_come)) after.characters (ahead after left) h (sym (c.has_ended.ensures.ended left) ∙ c.if-not-has_ended.true))

pub returns-in-Stopped-clause-contents : goal.returns-in-Stopped-clause-contents
returns-in-Stopped-clause-contents g c = λ t.
    let to_come = g.R.Records.to_come c.args.records.now in
    let ending = condition_of (g.R.Records.ending c.args.records.now) in
    is_stopped c.in-Stopped.condition (value_at c.args.comma ending (ahead c.args.scan.now to_come)) c.read_value.new.self to_come (c.in-Stopped.ensures.split ending to_come)
