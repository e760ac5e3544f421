use Rattle.std.proofs.Common.{◌≡◌, sym, ◌∙◌, arith}
use Rattle.fj_list.specs.ListInput.{condition_of}
use Rattle.fj_list.specs.Scan.{ahead, constant_of}
use Rattle.fj_list.proofs.Outcomes.{supplied_missing}
use Rattle.fj_list.proofs.split.supply.Goals as goal

pub returns-then-is_some-clause-contents : goal.returns-then-is_some-clause-contents
returns-then-is_some-clause-contents g c = λ t.
    let s = c.args.scan.now in
    let to_come = g.R.Records.to_come c.args.records.now in
    let left = g.R.Records.to_come c.reach_value.new.records in
    let none : s.count ≡ 0 = omega arith in
    supplied_missing c.in_ok-end.end c.args.comma c.args.first (condition_of (g.R.Records.ending c.args.records.now)) s.count s.form (constant_of s.form s) (ahead s to_come)
    (ahead c.reach_value.new.scan left) c.reach_value.new.scan left (sym c.is_some.ensures ∙ c.if-is_some.true) none (c.in_ok-end.ensures.contents t)
