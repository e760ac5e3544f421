use Rattle.std.proofs.Common.{ℕ, ◌+◌, true, false, List, Some, None, get_or, drop, ap, sym, subst, ◌∙◌, rules}
use Rattle.std.proofs.lemmas.List.{drop_all}
use Rattle.fj_value.specs.declared.condition.Condition.{Condition}
use Rattle.fj_value.specs.declared.condition.Condition.TheVariants.{Fine}
use Rattle.fj_value.specs.declared.value.Cell.{Cell}
use Rattle.fj_list.specs.declared.constant.Form.{Form}
use Rattle.fj_list.specs.Stream.{Stream}
use Rattle.fj_list.specs.ListInput.{Split, Outcome, condition_of, split, supplied, served_from, items_read}
use Rattle.fj_list.specs.Scan.{ahead, constant_of, IsSplit}
use Rattle.fj_list.proofs.Outcomes.{items_step, outcome_same, outcome_stopped, outcome_wrong, outcome_on, outcome_fine, constant_kept}
use Rattle.fj_list.proofs.read.read_items.Goals as goal

pub returns-in-Some-clause-contents : goal.returns-in-Some-clause-contents
returns-in-Some-clause-contents g c = λ t.
    let kept = c.loop-at.invariant in
    let order = c.args.order.now in
    let i = c.loop-at.at-index in
    let cells = c.loop-at.cells in
    let before = c.loop-at.scan in
    let to_come = g.R.Records.to_come c.loop-at.records in
    let rest = ahead before to_come in
    let ending = condition_of (g.R.Records.ending c.args.records.now) in
    let after = c.supply.new.scan in
    let left = g.R.Records.to_come c.supply.new.records in
    let at = get_or order i 0 in
    let all = items_read c.args.comma ending order c.args.cells.now true c.args.scan.now.count c.args.scan.now.form (constant_of c.args.scan.now.form c.args.scan.now) (ahead c.args.scan.now (g.R.Records.to_come c.args.records.now)) in
    let wanted : Condition → Split = λ e. supplied before.count before.form (constant_of before.form before) rest (split c.args.comma e c.loop-at.first rest) in
    let next : ℕ → Form → List ℕ → Stream → List Cell → Outcome = λ count form cs s cells'. items_read c.args.comma ending (drop (i + 1) order) cells' false count form cs s in
    let step = items_step c.args.comma ending order i cells c.loop-at.first before.count before.form (constant_of before.form before) rest c.loop-at-test.true in
    let P : Condition → Type 0 = λ e. IsSplit (Some c.in-Some.condition) (wanted e) after left in
    let h = rw c.in-Some.is at (c.in_ok-condition.ensures.contents (kept.telling.0 t)) in
    outcome_same c.in-Some.condition (served_from (wanted ending) cells at next) all cells left (sym step ∙ kept.contents t)
    (outcome_stopped c.in-Some.condition (wanted ending) after left cells at next (subst P (ap condition_of (kept.same t)) h))

pub returns-in-Some-2-clause-contents : goal.returns-in-Some-2-clause-contents
returns-in-Some-2-clause-contents g c = λ t.
    let kept = c.loop-at.invariant in
    let order = c.args.order.now in
    let i = c.loop-at.at-index in
    let cells = c.loop-at.cells in
    let before = c.loop-at.scan in
    let to_come = g.R.Records.to_come c.loop-at.records in
    let rest = ahead before to_come in
    let ending = condition_of (g.R.Records.ending c.args.records.now) in
    let after = c.supply.new.scan in
    let left = g.R.Records.to_come c.supply.new.records in
    let at = get_or order i 0 in
    let all = items_read c.args.comma ending order c.args.cells.now true c.args.scan.now.count c.args.scan.now.form (constant_of c.args.scan.now.form c.args.scan.now) (ahead c.args.scan.now (g.R.Records.to_come c.args.records.now)) in
    let wanted : Condition → Split = λ e. supplied before.count before.form (constant_of before.form before) rest (split c.args.comma e c.loop-at.first rest) in
    let next : ℕ → Form → List ℕ → Stream → List Cell → Outcome = λ count form cs s cells'. items_read c.args.comma ending (drop (i + 1) order) cells' false count form cs s in
    let step = items_step c.args.comma ending order i cells c.loop-at.first before.count before.form (constant_of before.form before) rest c.loop-at-test.true in
    let Q : Condition → Type 0 = λ e. IsSplit None (wanted e) after left in
    let h = rw c.in_default.is at (c.in_ok-condition.ensures.contents (kept.telling.0 t)) in
    outcome_same c.in-Some-2.condition (served_from (wanted ending) cells at next) all c.serve.new.cells left (sym step ∙ kept.contents t)
    (outcome_wrong c.in-Some-2.condition (wanted ending) after left cells c.serve.new.cells at next (subst Q (ap condition_of (kept.same t)) h) (rw c.in-Some-2.is at c.in_ok-condition-2.ensures.served))

pub loop-at-preserved : goal.loop-at-preserved
loop-at-preserved g c =
    let kept = c.loop-at.invariant in
    let order = c.args.order.now in
    let i = c.loop-at.at-index in
    let cells = c.loop-at.cells in
    let before = c.loop-at.scan in
    let to_come = g.R.Records.to_come c.loop-at.records in
    let rest = ahead before to_come in
    let ending = condition_of (g.R.Records.ending c.args.records.now) in
    let after = c.supply.new.scan in
    let left = g.R.Records.to_come c.supply.new.records in
    let at = get_or order i 0 in
    let all = items_read c.args.comma ending order c.args.cells.now true c.args.scan.now.count c.args.scan.now.form (constant_of c.args.scan.now.form c.args.scan.now) (ahead c.args.scan.now (g.R.Records.to_come c.args.records.now)) in
    let wanted : Condition → Split = λ e. supplied before.count before.form (constant_of before.form before) rest (split c.args.comma e c.loop-at.first rest) in
    let next : ℕ → Form → List ℕ → Stream → List Cell → Outcome = λ count form cs s cells'. items_read c.args.comma ending (drop (i + 1) order) cells' false count form cs s in
    let step = items_step c.args.comma ending order i cells c.loop-at.first before.count before.form (constant_of before.form before) rest c.loop-at-test.true in
    let Q : Condition → Type 0 = λ e. IsSplit None (wanted e) after left in
    let sound = c.in_ok-condition.ensures.sound in
    record {
      sound = record { at = sound.at; start = sound.start; end = sound.end };
      places = c.in_ok-condition-2.ensures.places ∙ kept.places;
      telling = search rules;
      contents = λ t.
          let h = rw c.in_default.is at (c.in_ok-condition.ensures.contents (kept.telling.0 t)) in
          ap (λ cs. next c.saturating_sub-scan.result after.form cs (ahead after left) c.serve.new.cells) (constant_kept after.form after c.saturating_sub-scan.result)
          ∙ ap (λ n. next n after.form (constant_of after.form after) (ahead after left) c.serve.new.cells) c.saturating_sub-scan.ensures
          ∙ sym (outcome_on (wanted ending) after left cells c.serve.new.cells at next (subst Q (ap condition_of (kept.same t)) h) (rw c.in_default-2.is at c.in_ok-condition-2.ensures.served))
          ∙ sym step ∙ kept.contents t;
      same = search rules;
      source = search rules;
      later = search rules;
    }

pub returns-clause-contents : goal.returns-clause-contents
returns-clause-contents g c = λ t.
    let kept = c.loop-at.invariant in
    let order = c.args.order.now in
    let i = c.loop-at.at-index in
    let before = c.loop-at.scan in
    let to_come = g.R.Records.to_come c.loop-at.records in
    let ending = condition_of (g.R.Records.ending c.args.records.now) in
    outcome_same Fine (items_read c.args.comma ending (drop i order) c.loop-at.cells c.loop-at.first before.count before.form (constant_of before.form before) (ahead before to_come)) (items_read c.args.comma ending order c.args.cells.now true c.args.scan.now.count c.args.scan.now.form (constant_of c.args.scan.now.form c.args.scan.now) (ahead c.args.scan.now (g.R.Records.to_come c.args.records.now))) c.loop-at.cells to_come (kept.contents t)
    (outcome_fine c.args.comma ending (drop i order) c.loop-at.cells c.loop-at.first before.count before.form (constant_of before.form before) (drop before.at before.line) to_come (drop_all i order c.loop-at-test.false))
