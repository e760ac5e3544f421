use Rattle.std.proofs.Common.{◌≤◌, ◌-◌, ◌++◌, length, replicate, ap, arith}
use Rattle.fj_format.specs.Unfolding as step
use Rattle.fj_line.specs.Page.{at_hand}
use Rattle.fj_control.specs.Steps.{gives}
use Rattle.fj_control.specs.Walk.{due}
use Rattle.fj_transfer.specs.Writing.{items_of_writer, actions_left}
use Rattle.fj_transfer.proofs.WriterLemmas.{first_as, ahead_few}
use Rattle.fj_transfer.proofs.writer.Writer.write_run.Goals as goal

pub returns-in-Some-clause-done : goal.returns-in-Some-clause-done
returns-in-Some-clause-done c =
    let w = c.args.self.now in
    let n = length (items_of_writer w) in
    let count = c.in-Some.count in
    let few : count ≤ n = omega (arith, c.in-Some.ensures.few.1, ap length c.ahead.ensures.values, ahead_few w.items) in
    let next = c.run.new.self in
    let w' = c.put_items.new.self in
    first_as (at_hand w.page c.args.text.now) (at_hand w'.page c.put_items.new.text) (actions_left w (due c.args.cursor.now n)) (actions_left w (replicate count (gives (step.edit c.in-Some.edit)) ++ due next (n - count)))
    (λ m. actions_left w' (due next m)) (n - count) (length (items_of_writer w')) c.put_items.result
    (ap (actions_left w) (c.in-Some.ensures.due n few)) (c.put_items.ensures.done (due next (n - count))) c.put_items.ensures.left
