use Rattle.std.proofs.Common.{true, false}
use Rattle.fj_book.proofs.CountLemmas.{counted_less, counted_left, in_same, in_other}
use Rattle.fj_book.proofs.book.count_out.Goals as goal

pub returns-then-pending : goal.returns-then-pending
returns-then-pending c entries at low few holds counted = (
  counted_less true c.args.inputs.now c.add_all.new.self entries at c.args.pending.now low few (holds c.args.pending.now) counted.0 c.add_all.ensures (λ p. in_same true p c.args.pending.now c.if-pending.true),
  counted_left false c.args.outputs.now entries at c.args.pending.now low (holds c.args.pending.now) counted.1 (λ p. in_other false p c.args.pending.now c.if-pending.true),
)

pub returns-else-pending : goal.returns-else-pending
returns-else-pending c entries at low few holds counted = (
  counted_left true c.args.inputs.now entries at c.args.pending.now low (holds c.args.pending.now) counted.0 (λ p. in_other true p c.args.pending.now c.if-pending.false),
  counted_less false c.args.outputs.now c.add_all-else-pending.new.self entries at c.args.pending.now low few (holds c.args.pending.now) counted.1 c.add_all-else-pending.ensures
      (λ p. in_same false p c.args.pending.now c.if-pending.false),
)
