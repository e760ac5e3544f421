use Rattle.std.proofs.Common.{true, false, arith}
use Rattle.fj_book.proofs.CountLemmas.{counted_more, counted_still, in_same, in_other}
use Rattle.fj_book.proofs.book.count_in.Goals as goal

pub returns-then-pending : goal.returns-then-pending
returns-then-pending c up = record {
  ascending = up;
  inputs_counted = counted_more true c.args.inputs.now c.add_all.new.self c.args.entries.now.items c.args.pending.now c.requires.inputs_counted c.add_all.ensures (omega (arith, c.args.entries.now.ok, c.args.entries.now.small)) (λ p. in_same true p c.args.pending.now c.if-pending.true);
  outputs_counted = counted_still false c.args.outputs.now c.args.entries.now.items c.args.pending.now c.requires.outputs_counted (λ p. in_other false p c.args.pending.now c.if-pending.true);
}

pub returns-else-pending : goal.returns-else-pending
returns-else-pending c up = record {
  ascending = up;
  inputs_counted = counted_still true c.args.inputs.now c.args.entries.now.items c.args.pending.now c.requires.inputs_counted (λ p. in_other true p c.args.pending.now c.if-pending.false);
  outputs_counted = counted_more false c.args.outputs.now c.add_all-else-pending.new.self c.args.entries.now.items c.args.pending.now c.requires.outputs_counted c.add_all-else-pending.ensures (omega (arith, c.args.entries.now.ok, c.args.entries.now.small)) (λ p. in_same false p c.args.pending.now c.if-pending.false);
}
