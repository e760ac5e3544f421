use Rattle.std.proofs.Common.{rules, arith}
use Rattle.fj_store.specs.Places.{places_in}
use Rattle.fj_meaning.specs.Items as plain
use Rattle.fj_run_pending.proofs.Pushing.{pushed, all_pushed}
use Rattle.fj_run_pending.proofs.runs.push_operands.Goals as goal

pub loop-operand-preserved : goal.loop-operand-preserved
loop-operand-preserved c =
    pushed (plain.operand_places c.args.variables.now) (places_in c.loop-operand.runs) (places_in c.push_operand.new.runs) _ c.args.operands.now c.loop-operand.operand-index c.operand-item.result (omega arith) c.operand-item.is
    c.in_ok-push_operand.ensures c.loop-operand.invariant

pub returns : goal.returns
returns c = search (rules, all_pushed)
