use Rattle.std.proofs.Common.{◌<◌, length, get_or, rules, arith}
use Rattle.fj_store.specs.Places.{places_in}
use Rattle.fj_book.proofs.AnyLemmas.{same_item}
use Rattle.fj_meaning.specs.Items as plain
use Rattle.fj_run_pending.proofs.Pushing.{pushed, all_pushed}
use Rattle.fj_run_pending.proofs.runs.push_variables.Goals as goal

pub loop-var-preserved : goal.loop-var-preserved
loop-var-preserved c =
    let low : c.loop-var.var-index < length c.args.vars.now = omega arith in
    pushed (plain.places_of c.args.variables.now) (places_in c.loop-var.runs) (places_in c.push_variable.new.runs) _ c.args.vars.now c.loop-var.var-index (get_or c.args.vars.now c.loop-var.var-index 0) low
    (same_item c.args.vars.now c.loop-var.var-index 0 low) c.in_ok-push_variable.ensures c.loop-var.invariant

pub returns : goal.returns
returns c = search (rules, all_pushed)
