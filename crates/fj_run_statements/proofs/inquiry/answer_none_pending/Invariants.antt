use Rattle.std.proofs.Common.{◌≡◌, drop}
use Rattle.fj_store.specs.Storage.{values_of}
use Rattle.fj_meaning.specs.Inquiring.{none_pending}
use Rattle.fj_meaning.specs.Items.{given_back}
use Rattle.fj_run_statements.proofs.inquiry.answer_none_pending.Given as goal

abbrev pub invariant-loop-wanted : goal.invariant-loop-wanted
invariant-loop-wanted l = record {
  vars : given_back l.variables (none_pending (drop l.wanted-index l.wanted-items)) (values_of l.store) ≡ given_back l.variables (none_pending l.asked) (values_of l.initial.store);
  kinds : l.store.kinds ≡ l.initial.store.kinds;
}
