use Rattle.std.proofs.Common.{sym}
use Rattle.fj_value.specs.declared.value.Value.TheVariants.{Undefined}
use Rattle.fj_store.proofs.TableLemmas.{row_missing}
use Rattle.fj_store.proofs.rows.take_in.Goals as goal

pub returns-in-None-clause-new : goal.returns-in-None-clause-new
returns-in-None-clause-new c = sym (row_missing c.args.index c.args.values.now Undefined c.in-None.ensures.none)
