use Rattle.std.proofs.Common.{sym}
use Rattle.fj_store.proofs.TableLemmas.{row_missing}
use Rattle.fj_store.proofs.table.replace_in.Goals as goal

pub returns-in-None-clause-new : goal.returns-in-None-clause-new
returns-in-None-clause-new g c = sym (row_missing c.args.index c.args.row.now c.args.element c.in-None.ensures.none)
