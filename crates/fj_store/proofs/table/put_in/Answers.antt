use Rattle.std.proofs.Common.{sym, ap, ◌∙◌}
use Rattle.fj_store.specs.Tables.{row_with}
use Rattle.fj_store.proofs.TableLemmas.{row_missing}
use Rattle.fj_store.proofs.table.put_in.Goals as goal
use Rattle.fj_store.proofs.table.put_in.Goals.{in-Some, in-None}

pub returns : goal.returns
returns g c = elim c.match-position_in.branch [
  | in-Some w ↦ w.row-is ∙ w.replace.ensures.rest ∙ ap (λ n. row_with n c.args.element c.args.row.now) (sym w.in-Some.ensures.some.1)
  | in-None w ↦ w.row-is ∙ sym (row_missing c.args.index c.args.row.now c.args.element w.in-None.ensures.none)
]
