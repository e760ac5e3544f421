use Rattle.std.proofs.Common.{refl, ap, ◌∙◌}
use Rattle.fj_unit.proofs.Rows.{row_facts, row_of}
use Rattle.fj_unit.proofs.transfer.transfer_job.Goals as goal

pub invariant_of-transfer : goal.invariant_of-transfer
invariant_of-transfer c =
    let is = c.of_row.ensures ∙ ap (row_of (record { var = 0; index = 1 }) c.args.kind) c.of.ensures in
    let f = row_facts c.args.layout (record { var = 0; index = 1 }) c.args.kind c.args.values c.of_row.result is c.requires.few c.requires.alone in
    record { distinct = f.0; single = refl; ordered = f.1; few = f.2; grouped = f.3 }
