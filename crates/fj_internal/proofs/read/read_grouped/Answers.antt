use Rattle.std.proofs.Common.{ap, subst, ◌∙◌, Result, arith}
use Rattle.std.specs.Prelude.{IfOk}
use Rattle.fj_value.specs.declared.condition.Condition.{Condition}
use Rattle.fj_outside.specs.declared.errors.Stop.{Stop}
use Rattle.fj_list.specs.ListInput.{condition_of}
use Rattle.fj_list.specs.Scan.{IsOutcome}
use Rattle.fj_namelist.specs.GroupInput.{group_input}
use Rattle.fj_transfer.specs.Ahead.{ending_of}
use Rattle.fj_transfer.specs.Transfer.{up_to_excess, behind_them}
use Rattle.fj_transfer.proofs.AheadLemmas.{behind_all}
use Rattle.fj_internal.specs.Internal.{records_of}
use Rattle.fj_internal.specs.Records.{outcome_taken}
use Rattle.fj_internal.proofs.Heads.{outcome_read}
use Rattle.fj_internal.proofs.read.read_grouped.Goals as goal

pub unstopped-requires : goal.unstopped-requires
unstopped-requires c = λ e. absurd (omega (arith, c.read_group.ensures.failed e))

pub returns-clause-taken : goal.returns-clause-taken
returns-clause-taken c =
    let before = c.args.moved.now in
    let records = records_of c.args.elements.now in
    let comma = c.args.modes.comma in
    let C : Result Condition Stop → Type 0 = λ r. IfOk r (λ condition. IsOutcome condition
    (group_input c.args.modes.comma (up_to_excess 65536 (records_of c.args.elements.now)) (condition_of (ending_of (behind_them 65536 (records_of c.args.elements.now)))) c.args.group.now c.args.members.now c.args.moved.now.cells)
    c.read_group.new.moved.cells (up_to_excess 65536 (records_of c.read_group.new.records.elements.now))) in
    c.leave.ensures.taken
    ∙ outcome_read _ _ _ _ (subst C c.in_ok-condition.ensures (c.read_group.ensures.contents tt))
    ∙ ap (λ k. outcome_taken (group_input comma (up_to_excess 65536 records) k c.args.group.now c.args.members.now before.cells)) (behind_all (behind_them 65536 records))
