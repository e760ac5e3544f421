use Rattle.std.proofs.Common.{◌<◌, length, arith}
use Rattle.std.proofs.lemmas.List.{get_or_read}
use Rattle.fj_run_script.proofs.Spending.{sum_more}
use Rattle.fj_run_script.proofs.tally.Tally.submitted.Goals as goal

pub returns-clause-sum : goal.returns-clause-sum
returns-clause-sum c =
    let s = c.args.self.now in
    let slot = c.in-Submitting.slot in
    let may = s.submits slot c.in-Submitting.is in
    let within : slot < length s.owed.items = omega (arith, may.1, s.sixteen) in
    sum_more s.owed.items slot c.index-owed.result.now within (get_or_read s.owed.items slot c.index-owed.result.now within c.index-owed.ensures 0)
