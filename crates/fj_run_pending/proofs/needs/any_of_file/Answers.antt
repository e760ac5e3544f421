use Rattle.std.proofs.Common.{ap, ◌∙◌}
use Rattle.std.specs.List.{list_any}
use Rattle.fj_run_pending.proofs.Meeting.{file_at, no_file}
use Rattle.fj_run_pending.proofs.needs.any_of_file.Goals as goal

pub returns-in-Some : goal.returns-in-Some
returns-in-Some g c =
    c.test.ensures ∙ ap (list_any (g.T.RunTest.passes c.args.test.now)) (c.file_run.ensures ∙ file_at c.args.variables.now c.args.unit c.in-Some.file c.in-Some.ensures)

pub returns-in-None : goal.returns-in-None
returns-in-None g c = ap (list_any (g.T.RunTest.passes c.args.test.now)) (no_file c.args.variables.now c.args.unit c.in-None.ensures)
