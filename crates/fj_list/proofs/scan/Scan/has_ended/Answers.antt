use Rattle.std.proofs.Common.{ap, sym, ◌∙◌}
use Rattle.std.proofs.lemmas.Option.{slice_get_within}
use Rattle.fj_list.specs.ListInput.{has_ended}
use Rattle.fj_list.proofs.StreamLaws.{stream_at, stream_end}
use Rattle.fj_list.proofs.scan.Scan.has_ended.Goals as goal

pub returns-in-Some-clause-there : goal.returns-in-Some-clause-there
returns-in-Some-clause-there c = λ _. slice_get_within c.args.self.now.line c.args.self.now.at c.in-Some.c (sym c.in-Some.ensures)

pub returns-in-Some-clause-ended : goal.returns-in-Some-clause-ended
returns-in-Some-clause-ended c = λ to_come. c.ends_constant.ensures ∙ sym (ap (has_ended c.args.comma) (stream_at c.args.self.now.line c.args.self.now.at c.in-Some.c to_come (sym c.in-Some.ensures)))

pub returns-in-None-clause-ended : goal.returns-in-None-clause-ended
returns-in-None-clause-ended c = λ to_come. sym (ap (has_ended c.args.comma) (stream_end c.args.self.now.line c.args.self.now.at to_come (sym c.in-None.ensures)))
