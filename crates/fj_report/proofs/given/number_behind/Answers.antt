use Rattle.clap.specs.Words.{found_of}
use Rattle.std.proofs.Common.{◌∙◌}
use Rattle.fj_report.proofs.GivenLemmas.{behind_none, behind_some}
use Rattle.fj_report.proofs.given.number_behind.Goals as goal

pub returns-in_err-get_str : goal.returns-in_err-get_str
returns-in_err-get_str c = c.from_residual.ensures ∙ behind_none (found_of c.args.matches.now) c.args.name.now c.args.most c.in_err-get_str.ensures

pub returns : goal.returns
returns c = behind_some (found_of c.args.matches.now) c.args.name.now c.in_ok-get_str.field-0.now c.args.most _ c.in_ok-get_str.ensures c.number_up_to.ensures
