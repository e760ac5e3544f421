use Rattle.clap.specs.Words.{app_of, found_of, rows_of}
use Rattle.fj_report.proofs.GivenLemmas.{check_wrong, check_is, not_given, is_given}
use Rattle.fj_report.proofs.form.check_form.Goals.{in-Some, in-None}
use Rattle.fj_report.proofs.form.check_form.Goals as goal

pub returns : goal.returns
returns c = elim c.match-branch-2.branch [
  | in-Some w ↦ rw w.result-is
      (check_is _ _ (is_given (λ m. rows_of (found_of m)) c.in_ok-given.field-0 (app_of c.check_command.result) _ _ c.in_ok-given.ensures c.check_command.ensures _ w.in-Some.is))
  | in-None w ↦ rw w.result-is
      (check_wrong _ (not_given (λ m. rows_of (found_of m)) c.in_ok-given.field-0 (app_of c.check_command.result) _ _ c.in_ok-given.ensures c.check_command.ensures w.in-None.is))
]
