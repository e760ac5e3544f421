use Rattle.clap.specs.Words.{app_of, found_of, rows_of}
use Rattle.fj_report.proofs.GivenLemmas.{run_wrong, run_without, run_is, not_given, is_given}
use Rattle.fj_report.proofs.form.run_form.Goals as goal

pub returns-in_default : goal.returns-in_default
returns-in_default c =
    run_wrong _ (not_given (λ m. rows_of (found_of m)) c.in_ok-given.field-0 (app_of c.in_ok-run_command.field-0) _ _ c.in_ok-given.ensures c.in_ok-run_command.ensures c.in_default.is)

pub returns-in_default-number_behind : goal.returns-in_default-number_behind
returns-in_default-number_behind c =
    run_without _ _
    (is_given (λ m. rows_of (found_of m)) c.in_ok-given.field-0 (app_of c.in_ok-run_command.field-0) _ _ c.in_ok-given.ensures c.in_ok-run_command.ensures c.in-Some.given c.in-Some.is)
    c.in_default-number_behind.ensures

pub returns : goal.returns
returns c =
    run_is _ _ _ c.has_flag-trace.result
    (is_given (λ m. rows_of (found_of m)) c.in_ok-given.field-0 (app_of c.in_ok-run_command.field-0) _ _ c.in_ok-given.ensures c.in_ok-run_command.ensures c.in-Some.given c.in-Some.is)
    c.in-Some-number_behind.ensures c.has_flag-trace.ensures
