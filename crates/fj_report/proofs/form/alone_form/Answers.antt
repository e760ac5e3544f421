use Rattle.clap.specs.Words.{app_of, found_of, rows_of}
use Rattle.fj_report.proofs.GivenLemmas.{alone_wrong, alone_is, not_given, is_given}
use Rattle.fj_report.proofs.form.alone_form.Goals as goal

pub returns-in_default : goal.returns-in_default
returns-in_default c =
    alone_wrong _ (not_given (λ m. rows_of (found_of m)) c.in_ok-given.field-0 (app_of c.in_ok-alone_command.field-0) _ _ c.in_ok-given.ensures c.in_ok-alone_command.ensures c.in_default.is)

pub returns : goal.returns
returns c =
    alone_is _ _ c.has_flag-trace.result
    (is_given (λ m. rows_of (found_of m)) c.in_ok-given.field-0 (app_of c.in_ok-alone_command.field-0) _ _ c.in_ok-given.ensures c.in_ok-alone_command.ensures c.in-Some.given c.in-Some.is)
    c.has_flag-trace.ensures
