use Rattle.clap.specs.Words.{app_of, found_of, rows_of}
use Rattle.fj_report.proofs.GivenLemmas.{polled_none, polled_is, not_given, is_given}
use Rattle.fj_report.proofs.polled.polled.Goals as goal

pub returns-in-None : goal.returns-in-None
returns-in-None c =
    polled_none _ (not_given (λ m. rows_of (found_of m)) c.in_ok-given.field-0 (app_of c.in_ok-poll_command.field-0) _ _ c.in_ok-given.ensures c.in_ok-poll_command.ensures c.in-None.is)

pub returns-in-Some : goal.returns-in-Some
returns-in-Some c =
    polled_is _ _ _
    (is_given (λ m. rows_of (found_of m)) c.in_ok-given.field-0 (app_of c.in_ok-poll_command.field-0) _ _ c.in_ok-given.ensures c.in_ok-poll_command.ensures c.in-Some.given c.in-Some.is)
    c.number_behind.ensures
