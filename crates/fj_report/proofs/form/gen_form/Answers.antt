use Rattle.clap.specs.Words.{app_of, found_of, rows_of}
use Rattle.fj_report.proofs.GivenLemmas.{gen_wrong, gen_without_seed, gen_without_count, gen_is, not_given, is_given}
use Rattle.fj_report.proofs.form.gen_form.Goals as goal

pub returns-in_default : goal.returns-in_default
returns-in_default c =
    gen_wrong _ (not_given (λ m. rows_of (found_of m)) c.in_ok-given.field-0 (app_of c.in_ok-gen_command.field-0) _ _ c.in_ok-given.ensures c.in_ok-gen_command.ensures c.in_default.is)

pub returns-in_default-number_behind : goal.returns-in_default-number_behind
returns-in_default-number_behind c =
    gen_without_seed _ _
    (is_given (λ m. rows_of (found_of m)) c.in_ok-given.field-0 (app_of c.in_ok-gen_command.field-0) _ _ c.in_ok-given.ensures c.in_ok-gen_command.ensures c.in-Some.given c.in-Some.is)
    c.in_default-number_behind.ensures

pub returns-in_default-number_behind-2 : goal.returns-in_default-number_behind-2
returns-in_default-number_behind-2 c =
    gen_without_count _ _ _
    (is_given (λ m. rows_of (found_of m)) c.in_ok-given.field-0 (app_of c.in_ok-gen_command.field-0) _ _ c.in_ok-given.ensures c.in_ok-gen_command.ensures c.in-Some.given c.in-Some.is)
    c.in-Some-number_behind.ensures c.in_default-number_behind-2.ensures

pub returns : goal.returns
returns c =
    gen_is _ _ _ _ c.has_flag-text.result
    (is_given (λ m. rows_of (found_of m)) c.in_ok-given.field-0 (app_of c.in_ok-gen_command.field-0) _ _ c.in_ok-given.ensures c.in_ok-gen_command.ensures c.in-Some.given c.in-Some.is)
    c.in-Some-number_behind.ensures c.in-Some-number_behind-2.ensures c.has_flag-text.ensures
