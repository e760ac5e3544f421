use Rattle.std.proofs.Common.{◌∙◌}
use Rattle.clap.specs.Words.{app_of}
use Rattle.fj_report.proofs.GivenLemmas.{simple_of, rows_given, none_given}
use Rattle.fj_report.proofs.given.given.Goals as goal

pub returns-in-Ok : goal.returns-in-Ok
returns-in-Ok c =
    rows_given (app_of c.args.command) _ _ (c.in-Ok.ensures.kinds c.requires) (c.in-Ok.ensures.matches (simple_of (app_of c.args.command) c.requires)).0

pub returns : goal.returns
returns c =
    none_given (app_of c.args.command) _ c.in-Err.error (c.in-Err.ensures.kinds c.requires) (λ memory. c.in_default.not-OutOfMemory (c.kind.ensures ∙ memory))
