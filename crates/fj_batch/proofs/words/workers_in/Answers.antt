use Rattle.std.proofs.Common.{◌∙◌, arith}
use Rattle.fj_report.proofs.GivenLemmas.{too_long, no_number, number_above, number_within}
use Rattle.fj_batch.proofs.words.workers_in.Goals as goal

pub returns-then-digits-gt-MOST_DIGITS-clause-is : goal.returns-then-digits-gt-MOST_DIGITS-clause-is
returns-then-digits-gt-MOST_DIGITS-clause-is c = too_long 4 c.args.digits.now (omega (arith, c.if-digits-gt-MOST_DIGITS.true))

pub returns-in_err-number-clause-is : goal.returns-in_err-number-clause-is
returns-in_err-number-clause-is c = c.from_residual.ensures ∙ no_number 4 c.args.digits.now (omega (arith, c.if-digits-gt-MOST_DIGITS.false)) c.in_err-number.ensures

pub returns-then-number-gt-MOST_WORKERS-clause-is : goal.returns-then-number-gt-MOST_WORKERS-clause-is
returns-then-number-gt-MOST_WORKERS-clause-is c =
    number_above 4 c.in_ok-number.number c.args.digits.now (omega (arith, c.if-digits-gt-MOST_DIGITS.false)) c.in_ok-number.ensures (omega (arith, c.if-number-gt-MOST_WORKERS.true))

pub returns-clause-is : goal.returns-clause-is
returns-clause-is c =
    number_within 4 c.in_ok-number.number c.args.digits.now (omega (arith, c.if-digits-gt-MOST_DIGITS.false)) c.in_ok-number.ensures
    (omega (arith, c.if-number-gt-MOST_WORKERS.false)) (omega arith)
