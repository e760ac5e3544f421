use Rattle.std.proofs.Common.{ap, ◌∙◌, arith}
use Rattle.fj_report.specs.Words.{number_up_to}
use Rattle.fj_report.proofs.GivenLemmas.{too_long, no_number, number_above, number_within}
use Rattle.fj_report.proofs.given.number_up_to.Goals as goal

pub returns-then-digits-gt-MOST_DIGITS : goal.returns-then-digits-gt-MOST_DIGITS
returns-then-digits-gt-MOST_DIGITS c =
    too_long c.args.most c.as_bytes-digits.result.now (omega (arith, c.if-digits-gt-MOST_DIGITS.true)) ∙ ap (number_up_to c.args.most) c.as_bytes-digits.ensures.value

pub returns-in_err-number : goal.returns-in_err-number
returns-in_err-number c =
    c.from_residual.ensures ∙ no_number c.args.most c.as_bytes-digits.result.now (omega (arith, c.if-digits-gt-MOST_DIGITS.false)) c.in_err-number.ensures
    ∙ ap (number_up_to c.args.most) c.as_bytes-digits.ensures.value

pub returns-then-number-from : goal.returns-then-number-from
returns-then-number-from c =
    number_above c.args.most c.in_ok-number.number c.as_bytes-digits.result.now (omega (arith, c.if-digits-gt-MOST_DIGITS.false)) c.in_ok-number.ensures
    (omega (arith, c.from.ensures, c.if-number-from.true)) ∙ ap (number_up_to c.args.most) c.as_bytes-digits.ensures.value

pub returns : goal.returns
returns c =
    number_within c.args.most c.in_ok-number.number c.as_bytes-digits.result.now (omega (arith, c.if-digits-gt-MOST_DIGITS.false)) c.in_ok-number.ensures
    (omega (arith, c.from.ensures, c.if-number-from.false)) (omega (arith, c.ranges.most.fits)) ∙ ap (number_up_to c.args.most) c.as_bytes-digits.ensures.value
