use Rattle.std.proofs.Common.{ℕ, take, Option, IfNone, refl, ap, sym, subst, arith}
use Rattle.fj_list.specs.ListInput.{is_no_digit}
use Rattle.fj_list.specs.Scan.{IsNotCounted}
use Rattle.fj_list.proofs.Widths.{width_found}
use Rattle.fj_list.proofs.Tokens.{is_counted, no_number, no_star}
use Rattle.fj_list.proofs.scan.repeat_count.Goals as goal

pub returns-in_err-count-clause-none : goal.returns-in_err-count-clause-none
returns-in_err-count-clause-none c =
    let P : Option (ℕ × ℕ) → Type 0 = λ o. IfNone o (IsNotCounted c.args.chars.now) in
    let is = width_found is_no_digit c.args.chars.now c.args.chars.now c.no_digit_in.result c.width_to-width.result c.no_digit_in.ensures c.width_to-width.ensures refl in
    subst P (sym c.from_residual.ensures) (no_number c.args.chars.now c.width_to-width.result _ is c.in_err-count.ensures (ap (λ k. take k c.args.chars.now) (omega arith)))

pub returns-then-not-stands_at-clause-none : goal.returns-then-not-stands_at-clause-none
returns-then-not-stands_at-clause-none c =
    let is = width_found is_no_digit c.args.chars.now c.args.chars.now c.no_digit_in.result c.width_to-width.result c.no_digit_in.ensures c.width_to-width.ensures refl in
    no_star c.args.chars.now c.width_to-width.result is (c.stands_at.ensures.no c.if-not-stands_at.true)

pub returns-clause-some : goal.returns-clause-some
returns-clause-some c =
    let is = width_found is_no_digit c.args.chars.now c.args.chars.now c.no_digit_in.result c.width_to-width.result c.no_digit_in.ensures c.width_to-width.ensures refl in
    is_counted c.args.chars.now c.width_to-width.result c.in_ok-count.count _ is c.in_ok-count.ensures (ap (λ k. take k c.args.chars.now) (omega arith)) (c.stands_at.ensures.yes c.if-not-stands_at.false)
