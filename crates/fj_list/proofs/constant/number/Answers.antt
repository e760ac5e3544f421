use Rattle.std.proofs.Common.{◌≡◌, ◌+◌, ◌-◌, ◌*◌, ◌^◌, ◌<◌, ℕ, true, min, length, get_or, take, ap, sym, subst, ◌∙◌, arith}
use Rattle.std.proofs.lemmas.Bool.Decides.{nat_tests}
use Rattle.std.specs.Char.{is_ascii_digit}
use Rattle.fj_list.specs.Scanned.{Scanned}
use Rattle.fj_list.proofs.Numbers.{scanned_more, number_ends, number_empty, number_wrong}
use Rattle.fj_list.proofs.constant.number.Goals as goal

pub returns-then-is_empty : goal.returns-then-is_empty
returns-then-is_empty c = let none : length c.args.chars.now ≡ 0 = grind (arith, nat_tests) in number_empty c.args.chars.now none

pub returns-then-not-is_ascii_digit : goal.returns-then-not-is_ascii_digit
returns-then-not-is_ascii_digit c = number_wrong c.args.chars.now c.loop-c.c-index c.loop-c-test.true (sym c.is_ascii_digit.ensures.value ∙ c.if-not-is_ascii_digit.true)

pub loop-c-preserved : goal.loop-c-preserved
loop-c-preserved c =
    let xs = c.args.chars.now in
    let i = c.loop-c.c-index in
    let most = 2 ^ 64 - 1 in
    let P : ℕ → Type 0 = λ a. Scanned (take (i + 1) xs) a in
    let digit : is_ascii_digit (get_or xs i 0) ≡ true = sym c.is_ascii_digit.ensures.value ∙ c.if-not-is_ascii_digit.false in
    let is : c.saturating_add-amount.result ≡ min (min (c.loop-c.amount * 10) most + (get_or xs i 0 - 48)) most =
    c.saturating_add-amount.ensures ∙ ap (λ m. min (m + c.from.result) most) c.saturating_mul.ensures ∙ ap (λ d. min (min (c.loop-c.amount * 10) most + d) most) c.from.ensures in
    subst P (sym is) (scanned_more xs i c.loop-c.amount c.loop-c-test.true digit c.loop-c.invariant)

pub returns : goal.returns
returns c =
    let some : 0 < length c.args.chars.now = grind (arith, nat_tests) in
    number_ends c.args.chars.now c.loop-c.c-index c.loop-c.amount some c.loop-c-test.false c.loop-c.invariant
