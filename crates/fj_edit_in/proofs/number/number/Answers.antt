use Rattle.std.proofs.Common.{◌≡◌, ◌≢◌, ◌⊎◌, ◌+◌, ℕ, Option, true, get_or, take, inl, inr, sym, ap, subst, ◌∙◌, arith}
use Rattle.fj_edit_in.specs.InputField.{blanks_read}
use Rattle.fj_edit_in.specs.Scan.{amount_or_condition, next_amount, Scanned}
use Rattle.fj_edit_in.proofs.Scanned.{scanned_none, scanned_blank, scanned_more, number_stops, field_ends, field_fails}
use Rattle.fj_edit_in.proofs.number.number.Goals as goal

pub loop-c-init : goal.loop-c-init
loop-c-init c = scanned_none c.args.base c.args.blank_zero

pub loop-c-preserved-then-not-blank_zero : goal.loop-c-preserved-then-not-blank_zero
loop-c-preserved-then-not-blank_zero c =
    scanned_blank c.args.base c.args.blank_zero c.args.chars.now c.loop-c.c-index c.loop-c.some c.loop-c.amount c.loop-c-test.true c.if-not-blank_zero.true c.if-c-eq32.true c.loop-c.invariant

pub returns-then-digit-base : goal.returns-then-digit-base
returns-then-digit-base c =
    let read : (c.args.blank_zero ≡ true) ⊎ (get_or c.args.chars.now c.loop-c.c-index 0 ≢ 32) = elim c.else-c-eq32.either [ inl w ↦ inl w.1 | inr w ↦ inr w ] in
    sym (ap amount_or_condition (number_stops c.args.base c.args.blank_zero c.args.chars.now c.loop-c.c-index c.loop-c-test.true read (omega (arith, c.digit_of-digit.ensures))))

pub loop-c-preserved : goal.loop-c-preserved
loop-c-preserved c =
    let read : (c.args.blank_zero ≡ true) ⊎ (get_or c.args.chars.now c.loop-c.c-index 0 ≢ 32) = elim c.else-c-eq32.either [ inl w ↦ inl w.1 | inr w ↦ inr w ] in
    let P : Option ℕ → Type 0 = λ a. Scanned c.args.base (blanks_read c.args.blank_zero (take (c.loop-c.c-index + 1) c.args.chars.now)) true a in
    let result = c.one_more-amount.ensures ∙ ap (λ d. next_amount c.args.base d c.loop-c.amount) c.digit_of-digit.ensures in
    subst P (sym result) (scanned_more c.args.base c.args.blank_zero c.args.chars.now c.loop-c.c-index c.loop-c.some c.loop-c.amount (omega arith) c.loop-c-test.true read (omega (arith, c.digit_of-digit.ensures)) c.loop-c.invariant)

pub returns-then-some : goal.returns-then-some
returns-then-some c = c.ok_or.ensures.value ∙ field_ends c.args.base c.args.blank_zero c.args.chars.now c.loop-c.c-index c.loop-c.some c.loop-c.amount c.loop-c-test.false c.if-some.true c.loop-c.invariant

pub returns-else-some : goal.returns-else-some
returns-else-some c = sym (ap amount_or_condition (field_fails c.args.base c.args.blank_zero c.args.chars.now c.loop-c.c-index c.loop-c.some c.loop-c.amount c.loop-c-test.false c.if-some.false c.loop-c.invariant))
