use Rattle.std.proofs.Common.{◌≡◌, ◌^◌, ◌++◌, arith, drop, append-nil, ◌∙◌, ap, sym}
use Rattle.std.proofs.Math.ListN.{drop_of_length-le}
use Rattle.std.proofs.Math.Nat.{div-lt_self}
use Rattle.std.proofs.lemmas.Nat.{mod_below, pow_pos}
use Rattle.fj_value.specs.Digits.{numeral}
use Rattle.fj_value.proofs.DigitLaws.{numeral-zero, numeral_some, length-numeral-le, length-numeral_step}
use Rattle.fj_edit_out.proofs.Numerals.{power_small, power_base, digit_written}
use Rattle.fj_edit_out.proofs.bits.write_digits.Goals as goal

pub loop-rest-init : goal.loop-rest-init
loop-rest-init c = record {
  within = omega arith;
  room = length-numeral-le (2 ^ c.args.shift) 64 c.args.n (power_base c.args.shift c.requires.some) (omega arith);
  written = ap (λ xs. numeral (2 ^ c.args.shift) c.args.n ++ xs) (drop_of_length-le c.args.buffer.now {i = 64} (omega arith)) ∙ append-nil (numeral (2 ^ c.args.shift) c.args.n);
}

pub overflow_sub-at : goal.overflow_sub-at
overflow_sub-at c = let some = numeral_some (2 ^ c.args.shift) c.loop-rest.rest (power_base c.args.shift c.requires.some) c.loop-rest-test.true in omega arith

pub character_of-requires : goal.character_of-requires
character_of-requires c = omega (arith, power_small c.args.shift c.requires.few, mod_below c.loop-rest.rest (2 ^ c.args.shift) (pow_pos c.args.shift))

pub loop-rest-smaller : goal.loop-rest-smaller
loop-rest-smaller c = div-lt_self c.loop-rest-test.true (power_base c.args.shift c.requires.some)

pub loop-rest-preserved : goal.loop-rest-preserved
loop-rest-preserved c =
    let low = power_base c.args.shift c.requires.some in
    let some = c.loop-rest-test.true in
    let step = length-numeral_step (2 ^ c.args.shift) c.loop-rest.rest low some in
    record {
      within = omega arith;
      room = omega arith;
      written = grind (arith, digit_written (2 ^ c.args.shift) c.loop-rest.rest c.loop-rest.at c.args.n c.loop-rest.buffer low some);
    }

pub returns-clause-written : goal.returns-clause-written
returns-clause-written c =
    let none : c.loop-rest.rest ≡ 0 = omega arith in
    ap (λ xs. xs ++ drop c.loop-rest.at c.loop-rest.buffer) (sym (ap (numeral (2 ^ c.args.shift)) none ∙ numeral-zero (2 ^ c.args.shift)))
    ∙ c.loop-rest.invariant.written
