-- Draws and decks computed.
use Rattle.std.proofs.Common.{◌≡◌, [], ◌∷◌, ◌++◌, ap, refl, ◌∙◌, lit<, arith}
use Rattle.std.specs.Fmt.{decimal}
use Rattle.std.proofs.lemmas.Fmt.{decimal_digit, decimal_step}
use Rattle.fj_gen.specs.Draws.{next_state, drawn, draws}
use Rattle.fj_gen.specs.Generated.{opening_text, waits_text, closing_text, output_text, transfers_text, generated_text}
use Rattle.fj_gen.specs.Cases.{CasesAreRight}

one : decimal 1 ≡ 49 ∷ []
one = decimal_digit 1 (lit< tt)

two : decimal 2 ≡ 50 ∷ []
two = decimal_digit 2 (lit< tt)

ten : decimal 10 ≡ 49 ∷ 48 ∷ []
ten = decimal_step 10 (omega arith) (omega arith) ∙ ap (λ xs. xs ++ 48 ∷ []) one

eleven : decimal 11 ≡ 49 ∷ 49 ∷ []
eleven = decimal_step 11 (omega arith) (omega arith) ∙ ap (λ xs. xs ++ 49 ∷ []) one

value : decimal 758 ≡ 55 ∷ 53 ∷ 56 ∷ []
value = decimal_step 758 (omega arith) (omega arith)
    ∙ ap (λ xs. xs ++ 56 ∷ []) (decimal_step 75 (omega arith) (omega arith) ∙ ap (λ xs. xs ++ 53 ∷ []) (decimal_digit 7 (lit< tt)))

other : decimal 515 ≡ 53 ∷ 49 ∷ 53 ∷ []
other = decimal_step 515 (omega arith) (omega arith)
    ∙ ap (λ xs. xs ++ 53 ∷ []) (decimal_step 51 (omega arith) (omega arith) ∙ ap (λ xs. xs ++ 49 ∷ []) (decimal_digit 5 (lit< tt)))

pub cases : CasesAreRight
unfolding next_state drawn draws opening_text waits_text closing_text output_text transfers_text generated_text
cases = record { four = refl; none = refl; two = rw (one, two, ten, eleven, value, other) refl }
