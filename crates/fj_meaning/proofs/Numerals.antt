-- Numerals that are too long to compute from their definition, and a statement in front of others.
use Rattle.std.proofs.Common.{◌≡◌, ℕ, zero, suc, ◌<◌, ◌≤◌, ◌/◌, ◌%◌, Bool, true, List, [], ◌∷◌, ◌++◌, Option, Some, None, sym, ap, ◌∙◌, inl, inr, arith}
use Rattle.std.specs.Prelude.{◌==◌, if◌then◌else◌}
use Rattle.std.specs.Fmt.{digit_glyph}
use Rattle.std.proofs.lemmas.Bool.{eqb-true}
use Rattle.std.proofs.lemmas.Bool.Decides.{eqb_tells}
use Rattle.fj_value.proofs.DigitLaws.{numeral-step, numeral-zero}
use Rattle.fj_value.specs.Digits.{numeral}
use Rattle.fj_statement.specs.declared.deck.Variable.{Variable}
use Rattle.fj_meaning.specs.State.{State}
use Rattle.fj_meaning.specs.Statement.{Stated, Ran, Ending, begun_in, step, executed}

-- a numeral by so many divisions at the most
abbrev pub numeral_by : ℕ → ℕ → ℕ → List ℕ
numeral_by zero base n = []
numeral_by (suc turns) base n = if n == 0 then [] else numeral_by turns base (n / base) ++ digit_glyph true (n % base) ∷ []

-- they are enough
abbrev pub suffices : ℕ → ℕ → ℕ → Bool
suffices zero base n = n == 0
suffices (suc turns) base n = suffices turns base (n / base)

pub numeral_in : (turns base n : ℕ) → 2 ≤ base → suffices turns base n ≡ true → numeral base n ≡ numeral_by turns base n
numeral_in zero base n low e = ap (numeral base) (eqb-true n 0 e) ∙ numeral-zero base
numeral_in (suc turns) base n low e =
    elim (eqb_tells n 0) [
      | inl a ↦ ap (numeral base) a.1 ∙ numeral-zero base ∙ ap (λ b. if b then [] else numeral_by turns base (n / base) ++ digit_glyph true (n % base) ∷ []) (sym a.0)
      | inr a ↦
          let some : 0 < n = grind (arith, a.1) in
          numeral-step base n low some
          ∙ ap (λ front. front ++ digit_glyph true (n % base) ∷ []) (numeral_in turns base (n / base) low e)
          ∙ ap (λ b. if b then [] else numeral_by turns base (n / base) ++ digit_glyph true (n % base) ∷ []) (sym a.0)
    ]

-- a statement that does not end the deck is carried out, and then the others
pub one_first : (variables : List Variable) (st : Stated) (more : List Stated) (s after : State) → step variables (begun_in s st) s ≡ (after, None) → executed variables (st ∷ more) s ≡ executed variables more after
one_first variables st more s after e =
    ap (λ (done : State × Option Ending). elim done.1 as (λ _. Ran) [ None ↦ executed variables more done.0 | Some ending ↦ record { state = done.0; ending = Some ending } ]) e
