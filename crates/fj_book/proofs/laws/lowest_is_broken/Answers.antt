use Rattle.std.proofs.Common.{◌≡◌, List, refl, ◌∙◌}
use Rattle.fj_value.specs.declared.condition.Rule.{Rule}
use Rattle.fj_value.specs.declared.condition.Rule.TheVariants.{P1, P2, P3, P4, P5}
use Rattle.fj_store.specs.Variables.{Variables}
use Rattle.fj_book.specs.Prohibitions.{Need, Holder}
use Rattle.fj_book.specs.Laws.{breaks}
use Rattle.fj_book.proofs.LawLemmas.{test_of, lowest_told, none_told}
use Rattle.fj_book.proofs.laws.lowest_is_broken.Goals as goal

-- each prohibition is one of the five tests
tests : (vars : Variables) (book : List Holder) (n : Need) (r : Rule) → breaks vars book n r ≡ test_of (breaks vars book n P1) (breaks vars book n P2) (breaks vars book n P3) (breaks vars book n P4) (breaks vars book n P5) r
tests vars book n P1 = refl
tests vars book n P2 = refl
tests vars book n P3 = refl
tests vars book n P4 = refl
tests vars book n P5 = refl

pub returns : goal.returns
returns c vars book n = (
  λ told e.
      let lowest = lowest_told (breaks vars book n P1) (breaks vars book n P2) (breaks vars book n P3) (breaks vars book n P4) (breaks vars book n P5) told e in
      (tests vars book n told ∙ lowest.0, λ r below. tests vars book n r ∙ lowest.1 r below),
  λ e r. tests vars book n r ∙ none_told (breaks vars book n P1) (breaks vars book n P2) (breaks vars book n P3) (breaks vars book n P4) (breaks vars book n P5) e r,
)
