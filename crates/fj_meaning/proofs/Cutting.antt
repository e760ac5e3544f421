-- A run up to a statement.
use Rattle.std.proofs.Common.{◌≡◌, ℕ, zero, suc, List, [], ◌∷◌, ◌++◌, take, Option, Some, None, refl}
use Rattle.std.specs.Prelude.{slice_get}
use Rattle.fj_statement.specs.declared.deck.Variable.{Variable}
use Rattle.fj_meaning.specs.State.{State}
use Rattle.fj_meaning.specs.Statement.{Stated, Ran, Ending, begun_in, step, executed, cut}
use Rattle.fj_meaning.specs.CutLaws.{next_at, go_on}

ended_has_none : (state : State) (e : Ending) (o : Option Stated) → None ≡ next_at (record { state = state; ending = Some e }) o
ended_has_none state e None = refl
ended_has_none state e (Some st) = refl

pub cut_is : (variables : List Variable) (index : ℕ) (sts : List Stated) (s : State) → cut variables index sts s ≡ next_at (executed variables (take index sts) s) (slice_get sts index)
cut_is variables zero [] s = refl
cut_is variables (suc k) [] s = refl
cut_is variables zero (st ∷ more) s = refl
cut_is variables (suc k) (st ∷ more) s = by (cut_is variables k more (step variables (begun_in s st) s).0) (step variables (begun_in s st) s).1
  where
    by : cut variables k more (step variables (begun_in s st) s).0 ≡ next_at (executed variables (take k more) (step variables (begun_in s st) s).0) (slice_get more k) → (o : Option Ending)
        → (elim o as (λ _. Option (Stated × State)) [ None ↦ cut variables k more (step variables (begun_in s st) s).0 | Some e ↦ None ])
        ≡ next_at (elim o as (λ _. Ran) [ None ↦ executed variables (take k more) (step variables (begun_in s st) s).0 | Some e ↦ record { state = (step variables (begun_in s st) s).0; ending = Some e } ]) (slice_get more k)
    by rest None = rest
    by rest (Some e) = ended_has_none (step variables (begun_in s st) s).0 e (slice_get more k)

pub goes_further : (variables : List Variable) (first more : List Stated) (s : State) → executed variables (first ++ more) s ≡ go_on variables more (executed variables first s)
goes_further variables [] more s = refl
goes_further variables (st ∷ first) more s = by (goes_further variables first more (step variables (begun_in s st) s).0) (step variables (begun_in s st) s).1
  where
    by : executed variables (first ++ more) (step variables (begun_in s st) s).0 ≡ go_on variables more (executed variables first (step variables (begun_in s st) s).0) → (o : Option Ending)
        → (elim o as (λ _. Ran) [ None ↦ executed variables (first ++ more) (step variables (begun_in s st) s).0 | Some e ↦ record { state = (step variables (begun_in s st) s).0; ending = Some e } ])
        ≡ go_on variables more (elim o as (λ _. Ran) [ None ↦ executed variables first (step variables (begun_in s st) s).0 | Some e ↦ record { state = (step variables (begun_in s st) s).0; ending = Some e } ])
    by rest None = rest
    by rest (Some e) = refl
