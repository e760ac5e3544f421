-- How many units are connected, and how many jobs a statement still gives.
use Rattle.std.proofs.Common.{◌≡◌, ℕ, suc, ◌+◌, ◌-◌, ◌≤◌, Bool, true, false, not, List, [], ◌∷◌, length, filter, Some, None, refl, sym, ap, subst, ◌∙◌, arith}
use Rattle.std.proofs.lemmas.List.Filters.{length-filter_both}
use Rattle.std.specs.Prelude.{◌==◌, slice_get, if◌then◌else◌, Result, Ok, Err, IfOk}
use Rattle.fj_bay.specs.declared.job.Job.TheVariants as job
use Rattle.fj_meaning_jobs.specs.Core.{Connected, connected_at, without_connected}
use Rattle.fj_run_statements.specs.Doing.{Ends}
use Rattle.fj_run_statements.specs.Jobs.{GivesOne, jobs_after, jobs_of}
use Rattle.fj_run_statements.specs.Steps.{is_due}
use Rattle.fj_run_statements.specs.declared.doing.After.{After}
use Rattle.fj_run_statements.specs.declared.doing.After.TheVariants as after
use Rattle.fj_run_statements.specs.declared.doing.Then.TheVariants as then
use Rattle.fj_run_statements.specs.declared.doing.Doing.{Doing}
use Rattle.fj_run_statements.specs.declared.doing.Doing.TheVariants as doing
use Rattle.fj_run_statements.proofs.HavingLemmas.{due_unit}

-- ---- units

filter_fewer : (p : Connected → Bool) (us : List Connected) → length (filter p us) ≤ length us
filter_fewer p us = let both = length-filter_both p (λ (u : Connected). not (p u)) (λ (u : Connected). refl) us in omega (arith, both)

-- that of a number is taken off
pub without_less : (us : List Connected) (number : ℕ) (u : Connected) → connected_at us number ≡ Some u → length (without_connected number us) + 1 ≤ length us
without_less [] number u found = absurd (let bad : ⊥ = cc in bad)
without_less (v ∷ us) number u found = by (v.number == number) refl (without_less us number u)
  where
    rest : List Connected
    rest = without_connected number us

    by : (b : Bool) → (v.number == number) ≡ b → (connected_at us number ≡ Some u → length rest + 1 ≤ length us) → length (if not b then v ∷ rest else rest) + 1 ≤ suc (length us)
    by true e less = let low = filter_fewer (λ (x : Connected). not (x.number == number)) us in omega (arith, low)
    by false e less =
        let there : connected_at us number ≡ Some u = ap (λ z. if z then Some v else connected_at us number) (sym e) ∙ found in
        let low = less there in
        omega (arith, low)

some_there : (us : List Connected) (u : Connected) → slice_get us 0 ≡ Some u → 1 ≤ length us
some_there [] u e = absurd (let bad : ⊥ = cc in bad)
some_there (v ∷ us) u e = omega arith

-- ---- jobs

-- the first of all units is closed
pub closes_each : {F : Type 0} → (does : Doing F) (slot number : ℕ) (keep : Bool) (us : List Connected) (u : Connected) (condition : _) → does ≡ doing.Awaits slot (job.Detach None) (then.Closes number keep (after.ClosesAll condition))
    → slice_get us 0 ≡ Some u → jobs_of does (length us) ≤ length us
closes_each does slot number keep us u condition is first =
    let some = some_there us u first in
    subst (λ d. jobs_of d (length us) ≤ length us) (sym is) (omega (arith, some))

pub none_when_ended : {F : Type 0} → (does : Doing F) (units most : ℕ) → Ends does → jobs_of does units ≤ most
none_when_ended (doing.Finishes condition) units most ends = omega arith
none_when_ended (doing.Gives slot job next) units most ends = absurd ends
none_when_ended (doing.Awaits slot job next) units most ends = absurd ends

pub if_ended : {F E : Type 0} → (r : Result (Doing F) E) (units most : ℕ) → IfOk r Ends → IfOk r (λ does. jobs_of does units ≤ most)
if_ended (Ok does) units most ends = none_when_ended does units most ends
if_ended (Err e) units most ends = tt

pub if_one : {F E : Type 0} → (r : Result (Doing F) E) (units most : ℕ) → 1 ≤ most → IfOk r GivesOne → IfOk r (λ does. jobs_of does units ≤ most)
if_one (Ok does) units most some one = let low = one units in omega (arith, low, some)
if_one (Err e) units most some one = tt

-- the unit that is closed was connected
pub closed_less : (us us' : List Connected) (number : ℕ) (name : List ℕ) → is_due (connected_at us number) name ≡ true → us' ≡ without_connected number us → length us' + 1 ≤ length us
closed_less us us' number name due is =
    let u = due_unit (connected_at us number) name due in
    subst (λ l. length l + 1 ≤ length us) (sym is) (without_less us number u.0 u.1)

-- of one unit less
pub less_jobs : {F E : Type 0} → (r : Result (Doing F) E) (next : After) (left us : ℕ) (us' : List Connected) → left + 1 ≤ us → IfOk r (λ does. jobs_of does (length us') ≤ jobs_after next left)
    → IfOk r (λ does. jobs_of does (length us') ≤ jobs_after next (us - 1))
less_jobs (Ok does) next left us us' less low = by next low
  where
    by : (n : After) → jobs_of does (length us') ≤ jobs_after n left → jobs_of does (length us') ≤ jobs_after n (us - 1)
    by (after.Finishes condition) l = l
    by (after.ClosesAll condition) l = omega (arith, l, less)
    by (after.Connects number) l = l
less_jobs (Err e) next left us us' less low = tt
