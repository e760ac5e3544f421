-- Actions carried out one after another.
use Rattle.std.proofs.Common.{◌≡◌, ℕ, List, [], ◌∷◌, ◌++◌, take, Option, Some, None, Result, Ok, Err, refl, sym, ap, ◌∙◌}
use Rattle.fj_value.specs.declared.condition.Condition.{Condition}
use Rattle.fj_line.specs.declared.page.Page.{Page}
use Rattle.fj_line.specs.declared.unwritten.Unwritten.{Unwritten}
use Rattle.fj_line.specs.declared.unwritten.Unwritten.TheVariants.{Met, Memory}
use Rattle.fj_line.specs.Actions.{Action, AtHand, behind, condition_in, unless, carried_out}
use Rattle.fj_line.specs.Page.{Carries, Keeps}

module _ (ys : List Action) where
  from : Result AtHand Condition → Result AtHand Condition
  from (Ok hand) = carried_out hand ys
  from (Err condition) = Err condition

  from_unless : (c : Option Condition) (r : Result AtHand Condition) → unless c (from r) ≡ from (unless c r)
  unfolding from
  from_unless (Some condition) r = refl
  from_unless None r = refl

  appended : (old : AtHand) (xs : List Action) → carried_out old (xs ++ ys) ≡ from (carried_out old xs)
  unfolding from
  appended old [] = refl
  appended old (x ∷ xs) = ap (unless (condition_in x old)) (appended (behind x old) xs) ∙ from_unless (condition_in x old) (carried_out (behind x old) xs)

  -- actions behind others that went well
  pub goes_on : (old new : AtHand) (xs : List Action) → carried_out old xs ≡ Ok new → carried_out old (xs ++ ys) ≡ carried_out new ys
  unfolding from
  goes_on old new xs e = appended old xs ∙ ap from e

  -- the first condition
  pub stops : (old : AtHand) (xs : List Action) (condition : Condition) → carried_out old xs ≡ Err condition → carried_out old (xs ++ ys) ≡ Err condition
  unfolding from
  stops old xs condition e = appended old xs ∙ ap from e

-- the same of a call that carries them out
pub went_on : (old mid new : AtHand) (xs ys : List Action) (r : Result (Unit {0}) Unwritten) → carried_out old xs ≡ Ok mid → Carries mid ys r new → Carries old (xs ++ ys) r new
went_on old mid new xs ys (Ok u) e h = goes_on ys old mid xs e ∙ h
went_on old mid new xs ys (Err (Met condition)) e h = goes_on ys old mid xs e ∙ h
went_on old mid new xs ys (Err (Memory error)) e h = tt

pub stopped : (old new : AtHand) (xs ys : List Action) (u : Unwritten) → Carries old xs (Err u) new → Carries old (xs ++ ys) (Err u) new
stopped old new xs ys (Met condition) h = stops ys old xs condition h
stopped old new xs ys (Memory error) h = tt

-- a call that carries out what is the same as other actions
pub as_well : (old old' new : AtHand) (xs ys : List Action) (r : Result (Unit {0}) Unwritten) → carried_out old xs ≡ carried_out old' ys → Carries old' ys r new → Carries old xs r new
as_well old old' new xs ys (Ok u) e h = e ∙ h
as_well old old' new xs ys (Err (Met condition)) e h = e ∙ h
as_well old old' new xs ys (Err (Memory error)) e h = tt

pub kept_on : (old mid new : Page) (before text behind : List ℕ) → Keeps old before mid text → Keeps mid text new behind → Keeps old before new behind
kept_on old mid new before text behind h k = record {
  begin = k.begin ∙ h.begin;
  front = ap (λ n. take n behind) (sym h.begin) ∙ k.front ∙ ap (λ n. take n text) h.begin ∙ h.front;
}
