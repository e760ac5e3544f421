-- Whole records as actions, one after another.
use Rattle.std.proofs.Common.{◌≡◌, ◌+◌, ◌<◌, ℕ, List, [], ◌∷◌, ◌++◌, length, take, drop, get_or, Result, Ok, Err, refl, sym, ap, subst, ◌∙◌}
use Rattle.std.proofs.lemmas.List.{drop_more}
use Rattle.fj_value.specs.declared.edit.EditModes.{EditModes}
use Rattle.fj_value.specs.declared.value.Cell.{Cell}
use Rattle.fj_line.specs.declared.unwritten.Unwritten.{Unwritten}
use Rattle.fj_line.specs.declared.unwritten.Unwritten.TheVariants.{Met, Memory}
use Rattle.fj_line.specs.Actions.{Action, put, end_record, AtHand, carried_out}
use Rattle.fj_line.specs.Page.{Carries}
use Rattle.fj_line.proofs.Carrying.{goes_on, stops, went_on, as_well}
use Rattle.fj_moved.specs.declared.moved.GroupMember.{GroupMember}
use Rattle.fj_namelist.specs.GroupText.{values_in, values_of, member_written}
use Rattle.fj_transfer.specs.Printing.{record_actions}
use Rattle.fj_transfer.specs.Writing.{CarriesFirst}

pub record_actions_append : (a b : List (List ℕ)) → record_actions (a ++ b) ≡ record_actions a ++ record_actions b
record_actions_append [] b = refl
record_actions_append (text ∷ a) b = ap (λ (l : List Action). put text ∷ end_record ∷ l) (record_actions_append a b)

-- a call that carried out the first records, or met a condition in them
pub carries_front : (old new : AtHand) (front rest : List (List ℕ)) (r : Result (Unit {0}) Unwritten) → Carries old (record_actions front) r new → CarriesFirst old (record_actions (front ++ rest)) r new (record_actions rest)
carries_front old new front rest (Ok u) h =
    ap (carried_out old) (record_actions_append front rest) ∙ goes_on (record_actions rest) old new (record_actions front) h
carries_front old new front rest (Err (Met condition)) h =
    ap (carried_out old) (record_actions_append front rest) ∙ stops (record_actions rest) old (record_actions front) condition h
carries_front old new front rest (Err (Memory error)) h = tt

-- a list from an element on
pub from_here : {A : Type 0} (xs : List A) (at : ℕ) (x : A) → at < length xs → x ≡ get_or xs at x → drop at xs ≡ x ∷ drop (at + 1) xs
from_here xs at x within is = drop_more xs at x within ∙ ap (λ y. y ∷ drop (at + 1) xs) (sym is)

-- a call met a condition in the first of the actions that are left
pub first_stops : (begun here new : AtHand) (all left first more : List Action) (u : Unwritten) → carried_out begun all ≡ carried_out here left → left ≡ first → CarriesFirst here first (Err u) new more → Carries begun all (Err u) new
first_stops begun here new all left first more (Met condition) same is h = same ∙ ap (carried_out here) is ∙ h
first_stops begun here new all left first more (Memory error) same is h = tt

-- a record, others behind it and the last ones
pub middle_stops : (old first new : AtHand) (title : List ℕ) (middle last : List (List ℕ)) (u : Unwritten) → carried_out old (record_actions (title ∷ [])) ≡ Ok first → Carries first (record_actions middle) (Err u) new
    → Carries old (record_actions ((title ∷ middle) ++ last)) (Err u) new
middle_stops old first new title middle last (Met condition) e h =
    goes_on (record_actions (middle ++ last)) old first (record_actions (title ∷ [])) e ∙ carries_front first new middle last (Err (Met condition)) h
middle_stops old first new title middle last (Memory error) e h = tt

pub last_ends : (old first behind new : AtHand) (title : List ℕ) (middle last : List (List ℕ)) (r : Result (Unit {0}) Unwritten) → carried_out old (record_actions (title ∷ [])) ≡ Ok first → carried_out first (record_actions middle) ≡ Ok behind
    → Carries behind (record_actions last) r new → Carries old (record_actions ((title ∷ middle) ++ last)) r new
last_ends old first behind new title middle last r e e' h =
    went_on old first new (record_actions (title ∷ [])) (record_actions (middle ++ last)) r e
    (as_well first behind new (record_actions (middle ++ last)) (record_actions last) r (carries_front first behind middle last (Ok tt) e') h)

-- a member's records, by its cells
pub carries_member : (modes : EditModes) (m : GroupMember) (cells : List Cell) (name : List ℕ) (many : ℕ) (old new : AtHand) (r : Result (Unit {0}) Unwritten) → name ≡ m.name → many ≡ m.count
    → Carries old (record_actions (member_written modes name (values_in (take many (drop m.first cells))))) r new → Carries old (record_actions (member_written modes m.name (values_of m cells))) r new
carries_member modes m cells name many old new r named counted h =
    let P : List ℕ → Type 0 = λ n. Carries old (record_actions (member_written modes n (values_in (take many (drop m.first cells))))) r new in
    let Q : ℕ → Type 0 = λ n. Carries old (record_actions (member_written modes m.name (values_in (take n (drop m.first cells))))) r new in
    subst Q counted (subst P named h)
