-- A writer's steps, one by one.
use Rattle.std.proofs.Common.{◌≡◌, ℕ, zero, suc, nat_lt, List, ◌∷◌, ◌++◌, length, take, Result, Ok, Err, refl, sym, ap, subst, ◌∙◌, ◌≤◌, arith}
use Rattle.std.specs.Prelude.{IfOk, IfErr, OnOk, OnErr}
use Rattle.std.specs.declared.alloc.AllocError.{AllocError}
use Rattle.std.proofs.Math.Seq.{take-length}
use Rattle.std.proofs.lemmas.List.{length-map}
use Rattle.fj_value.specs.declared.condition.Condition.{Condition}
use Rattle.fj_value.specs.declared.condition.Condition.TheVariants.{Fine}
use Rattle.fj_line.specs.declared.page.Page.{Page}
use Rattle.fj_line.specs.declared.unwritten.Unwritten.{Unwritten}
use Rattle.fj_line.specs.declared.unwritten.Unwritten.TheVariants.{Met, Memory}
use Rattle.fj_line.specs.Actions.{Action, AtHand, carried_out, text_in, output, Appends}
use Rattle.fj_line.specs.Page.{at_hand, IsIn, Keeps, Carries, told_by}
use Rattle.fj_line.proofs.Carrying.{stops, went_on}
use Rattle.fj_line.proofs.PageLemmas.{written_whole}
use Rattle.std.proofs.lemmas.Bool.Decides.{nat_tests}
use Rattle.fj_control.specs.Steps.{Given}
use Rattle.fj_control.specs.Walk.{is_left}
use Rattle.fj_moved.specs.declared.items.OutputItems.{OutputItems}
use Rattle.fj_moved.specs.declared.items.OutputItems.TheVariants.{Row, Cells, Runs}
use Rattle.fj_moved.specs.Items.{Output, items_left, values_ahead}
use Rattle.fj_transfer.specs.declared.writer.Writer.{Writer}
use Rattle.fj_transfer.specs.Writing.{actions_left, CarriesFirst}

-- a step met the first condition of what was still to do
pub step_stops : (begun here new : AtHand) (all : List Action) (w w' : Writer) (gs more : List Given) (g : Given) (u : Unwritten) → carried_out begun all ≡ carried_out here (actions_left w gs) → gs ≡ g ∷ more
    → ((more : List Given) → CarriesFirst here (actions_left w (g ∷ more)) (Err u) new (actions_left w' more)) → Carries begun all (Err u) new
step_stops begun here new all w w' gs more g (Met condition) same is h = same ∙ ap (λ l. carried_out here (actions_left w l)) is ∙ h more
step_stops begun here new all w w' gs more g (Memory error) same is h = tt

-- the actions before the last ones met a condition, or went well
pub whole_stops : (old new : AtHand) (xs xs' last : List Action) (u : Unwritten) → xs ≡ xs' → Carries old xs (Err u) new → Carries old (xs' ++ last) (Err u) new
whole_stops old new xs xs' last (Met condition) e h = ap (λ l. carried_out old (l ++ last)) (sym e) ∙ stops last old xs condition h
whole_stops old new xs xs' last (Memory error) e h = tt

pub whole_ends : (old mid new : AtHand) (xs xs' last last' : List Action) (r : Result (Unit {0}) Unwritten) → xs ≡ xs' → last ≡ last' → carried_out old xs ≡ Ok mid → Carries mid last r new → Carries old (xs' ++ last') r new
whole_ends old mid new xs xs' last last' r e e' done h =
    let P : List Action → Type 0 = λ l. Carries old (l ++ last') r new in
    let Q : List Action → Type 0 = λ l. Carries old (xs ++ l) r new in
    subst P e (subst Q e' (went_on old mid new xs last r done h))

-- ---- the whole statement

-- what stood before the statement
pub front_is : (page page' : Page) (old text : List ℕ) → page.begin ≡ length old → Keeps page old page' text → take page'.begin text ≡ old
front_is page page' old text begin kept = ap (λ n. take n text) kept.begin ∙ kept.front ∙ ap (λ n. take n old) begin ∙ take-length old

-- what is told of an output, and what the text is then
pub is_appended : (hand first : AtHand) (actions : List Action) (written : Result (Unit {0}) Unwritten) (told : Result Condition AllocError) (page page' : Page) (old text new : List ℕ) (end : ℕ) → hand ≡ first
    → page.begin ≡ length old → end ≡ length old → Carries hand actions written (at_hand page' text) → OnOk written (IsIn page' text) → Keeps page old page' text
    → OnOk written ((told ≡ Ok Fine) × (new ≡ text)) → OnErr written (new ≡ take end text) → IfErr written (λ unwritten. told ≡ told_by unwritten)
    → IfOk told (λ condition. Appends (output first actions) old condition new)
is_appended hand first actions (Ok u) told page page' old text new end is begin from done within kept ok err met =
    let w = written_whole hand actions page' old text done (front_is page page' old text begin kept) within.begin within.line in
    let same : output first actions ≡ Ok w.whole = ap (λ h. output h actions) (sym is) ∙ w.is in
    let P : Result (List ℕ) Condition → Type 0 = λ r. Appends r old Fine new in
    let Q : Result Condition AllocError → Type 0 = λ t. IfOk t (λ condition. Appends (output first actions) old condition new) in
    subst Q (sym ok.0) (subst P (sym same) (refl, ok.1 ∙ w.behind))
is_appended hand first actions (Err (Met condition)) told page page' old text new end is begin from done within kept ok err met =
    let same : output first actions ≡ Err condition = ap (λ h. output h actions) (sym is) ∙ ap text_in done in
    let P : Result (List ℕ) Condition → Type 0 = λ r. Appends r old condition new in
    let Q : Result Condition AllocError → Type 0 = λ t. IfOk t (λ condition. Appends (output first actions) old condition new) in
    let back : new ≡ old = err ∙ ap (λ n. take n text) (from ∙ sym begin ∙ sym kept.begin) ∙ front_is page page' old text begin kept in
    subst Q (sym met) (subst P (sym same) (refl, back))
is_appended hand first actions (Err (Memory error)) told page page' old text new end is begin from done within kept ok err met =
    let Q : Result Condition AllocError → Type 0 = λ t. IfOk t (λ condition. Appends (output first actions) old condition new) in
    subst Q (sym met) tt

-- want of memory leaves the text
pub is_kept : (written : Result (Unit {0}) Unwritten) (told : Result Condition AllocError) (page page' : Page) (old text new : List ℕ) (end : ℕ) → page.begin ≡ length old → end ≡ length old → Keeps page old page' text
    → OnOk written ((told ≡ Ok Fine) × (new ≡ text)) → OnErr written (new ≡ take end text) → OnErr told (new ≡ old)
is_kept (Ok u) told page page' old text new end begin from kept ok err = let Q : Result Condition AllocError → Type 0 = λ t. OnErr t (new ≡ old) in subst Q (sym ok.0) tt
is_kept (Err u) told page page' old text new end begin from kept ok err =
    let back : new ≡ old = err ∙ ap (λ n. take n text) (from ∙ sym begin ∙ sym kept.begin) ∙ front_is page page' old text begin kept in
    always told back
  where
    always : {P : Type 0} (t : Result Condition AllocError) → P → OnErr t P
    always (Ok x) h = tt
    always (Err x) h = h

-- ---- a part of what was still to do

-- a call met the first condition of what was still to do
pub first_stops : (begun here new : AtHand) (all left rest rest' : List Action) (u : Unwritten) → carried_out begun all ≡ carried_out here left → CarriesFirst here left (Err u) new rest → CarriesFirst begun all (Err u) new rest'
first_stops begun here new all left rest rest' (Met condition) same h = same ∙ h
first_stops begun here new all left rest rest' (Memory error) same h = tt

-- the same with other names for what was to do, and for how much is left
pub first_as : (begun new : AtHand) (all all' : List Action) (rest : ℕ → List Action) (m n : ℕ) (r : Result (Unit {0}) Unwritten) → all ≡ all' → CarriesFirst begun all' r new (rest m) → OnOk r (n ≡ m) → CarriesFirst begun all r new (rest n)
first_as begun new all all' rest m n (Ok u) same h last = ap (carried_out begun) same ∙ h ∙ ap (λ k. carried_out new (rest k)) (sym last)
first_as begun new all all' rest m n (Err (Met condition)) same h last = ap (carried_out begun) same ∙ h
first_as begun new all all' rest m n (Err (Memory error)) same h last = tt

pub ahead_few : (o : OutputItems) → length (values_ahead o) ≤ length (items_left o)
ahead_few (Row kind values) = omega (arith, length-map {B = Output} values.now (λ v. (kind, v)))
ahead_few (Cells cells order at) = omega arith
ahead_few (Runs runs run at) = omega arith

pub run_stops : (begun here new : AtHand) (all left rest : List Action) (u : Unwritten) → carried_out begun all ≡ carried_out here left → CarriesFirst here left (Err u) new rest → Carries begun all (Err u) new
run_stops begun here new all left rest (Met condition) same h = same ∙ h
run_stops begun here new all left rest (Memory error) same h = tt

-- whether an item is left, as the code asks
pub left_is : (n : ℕ) → nat_lt 0 n ≡ is_left n
left_is zero = refl
left_is (suc n) = grind (arith, nat_tests)
