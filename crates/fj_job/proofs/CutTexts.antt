-- The statement at which an execution is cut, and what unit `*` got until there.
use Rattle.std.proofs.Common.{◌≡◌, ℕ, zero, suc, ◌-◌, List, [], ◌∷◌, ◌++◌, length, drop, take-append-drop, Option, Some, None, slice_get, refl, sym, ap, ◌∙◌, subst}
use Rattle.fj_statement.specs.declared.deck.Variable.{Variable}
use Rattle.fj_statement.specs.declared.deck.Lined.{Lined}
use Rattle.fj_statement.specs.declared.deck.Deck.{Deck}
use Rattle.fj_meaning.specs.State.{State, Files, Output, start}
use Rattle.fj_meaning.specs.Statement.{Stated, Ran, begun_in, stated, control_by, step, executed, Ending, cut, plain_execution}
use Rattle.fj_run_items.specs.Handing.{whole_records, open_record}
use Rattle.fj_meaning_turns.proofs.Slots.{same_some}
use Rattle.fj_job.specs.Cut.{Reach, Untold, Told, Carried, reached, ComesTo, BeginsAt}
use Rattle.fj_job.specs.Reply.{open_feed}
use Rattle.fj_job.proofs.Closed.{IsClosed, Follows, follows_same, follows_on, step_follows, executed_follows}
use Rattle.fj_job.proofs.Executed.{whole_and_open}
use Rattle.fj_job.proofs.Leaving.{same_index, within}

-- ---- one statement of a cut

module _ (variables : List Variable) where
  -- a cut behind a statement, by the ending of that
  abbrev pub cut_by : ℕ → List Stated → State → Option Ending → Option (Stated × State)
  cut_by index sts next o = elim o as (λ _. Option (Stated × State)) [ None ↦ cut variables index sts next | Some e ↦ None ]

  -- it is the one that stands there in the deck, as it begins
  pub cut_place : (index : ℕ) (sts : List Stated) (s : State) (st : Stated) (before : State) → cut variables index sts s ≡ Some (st, before)
      → (plain : Stated) × (slice_get sts index ≡ Some plain) × (st ≡ begun_in before plain)
  cut_place index [] s st before e = cc
  cut_place zero (x ∷ sts) s st before e =
      let same : ◌≡◌ {A = Stated × State} (begun_in s x, s) (st, before) = same_some e in
      (x, refl, sym (ap (λ y. y.0) same) ∙ ap (λ y. begun_in y.1 x) same)
  cut_place (suc index) (x ∷ sts) s st before e = by (step variables (begun_in s x) s) (λ f. cut_place index sts (step variables (begun_in s x) s).0 st before f) e
    where
      by : (done : State × Option Ending) → (cut variables index sts done.0 ≡ Some (st, before) → (plain : Stated) × (slice_get sts index ≡ Some plain) × (st ≡ begun_in before plain))
          → cut_by index sts done.0 done.1 ≡ Some (st, before) → (plain : Stated) × (slice_get sts index ≡ Some plain) × (st ≡ begun_in before plain)
      by (next, None) later f = later f
      by (next, Some ending) later f = absurd (let z : None ≡ Some (st, before) = f in cc)

  -- what is printed up to there, and as far as the statement came
  pub cut_follows : (index : ℕ) (sts : List Stated) (s : State) (st : Stated) (before : State) → cut variables index sts s ≡ Some (st, before) → Follows s.output before.output
  cut_follows index [] s st before e = cc
  cut_follows zero (x ∷ sts) s st before e = let same : ◌≡◌ {A = Stated × State} (begun_in s x, s) (st, before) = same_some e in subst (λ y. Follows s.output y.1.output) same (follows_same _ _ refl)
  cut_follows (suc index) (x ∷ sts) s st before e =
      by (step variables (begun_in s x) s) (step_follows variables (begun_in s x) s) (λ f. cut_follows index sts (step variables (begun_in s x) s).0 st before f) e
    where
      by : (done : State × Option Ending) → Follows s.output done.0.output → (cut variables index sts done.0 ≡ Some (st, before) → Follows done.0.output before.output)
          → cut_by index sts done.0 done.1 ≡ Some (st, before) → Follows s.output before.output
      by (next, None) k later f = follows_on _ _ _ k (later f)
      by (next, Some ending) k later f = absurd (let z : None ≡ Some (st, before) = f in cc)

  pub reached_follows : (reach : Reach) (st : Stated) (s : State) → Follows s.output (reached reach variables st s).output
  reached_follows Untold st s = follows_same _ _ refl
  reached_follows Told st s = follows_same _ _ refl
  reached_follows Carried st s = step_follows variables st s

  -- and from there on
  rest_goes : (more : List Stated) (done : State × Option Ending) → Follows done.0.output (elim done.1 as (λ _. Ran) [ None ↦ executed variables more done.0 | Some e ↦ record { state = done.0; ending = Some e } ]).state.output
  rest_goes more (next, None) = executed_follows variables more next
  rest_goes more (next, Some ending) = follows_same _ _ refl

  rest_follows : (reach : Reach) (st : Stated) (more : List Stated) (s : State)
      → Follows (reached reach variables st s).output (elim (step variables st s).1 as (λ _. Ran) [ None ↦ executed variables more (step variables st s).0 | Some e ↦ record { state = (step variables st s).0; ending = Some e } ]).state.output
  rest_follows Untold st more s = follows_on _ _ _ (step_follows variables st s) (rest_goes more (step variables st s))
  rest_follows Told st more s = follows_on _ _ _ (step_follows variables st s) (rest_goes more (step variables st s))
  rest_follows Carried st more s = rest_goes more (step variables st s)

  behind_cut : (reach : Reach) (index : ℕ) (sts : List Stated) (s : State) (st : Stated) (before : State) → cut variables index sts s ≡ Some (st, before)
      → Follows (reached reach variables st before).output (executed variables sts s).state.output
  behind_cut reach index [] s st before e = cc
  behind_cut reach zero (x ∷ sts) s st before e =
      let same : ◌≡◌ {A = Stated × State} (begun_in s x, s) (st, before) = same_some e in
      subst (λ y. Follows (reached reach variables y.0 y.1).output (executed variables (x ∷ sts) s).state.output) same (rest_follows reach (begun_in s x) sts s)
  behind_cut reach (suc index) (x ∷ sts) s st before e = by (step variables (begun_in s x) s) (λ f. behind_cut reach index sts (step variables (begun_in s x) s).0 st before f) e
    where
      by : (done : State × Option Ending) → (cut variables index sts done.0 ≡ Some (st, before) → Follows (reached reach variables st before).output (executed variables sts done.0).state.output)
          → cut_by index sts done.0 done.1 ≡ Some (st, before)
          → Follows (reached reach variables st before).output (elim done.1 as (λ _. Ran) [ None ↦ executed variables sts done.0 | Some e ↦ record { state = done.0; ending = Some e } ]).state.output
      by (next, None) later f = later f
      by (next, Some ending) later f = absurd (let z : None ≡ Some (st, before) = f in cc)

-- at any statement to which the execution comes, and as far as it came there, an open record alone has characters that did not end
pub comes_closed : (deck : Deck) (files : Files) (comes : ComesTo deck files) (reach : Reach) → IsClosed (reached reach deck.variables comes.statement comes.before).output
comes_closed deck files comes reach =
    (reached_follows deck.variables reach comes.statement comes.before).closed
    ((cut_follows deck.variables comes.index (stated deck.statements) (start deck.variables files) comes.statement comes.before comes.there).closed (λ _. refl))

-- the output of the whole execution goes on from there
pub goes_on_behind : (deck : Deck) (files : Files) (comes : ComesTo deck files) (reach : Reach)
    → Follows (reached reach deck.variables comes.statement comes.before).output (plain_execution deck.variables deck.statements files).output
goes_on_behind deck files comes reach =
    behind_cut deck.variables reach comes.index (stated deck.statements) (start deck.variables files) comes.statement comes.before comes.there

-- ---- the statement at hand

placed : (xs : List Lined) (at : ℕ) (st : Stated) → slice_get (stated xs) at ≡ Some st → (lined : Lined) × (slice_get xs at ≡ Some lined) × (st ≡ (lined, control_by lined.what))
placed [] at st e = cc
placed (x ∷ xs) zero st e = (x, refl, sym (same_some e))
placed (x ∷ xs) (suc at) st e = placed xs at st e

-- where as many are left as behind a cut, it is the one at which that is
pub at_hand : (deck : Deck) (files : Files) (comes : ComesTo deck files) (at : ℕ) → length (drop at (stated deck.statements)) ≡ length (drop comes.index (stated deck.statements)) → BeginsAt comes at
at_hand deck files comes at e =
    let place = cut_place deck.variables comes.index (stated deck.statements) (start deck.variables files) comes.statement comes.before comes.there in
    let low = within deck.variables comes.index (stated deck.statements) (start deck.variables files) (comes.statement, comes.before) comes.there in
    let same : comes.index ≡ at = sym (same_index (stated deck.statements) at comes.index low e) in
    let it = placed deck.statements comes.index place.0 place.1 in
    subst (BeginsAt comes) same (it.0, it.1, place.2 ∙ ap (begun_in comes.before) it.2)

-- ---- texts

-- the records that ended are in front
pub records_front : (o : Output) → whole_records o ++ drop (length o.text - o.begun) o.text ≡ o.text
records_front o = take-append-drop (length o.text - o.begun) o.text

-- the records that ended and the open one are the text, with the line feed of the open one
pub text_and_feed : (deck : Deck) (files : Files) (comes : ComesTo deck files) (reach : Reach) (o : Output) → o ≡ (reached reach deck.variables comes.statement comes.before).output → (rest : List ℕ)
    → whole_records o ++ (open_record o ++ rest) ≡ o.text ++ (open_feed o ++ rest)
text_and_feed deck files comes reach o e rest = whole_and_open o.text o.begun o.is_open rest (subst (λ (x : Output). IsClosed x) (sym e) (comes_closed deck files comes reach))
