-- A runner behind statements that it passes, END being the last one of its deck: it stands at one.
use Rattle.std.proofs.Common.{◌≡◌, ◌≢◌, ℕ, zero, suc, List, [], ◌∷◌, ◌++◌, drop, Option, Some, None, refl, sym, ap, ◌∙◌, subst, inl, inr}
use Rattle.std.specs.Prelude.{option_and_then}
use Rattle.fj_value.specs.declared.condition.Condition.{Condition}
use Rattle.fj_value.specs.declared.condition.Condition.TheVariants.{Fine, EndOfFile, EndOfRecord, Error}
use Rattle.fj_value.specs.declared.condition.Rule.{Rule}
use Rattle.fj_statement.specs.declared.deck.Variable.{Variable}
use Rattle.fj_statement.specs.declared.deck.Lined.{Lined}
use Rattle.fj_statement.specs.declared.deck.Deck.{Deck}
use Rattle.fj_statement.specs.declared.statement.Statement.TheVariants as statement
use Rattle.fj_statement.specs.Sound.{IsSound}
use Rattle.fj_statement.specs.Units.{begun}
use Rattle.fj_store.specs.Variables.{value_at}
use Rattle.fj_slot.specs.Serving.{Meaning}
use Rattle.fj_world.specs.Plain.{PlainSlot}
use Rattle.fj_bay.specs.Bay.{Bay}
use Rattle.fj_bay.specs.Jobs.{Job, Answer}
use Rattle.fj_meaning.specs.State.{Entry}
use Rattle.fj_meaning.specs.Statement.{Stated, stated, control_by, Ending, ends}
use Rattle.fj_meaning_jobs.specs.Doing.{Doing, finishes, gives, awaits, Desked}
use Rattle.fj_meaning_jobs.specs.Desking.{begun_at, desk_step}
use Rattle.fj_meaning_turns.specs.Run.{Run, Stage, Start, Waiting, Acting, Awaiting}
use Rattle.fj_meaning_turns.specs.Turns.{Turn, Pauses, Passes, Stops, finish_by, turn_act, with_core, with_iostat, doing_told, with_tells, wait_by, waited_now, unsettled, start_by, rule_of, begun_for, hand_at, with_hand, turn}
use Rattle.fj_meaning_turns.specs.Inside.{cut_desks}
use Rattle.fj_meaning_turns.specs.Passing.{passed_by, passed_on, passes}
use Rattle.fj_meaning_turns.proofs.Slots.{same_some}
use Rattle.fj_meaning_turns.proofs.Passed.{At, passes_stand}

-- ---- END is not passed

abbrev pub IsPassed : Turn → Type 0
IsPassed (Passes run) = Unit {0}
IsPassed (Pauses ask run) = ⊥
IsPassed (Stops run) = ⊥

end_ends : (line : ℕ) (condition : Condition) → ends line statement.End condition ≢ None
end_ends line Fine e = cc
end_ends line EndOfFile e = cc
end_ends line EndOfRecord e = cc
end_ends line (Error n) e = cc

finish_stays : (o : Option Ending) (r : Run) → o ≢ None → IsPassed (finish_by o r) → ⊥
finish_stays None r some p = some refl
finish_stays (Some e) r some p = p

module _ (st : Stated) (is_end : st.0.what ≡ statement.End) where
  act_stays : (d : Doing) (r : Run) → IsPassed (turn_act st d r) → ⊥
  act_stays (finishes core condition) r p =
      finish_stays (ends st.0.line st.0.what condition) (with_core (with_iostat st condition r core) r)
      (λ none. end_ends st.0.line condition (ap (λ w. ends st.0.line w condition) (sym is_end) ∙ none)) p
  act_stays (gives slot job core next) r p = p
  act_stays (awaits slot job core next) r p = p

  wait_stays : (waited : List Entry) (o : Option ℕ) (r : Run) → IsPassed (wait_by st waited o r) → ⊥
  wait_stays waited None r p = act_stays (doing_told r.variables st waited r.core) (with_tells st waited r) p
  wait_stays waited (Some slot) r p = p

  start_stays : (o : Option Rule) (r : Run) → IsPassed (start_by st o r) → ⊥
  start_stays (Some rule) r p = p
  start_stays None r p = wait_stays (waited_now st r) (unsettled (waited_now st r) r.book) r p

turn_stays : (st : Stated) (stage : Stage) (r : Run) → (hand_at st stage r).0.what ≡ statement.End → IsPassed (turn st stage r) → ⊥
turn_stays st Start r e p = start_stays (begun_for r st) e (rule_of r.variables (begun_for r st) r.core) (with_hand (begun_for r st) r) p
turn_stays st Waiting r e p = wait_stays st e (waited_now st r) (unsettled (waited_now st r) r.book) r p
turn_stays st (Acting does) r e p = act_stays st e does r p
turn_stays st (Awaiting slot number next) r e p = p

-- ---- it is the last statement of a deck

not_empty : (body : List Lined) (l : Lined) → stated (body ++ l ∷ []) ≡ [] → ⊥
not_empty [] l e = cc
not_empty (b ∷ body) l e = cc

last_is : (body : List Lined) (l : Lined) (index : ℕ) (st : Stated) → drop index (stated (body ++ l ∷ [])) ≡ st ∷ [] → l ≡ st.0
last_is [] l zero st e = let same : (l, control_by l.what) ≡ st = cc in ap (λ x. x.0) same
last_is [] l (suc zero) st e = cc
last_is [] l (suc (suc index)) st e = cc
last_is (b ∷ body) l zero st e = let none : stated (body ++ l ∷ []) ≡ [] = cc in absurd (not_empty body l none)
last_is (b ∷ body) l (suc index) st e = last_is body l index st e

-- the last one of these statements is END
abbrev pub EndsSo : List Stated → Type 0
EndsSo deck = (index : ℕ) (st : Stated) → drop index deck ≡ st ∷ [] → st.0.what ≡ statement.End

pub ends_so : (deck : Deck) → IsSound deck → EndsSo (stated deck.statements)
ends_so deck sound index st e =
    let l : Lined = record { line = sound.end_line; what = statement.End } in
    let same : l ≡ st.0 = last_is sound.body l index st (ap (λ ls. drop index (stated ls)) (sym sound.ends) ∙ e) in
    sym (ap (λ x. x.what) same)

-- a sound deck has a statement
pub some_statement : (deck : Deck) → IsSound deck → stated deck.statements ≡ [] → ⊥
some_statement deck sound none = not_empty sound.body (record { line = sound.end_line; what = statement.End }) (ap stated (sym sound.ends) ∙ none)

-- ---- statements that are passed

pub passed_is : (rest : List Stated) (t : Turn) (run : Run) → passed_by rest t ≡ Some run → IsPassed t × (run.rest ≡ rest)
passed_is rest (Passes r) run e = let same : record r { rest = rest } ≡ run = same_some e in (tt, sym (ap (λ x. x.rest) same))
passed_is rest (Pauses ask r) run e = cc
passed_is rest (Stops r) run e = cc

-- the statement of a cut over desks is the one that stands there, as it begins
desk_place : (variables : List Variable) (index : ℕ) (deck : List Stated) (p : Desked) (st : Stated) (before : Desked) → cut_desks variables index deck p ≡ Some (st, before)
    → (plain : Stated) × (drop index deck ≡ plain ∷ drop (suc index) deck) × (st ≡ begun_at before plain)
desk_place variables index [] p st before e = cc
desk_place variables zero (x ∷ more) p st before e =
    let same : ◌≡◌ {A = Stated × Desked} (begun_at p x, p) (st, before) = same_some e in
    (x, refl, sym (ap (λ y. y.0) same) ∙ ap (λ y. begun_at y.1 x) same)
desk_place variables (suc index) (x ∷ more) p st before e = by (desk_step variables (begun_at p x) p) (desk_place variables index more (desk_step variables (begun_at p x) p).0 st before) e
  where
    by : (done : Desked × Option Ending)
        → (cut_desks variables index more done.0 ≡ Some (st, before) → (plain : Stated) × (drop index more ≡ plain ∷ drop (suc index) more) × (st ≡ begun_at before plain))
        → elim done.1 as (λ _. Option (Stated × Desked)) [ None ↦ cut_desks variables index more done.0 | Some ending ↦ None ] ≡ Some (st, before)
        → (plain : Stated) × (drop index more ≡ plain ∷ drop (suc index) more) × (st ≡ begun_at before plain)
    by (next, None) later f = later f
    by (next, Some ending) later f = absurd (let z : None ≡ Some (st, before) = f in cc)

module _ {E J A : Type 0} (m : Meaning E J A Bay Job Answer) (variables : List Variable) (deck : List Stated) (first : Desked) (so : EndsSo deck) where
  pass_one : (r next : Run) (qs : List (PlainSlot Bay Job)) → At m variables deck first r qs → passed_on r.rest r ≡ Some next → At m variables deck first next qs
  pass_one r next qs x e =
      let got = passed_is x.behind (turn x.at_hand r.stage r) next (sym (ap (λ l. passed_on l r) x.here) ∙ e) in
      let place = desk_place variables x.index deck first x.statement x.before x.reached in
      elim (passes_stand m variables deck first 1 r qs x next (ap (option_and_then (passes 0)) e)) [
        | inl none ↦
            let ends : place.0.0.what ≡ statement.End = so x.index place.0 (place.1 ∙ ap (λ l. place.0 ∷ l) (x.place ∙ sym got.1 ∙ none)) in
            let it : x.statement.0.what ≡ statement.End = ap (λ (z : Stated). z.0.what) place.2 ∙ ap (λ w. begun (value_at x.before.core.vars) x.before.core.new_unit w) ends in
            absurd (turn_stays x.at_hand r.stage r (ap (λ (z : Stated). z.0.what) x.hand ∙ it) got.0)
        | inr y ↦ y
      ]

  pub passes_on : (count : ℕ) (r run : Run) (qs : List (PlainSlot Bay Job)) → At m variables deck first r qs → passes count r ≡ Some run → At m variables deck first run qs
  passes_on zero r run qs x e = let same : r ≡ run = same_some e in subst (λ k. At m variables deck first k qs) same x
  passes_on (suc count) r run qs x e = by (λ next y f. passes_on count next run qs y f) (passed_on r.rest r) refl e
    where
      by : ((next : Run) → At m variables deck first next qs → passes count next ≡ Some run → At m variables deck first run qs)
          → (o : Option Run) → passed_on r.rest r ≡ o → option_and_then (passes count) o ≡ Some run → At m variables deck first run qs
      by later None f k = absurd (let z : None ≡ Some run = k in cc)
      by later (Some next) f k = later next (pass_one r next qs x f) k
