-- The runner served alone, through a whole deck.
use Rattle.std.proofs.Common.{◌≡◌, ℕ, zero, suc, ◌≤◌, List, [], ◌∷◌, length, drop, Option, Some, None, refl, sym, ap, ◌∙◌, subst, arith}
use Rattle.fj_statement.specs.declared.deck.Variable.{Variable}
use Rattle.fj_slot.specs.Serving.{Meaning}
use Rattle.fj_world.specs.declared.ask.Ask.TheVariants.{Finished}
use Rattle.fj_world.specs.Conduct.{Conduct}
use Rattle.fj_world.specs.Plain.{Plain, PlainSlot}
use Rattle.fj_bay.specs.Bay.{Bay}
use Rattle.fj_bay.specs.Jobs.{Job, Answer}
use Rattle.fj_meaning.specs.State.{Files}
use Rattle.fj_meaning.specs.Statement.{Stated, Ending, begins as begun_by}
use Rattle.fj_meaning_jobs.specs.Desks.{most_slots}
use Rattle.fj_meaning_jobs.specs.Doing.{Desked}
use Rattle.fj_meaning_jobs.specs.Core.{Core}
use Rattle.fj_meaning_jobs.specs.Desking.{begun_at, desk_step, DesksRan, over_desks, fresh}
use Rattle.fj_meaning_turns.specs.Run.{Start, Run}
use Rattle.fj_meaning_turns.specs.Turns.{Turn, Pauses, Passes, Stops, Asked, finish_by, rule_of, turn_begun, turn_start, goes, by_turn}
use Rattle.fj_meaning_turns.specs.Serving.{over_bays, Shows, run_conduct, first_run, fresh_slots, begins}
use Rattle.fj_meaning_turns.specs.Inside.{cut_desks}
use Rattle.fj_meaning_turns.specs.Standing.{Reaches, StandsIn}
use Rattle.fj_meaning_turns.specs.Whole.{ComesTo, RunnerIsPlain}
use Rattle.fj_meaning_turns.proofs.Slots.{each_replicate}
use Rattle.fj_meaning_turns.proofs.Ties.{Ties}
use Rattle.fj_meaning_turns.proofs.Reaching.{reach_then, MayStand}
use Rattle.fj_meaning_turns.proofs.Statements.{turned, Stepped, step_reaches}

pub goes_is_turn : (st : Stated) (rest : List Stated) (r : Run) → goes (st ∷ rest) r ≡ by_turn rest (turn_start st (record r { rest = st ∷ rest }))
goes_is_turn st rest r = by (turn_start st (record r { rest = st ∷ rest }))
  where
    by : (t : Turn) → (elim t as (λ _. Asked) [ Pauses ask run ↦ record { ask = ask; run = run } | Passes run ↦ goes rest run | Stops run ↦ record { ask = Finished; run = run } ]) ≡ by_turn rest t
    by (Pauses ask run) = refl
    by (Passes run) = refl
    by (Stops run) = refl

ran_on : (variables : List Variable) (st : Stated) (more : List Stated) (p : Desked) → (desk_step variables (begun_at p st) p).1 ≡ None → over_desks variables (st ∷ more) p ≡ over_desks variables more (desk_step variables (begun_at p st) p).0
ran_on variables st more p e =
    ap (λ o. elim o as (λ _. DesksRan) [ None ↦ over_desks variables more (desk_step variables (begun_at p st) p).0 | Some x ↦ record { desked = (desk_step variables (begun_at p st) p).0; ending = Some x } ]) e

ran_out : (variables : List Variable) (st : Stated) (more : List Stated) (p : Desked) (ending : Ending) → (desk_step variables (begun_at p st) p).1 ≡ Some ending
    → over_desks variables (st ∷ more) p ≡ record { desked = (desk_step variables (begun_at p st) p).0; ending = Some ending }
ran_out variables st more p ending e =
    ap (λ o. elim o as (λ _. DesksRan) [ None ↦ over_desks variables more (desk_step variables (begun_at p st) p).0 | Some x ↦ record { desked = (desk_step variables (begun_at p st) p).0; ending = Some x } ]) e

pub cut_on : (variables : List Variable) (index : ℕ) (st : Stated) (more : List Stated) (p : Desked) → (desk_step variables (begun_at p st) p).1 ≡ None
    → cut_desks variables (suc index) (st ∷ more) p ≡ cut_desks variables index more (desk_step variables (begun_at p st) p).0
cut_on variables index st more p e =
    ap (λ o. elim o as (λ _. Option (Stated × Desked)) [ None ↦ cut_desks variables index more (desk_step variables (begun_at p st) p).0 | Some x ↦ None ]) e

-- it is there
pub cut_here : (variables : List Variable) (index : ℕ) (deck : List Stated) (p : Desked) (x : Stated × Desked) → cut_desks variables index deck p ≡ Some x → length (drop index deck) ≡ suc (length (drop (suc index) deck))
cut_here variables index [] p x e = cc
cut_here variables zero (st ∷ more) p x e = refl
cut_here variables (suc index) (st ∷ more) p x e = by (cut_here variables index more (desk_step variables (begun_at p st) p).0 x) (desk_step variables (begun_at p st) p).1 e
  where
    by : (cut_desks variables index more (desk_step variables (begun_at p st) p).0 ≡ Some x → length (drop index more) ≡ suc (length (drop (suc index) more))) → (o : Option Ending)
        → elim o as (λ _. Option (Stated × Desked)) [ None ↦ cut_desks variables index more (desk_step variables (begun_at p st) p).0 | Some ending ↦ None ] ≡ Some x → length (drop index more) ≡ suc (length (drop (suc index) more))
    by later None e = later e
    by later (Some ending) e = let z : None ≡ Some x = e in cc

-- the turn of a statement, as it begins
pub begun_turn : (st : Stated) (rest : List Stated) (r : Run) (p : Desked) → r.core ≡ p.core
    → turn_start st (record r { rest = st ∷ rest }) ≡ turn_begun (begun_at p st) (record r { rest = begun_at p st ∷ rest })
begun_turn st rest r p e = ap (λ (k : Core). turn_begun (begun_by k.vars k.new_unit st) (record r { rest = begun_by k.vars k.new_unit st ∷ rest })) e

-- ---- the start

pub first_ties : {E J A : Type 0} (m : Meaning E J A Bay Job Answer) (variables : List Variable) (deck : List Stated) (files : Files) → Ties m (first_run variables deck files) fresh_slots (fresh variables files)
first_ties m variables deck files = record {
  core = refl;
  desks = refl;
  sent = refl;
  told = refl;
  within = each_replicate (λ (q : PlainSlot Bay Job). q.told ≤ length q.jobs) most_slots (record { start = record { connection = None; halt = None }; jobs = []; told = 0 }) (omega (arith));
  slots = refl;
  housed = tt;
  same = refl;
  kept = tt;
}

module _ {E J A S : Type 0} (m : Meaning E J A Bay Job Answer) (s : Shows S) (P : Plain Bay (run_conduct s) → Type 0) where
  abbrev c : Conduct S Job Answer
  c = run_conduct s

  abbrev pub going : List Stated → Run → List (PlainSlot Bay Job) → Plain Bay c
  going sts r qs = let a = goes sts r in record { script = a.run; hand = a.ask; slots = qs }

  -- the states inside each statement that the execution comes to have the property
  abbrev pub MayGo : List Variable → List Stated → Desked → Type 0
  MayGo variables sts p = (index : ℕ) (st : Stated) (before : Desked) → cut_desks variables index sts p ≡ Some (st, before) → rule_of variables st before.core ≡ None → MayStand m s P variables st (drop (suc index) sts) before

  comes_first : (ran : DesksRan) (x y : Plain Bay c) → Reaches (over_bays m) c P x y → ComesTo m s P ran y → ComesTo m s P ran x
  comes_first ran x y h k = record {
    run = k.run;
    slots = k.slots;
    core = k.core;
    desks = k.desks;
    ending = k.ending;
    reaches = reach_then m s P x y (record { script = k.run; hand = Finished; slots = k.slots }) h k.reaches;
  }

  pub deck_reaches : (variables : List Variable) (sts : List Stated) (r : Run) (qs : List (PlainSlot Bay Job)) (p : Desked)
      → Ties m r qs p → r.ending ≡ None → r.variables ≡ variables → MayGo variables sts p
      → ComesTo m s P (over_desks variables sts p) (going sts r qs)
  deck_reaches variables [] r qs p t none vs ok = record { run = record r { rest = [] }; slots = qs; core = t.core; desks = t.desks; ending = none; reaches = (0, refl, tt) }
  deck_reaches variables (st ∷ more) r qs p t none vs ok =
      let first : Stepped m s P x more r1 (desk_step variables x p) (turned m s P more (turn_begun x r1) qs) =
      subst (λ v. Stepped m s P x more r1 (desk_step v x p) (turned m s P more (turn_begun x r1) qs)) vs
      (step_reaches m s P x more r1 qs p (record { core = t.core; desks = t.desks; sent = t.sent; told = t.told; within = t.within; slots = t.slots; housed = t.housed; same = t.same; kept = t.kept }) none refl
      (λ rule. subst (λ v. MayStand m s P v x more p) (sym vs) (ok 0 x p refl (ap (λ v. rule_of v x p.core) (sym vs) ∙ rule)))) in
      subst (λ a. ComesTo m s P (over_desks variables (st ∷ more) p) (record { script = a.run; hand = a.ask; slots = qs })) (sym (goes_is_turn st more r ∙ ap (by_turn more) (begun_turn st more r p t.core)))
      (by first (desk_step variables x p).1 refl
      (λ e. deck_reaches variables more (record first.run { stage = Start }) first.slots (desk_step variables x p).0 (restart first.run first.slots (desk_step variables x p).0 first.ties) first.ending (first.variables ∙ vs)
      (λ index at before reached. ok (suc index) at before (cut_on variables index st more p e ∙ reached))))
    where
      x : Stated
      x = begun_at p st

      r1 : Run
      r1 = record r { rest = x ∷ more }

      restart : (r : Run) (qs : List (PlainSlot Bay Job)) (p : Desked) → Ties m r qs p → Ties m (record r { stage = Start }) qs p
      restart r qs p t = record { core = t.core; desks = t.desks; sent = t.sent; told = t.told; within = t.within; slots = t.slots; housed = t.housed; same = t.same; kept = t.kept }

      by : (first : Stepped m s P x more r1 (desk_step variables x p) (turned m s P more (turn_begun x r1) qs)) (o : Option Ending) → (desk_step variables x p).1 ≡ o
          → ((desk_step variables x p).1 ≡ None → ComesTo m s P (over_desks variables more (desk_step variables x p).0) (going more (record first.run { stage = Start }) first.slots))
          → ComesTo m s P (over_desks variables (st ∷ more) p) (turned m s P more (turn_begun x r1) qs)
      by first None e later =
          subst (λ ran. ComesTo m s P ran (turned m s P more (turn_begun x r1) qs)) (sym (ran_on variables st more p e))
          (comes_first (over_desks variables more (desk_step variables x p).0) (turned m s P more (turn_begun x r1) qs) (going more (record first.run { stage = Start }) first.slots)
          (subst (λ o. Reaches (over_bays m) c P (turned m s P more (turn_begun x r1) qs) (turned m s P more (finish_by o first.run) first.slots)) e first.reaches) (later e))
      by first (Some ending) e later =
          subst (λ ran. ComesTo m s P ran (turned m s P more (turn_begun x r1) qs)) (sym (ran_out variables st more p ending e))
          (record {
            run = record first.run { stage = Start; ending = Some ending };
            slots = first.slots;
            core = first.ties.core;
            desks = first.ties.desks;
            ending = refl;
            reaches = subst (λ o. Reaches (over_bays m) c P (turned m s P more (turn_begun x r1) qs) (turned m s P more (finish_by o first.run) first.slots)) e first.reaches;
          })

module _ {E J A S : Type 0} (m : Meaning E J A Bay Job Answer) (s : Shows S) where
  begins_is : (variables : List Variable) (deck : List Stated) (files : Files) (P : Plain Bay (run_conduct s) → Type 0) → going m s P deck (first_run variables deck files) fresh_slots ≡ begins m s variables deck files
  begins_is variables [] files P = refl
  begins_is variables (st ∷ more) files P = ap (λ a. record { script = a.run; hand = a.ask; slots = fresh_slots }) (goes_is_turn st more (first_run variables (st ∷ more) files))

  pub runner_is_plain : RunnerIsPlain m s
  runner_is_plain variables deck files =
      let P = StandsIn m s variables deck (fresh variables files) in
      subst (ComesTo m s P (over_desks variables deck (fresh variables files))) (begins_is variables deck files P)
      (deck_reaches m s P variables deck (first_run variables deck files) fresh_slots (fresh variables files) (first_ties m variables deck files) refl refl
      (λ index st before reached allowed x rest inside. record { index = index; statement = st; before = before; reached = reached; rest = ap length rest ∙ sym (cut_here variables index deck (fresh variables files) (st, before) reached); allowed = allowed; inside = inside }))
