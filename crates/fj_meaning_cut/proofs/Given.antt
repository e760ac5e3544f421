-- The jobs of slots, each with the statement that gives it.
use Rattle.std.proofs.Common.{◌≡◌, ◌⊎◌, ℕ, zero, suc, ◌-◌, ◌<◌, ◌≤◌, false, true, List, [], ◌∷◌, length, map, get_or, take, drop, replicate, Option, Some, None, IsSome, is_some, slice_get, refl, sym, ap, ◌∙◌, subst, inl, inr, arith}
use Rattle.std.proofs.lemmas.List.{take_all, length-take-le}
use Rattle.std.proofs.lemmas.Option.{slice_get_within}
use Rattle.fj_value.specs.declared.condition.Rule.{Rule}
use Rattle.fj_statement.specs.declared.deck.Variable.{Variable}
use Rattle.fj_slot.specs.Serving.{Meaning}
use Rattle.fj_slot.proofs.Serving.{length-outcomes}
use Rattle.fj_world.specs.declared.ask.Ask.TheVariants.{Submit, Settle, Finished}
use Rattle.fj_world.specs.Conduct.{Conduct}
use Rattle.fj_world.specs.Losing.{before_ask}
use Rattle.fj_world.specs.Plain.{Plain, PlainSlot}
use Rattle.fj_bay.specs.Bay.{Bay}
use Rattle.fj_bay.specs.Jobs.{Job, detach, Answer}
use Rattle.fj_bay.specs.Spoilt.{behind}
use Rattle.fj_bay.proofs.Behind.{behind_is}
use Rattle.fj_meaning.specs.State.{Files}
use Rattle.fj_meaning.specs.Statement.{Stated, Ending}
use Rattle.fj_meaning_jobs.specs.Core.{Core}
use Rattle.fj_meaning_jobs.specs.Desks.{Desk, carry, outcome, log_length, most_slots}
use Rattle.fj_meaning_jobs.specs.Doing.{Doing, finishes, gives, awaits, Desked, given}
use Rattle.fj_meaning_jobs.specs.Desking.{begun_at, DesksRan, over_desks, goes_on, desk_step, fresh}
use Rattle.fj_meaning_jobs.specs.Giving.{carry_all}
use Rattle.fj_meaning_turns.specs.Run.{Run}
use Rattle.fj_meaning_turns.specs.Turns.{rule_of}
use Rattle.fj_meaning_turns.specs.Serving.{over_bays, Shows, run_conduct, desk_of, desks_of, first_run, fresh_slots, begins}
use Rattle.fj_meaning_turns.specs.Cutting.{stands}
use Rattle.fj_meaning_turns.specs.Inside.{does, jobs_of, walked, cut_desks}
use Rattle.fj_meaning_turns.specs.Passing.{passes}
use Rattle.fj_meaning_turns.specs.Standing.{GivesNext, GivesJob, Asks, StandsIn}
use Rattle.fj_meaning_turns.specs.Laws.{plain_bays, shown}
use Rattle.fj_meaning_turns.specs.Awaiting.{IsAwaitedBefore, HasAwaited}
use Rattle.fj_meaning_turns.proofs.Before.{Fares, over_at, fares_after, each_awaited, counts_after}
use Rattle.fj_meaning_turns.proofs.Cutting.{step_given, walked_given, own_given, each_entry}
use Rattle.fj_meaning_turns.proofs.Decks.{runner_is_plain}
use Rattle.fj_meaning_turns.proofs.Finishing.{one_end}
use Rattle.fj_meaning_turns.proofs.Passed.{long_at, Over, passes_none, At, passes_stand, stands_at, counts_at}
use Rattle.fj_meaning_turns.proofs.Slots.{map_get, get_mapped, same_some}
use Rattle.fj_meaning_turns.proofs.Statements.{step_is}
use Rattle.fj_meaning_cut.specs.Stopping.{GivesTo, WereGiven, EachStopGiven, EachTurnGiven, EachEndGiven, StopsAreGiven, TurnsAreGiven, EndsAreGiven}
use Rattle.fj_meaning_cut.proofs.Rests.{after_fewer, answered_same, passes_fewer}
use Rattle.fj_meaning_cut.proofs.Submitted.{Submitted, each_submitted, last_or}

-- ---- places of a deck

left_of_deck : {X : Type 0} (k : ℕ) (xs : List X) → length (drop k xs) ≡ length xs - k
left_of_deck zero xs = omega arith
left_of_deck (suc k) [] = omega arith
left_of_deck (suc k) (x ∷ xs) = left_of_deck k xs ∙ omega arith

-- a statement that is come to is one of the deck
pub within_deck : (variables : List Variable) (index : ℕ) (deck : List Stated) (p : Desked) (x : Stated × Desked) → cut_desks variables index deck p ≡ Some x → index < length deck
within_deck variables index [] p x e = cc
within_deck variables zero (st ∷ more) p x e = omega arith
within_deck variables (suc index) (st ∷ more) p x e = by (λ f. within_deck variables index more (desk_step variables (begun_at p st) p).0 x f) (desk_step variables (begun_at p st) p).1 e
  where
    by : (cut_desks variables index more (desk_step variables (begun_at p st) p).0 ≡ Some x → index < length more) → (o : Option Ending)
        → elim o as (λ _. Option (Stated × Desked)) [ None ↦ cut_desks variables index more (desk_step variables (begun_at p st) p).0 | Some ending ↦ None ] ≡ Some x → suc index < length (st ∷ more)
    by later None e = let k = later e in omega (arith, k)
    by later (Some ending) e = let z : None ≡ Some x = e in cc

-- where no more are left it is no earlier
not_earlier : (deck a b : List Stated) (i j : ℕ) → length a ≡ length (drop i deck) → length b ≡ length (drop j deck) → i < length deck → j < length deck → length b ≤ length a → i ≤ j
not_earlier deck a b i j p q low high less =
    let x = p ∙ left_of_deck i deck in
    let y = q ∙ left_of_deck j deck in
    omega (arith, x, y, low, high, less)

-- ---- the next job of a statement

next_given : (k : ℕ) (ds : List Desk) (d : Doing) (at : ℕ) (job : Job) (core : Core) → GivesNext (walked k ds d).1 at job core → slice_get (given ds d) k ≡ Some (at, job)
next_given zero ds (finishes core condition) at job now g = absurd g
next_given zero ds (gives slot task core next) at job now g = ap Some (λ i. (g.0 i, g.1 i))
next_given zero ds (awaits slot task core next) at job now g = ap Some (λ i. (g.0 i, g.1 i))
next_given (suc k) ds (finishes core condition) at job now g = absurd g
next_given (suc k) ds (gives slot task core next) at job now g = next_given k (carry ds slot task) (next (log_length (slice_get ds slot))) at job now g
next_given (suc k) ds (awaits slot task core next) at job now g = next_given k (carry ds slot task) (next (outcome ds slot task)) at job now g

none_yet : (k at : ℕ) (q x : PlainSlot Bay Job) → x.jobs ≡ [] → slice_get (replicate k x) at ≡ Some q → q.jobs ≡ []
none_yet zero zero q x none e = cc
none_yet zero (suc at) q x none e = cc
none_yet (suc k) zero q x none e = let same : x ≡ q = cc in ap (λ (z : PlainSlot Bay Job). z.jobs) (sym same) ∙ none
none_yet (suc k) (suc at) q x none e = none_yet k at q x none e

-- ---- where a statement ends the execution

ends_over : (variables : List Variable) (index : ℕ) (deck : List Stated) (p : Desked) (st : Stated) (before : Desked) → cut_desks variables index deck p ≡ Some (st, before) → IsSome (desk_step variables st before).1
    → (over_desks variables deck p).desked ≡ (desk_step variables st before).0
ends_over variables index [] p st before e some = cc
ends_over variables zero (x ∷ deck) p st before e some =
    ap (λ (z : Stated × Desked). (elim (desk_step variables z.0 z.1).1 as (λ _. DesksRan) [ None ↦ over_desks variables deck (desk_step variables z.0 z.1).0 | Some y ↦ record { desked = (desk_step variables z.0 z.1).0; ending = Some y } ]).desked) same
    ∙ here (desk_step variables st before).1 refl some
  where
    same : ◌≡◌ {A = Stated × Desked} (begun_at p x, p) (st, before)
    same = same_some e

    here : (o : Option Ending) → (desk_step variables st before).1 ≡ o → IsSome o
        → (elim (desk_step variables st before).1 as (λ _. DesksRan) [ None ↦ over_desks variables deck (desk_step variables st before).0 | Some y ↦ record { desked = (desk_step variables st before).0; ending = Some y } ]).desked
        ≡ (desk_step variables st before).0
    here None f none = cc
    here (Some ending) f none =
        ap (λ o. (elim o as (λ _. DesksRan) [ None ↦ over_desks variables deck (desk_step variables st before).0 | Some y ↦ record { desked = (desk_step variables st before).0; ending = Some y } ]).desked) f
ends_over variables (suc index) (x ∷ deck) p st before e some =
    by (desk_step variables (begun_at p x) p).1 refl (λ f. ends_over variables index deck (desk_step variables (begun_at p x) p).0 st before f some)
  where
    by : (o : Option Ending) → (desk_step variables (begun_at p x) p).1 ≡ o
        → (cut_desks variables index deck (desk_step variables (begun_at p x) p).0 ≡ Some (st, before) → (over_desks variables deck (desk_step variables (begun_at p x) p).0).desked ≡ (desk_step variables st before).0)
        → (over_desks variables (x ∷ deck) p).desked ≡ (desk_step variables st before).0
    by None f later =
        ap (λ o. (elim o as (λ _. DesksRan) [ None ↦ over_desks variables deck (desk_step variables (begun_at p x) p).0 | Some y ↦ record { desked = (desk_step variables (begun_at p x) p).0; ending = Some y } ]).desked) f
        ∙ later (sym (ap (λ o. elim o as (λ _. Option (Stated × Desked)) [ None ↦ cut_desks variables index deck (desk_step variables (begun_at p x) p).0 | Some y ↦ None ]) f) ∙ e)
    by (Some ending) f later =
        absurd (let z : None ≡ Some (st, before) = sym (ap (λ o. elim o as (λ _. Option (Stated × Desked)) [ None ↦ cut_desks variables index deck (desk_step variables (begun_at p x) p).0 | Some y ↦ None ]) f) ∙ e in cc)

-- all jobs that a statement gives, or none where it is prohibited
step_jobs : (variables : List Variable) (st : Stated) (before : Desked) → (k : ℕ) × ((desk_step variables st before).0.desks ≡ carry_all before.desks (take k (jobs_of variables st before)))
step_jobs variables st before = by (rule_of variables st before.core) refl
  where
    by : (o : Option Rule) → rule_of variables st before.core ≡ o → (k : ℕ) × ((desk_step variables st before).0.desks ≡ carry_all before.desks (take k (jobs_of variables st before)))
    by None e =
        let js = jobs_of variables st before in
        (length js, step_given variables st before e ∙ ap (carry_all before.desks) (sym (take_all (length js) js (omega arith))))
    by (Some rule) e = (0, ap (λ d. d.0.desks) (step_is variables st before) ∙ ap (λ o. (goes_on st.1 variables st.0.line st.0.what before o).0.desks) e)

module _ {E J A S : Type 0} (m : Meaning E J A Bay Job Answer) (s : Shows S) (variables : List Variable) (deck : List Stated) (files : Files) where
  abbrev c : Conduct S Job Answer
  c = run_conduct s

  abbrev first : Plain Bay c
  first = begins m s variables deck files

  abbrev there : ℕ → Plain Bay c
  there n = stands m s variables deck files n

  -- a statement that stands at a place of the deck, and what it gave so far
  record Stage (slots : List (PlainSlot Bay Job)) (rest : List Stated) : Type 0 where
    index : ℕ
    statement : Stated
    before : Desked
    reached : cut_desks variables index deck (fresh variables files) ≡ Some (statement, before)
    place : length rest ≡ length (drop index deck)
    jobs : ℕ
    desks : desks_of m slots ≡ carry_all before.desks (take jobs (jobs_of variables statement before))

  desk_bay : (q : PlainSlot Bay Job) (start : Bay) (front : List Job) → q.start ≡ start → q.jobs ≡ front → (desk_of m q).bay ≡ behind start front
  desk_bay q start front from are = behind_is (over_bays m) refl q.start q.jobs ∙ ap (λ b. behind b q.jobs) from ∙ ap (behind start) are

  by_entry : (n at : ℕ) (start : Bay) (front : List Job) (job : Job) (last : ℕ) (rest : List Stated) → length rest ≡ length (drop last deck) → last < length deck
      → ((e : ℕ) → e < n → length rest ≤ length (there e).script.rest) → (w : Submitted (over_bays m) c first n at start front job)
      → ((there w.entry).hand ≡ Finished) ⊎ StandsIn m s variables deck (fresh variables files) (there w.entry) → GivesTo variables deck files last at (length front) (behind start front) job
  by_entry n at start front job last rest place low less w (inl over) = absurd (let z : Submit at job ≡ Finished = sym w.hand ∙ over in cc)
  by_entry n at start front job last rest place low less w (inr t) =
      let g : GivesJob variables t.statement t.before at job (there w.entry).script (desks_of m (there w.entry).slots) =
      subst (λ a. Asks variables t.statement t.before a (there w.entry).script (desks_of m (there w.entry).slots)) w.hand t.inside.asks in
      let here = map_get (desk_of m) (there w.entry).slots at w.slot w.has in
      record {
        index = t.index;
        until = not_earlier deck (there w.entry).script.rest rest t.index last t.rest place (within_deck variables t.index deck (fresh variables files) (t.statement, t.before) t.reached) low (less w.entry w.before);
        statement = t.statement;
        before = t.before;
        reached = t.reached;
        jobs = g.jobs;
        desk = desk_of m w.slot;
        there = ap (λ ds. slice_get ds at) (sym (walked_given g.jobs t.before.desks (does variables t.statement t.before)) ∙ sym g.desks_are) ∙ here;
        bay_is = desk_bay w.slot start front w.start_is w.jobs_are;
        number_is = length-outcomes (over_bays m) w.slot.start w.slot.jobs ∙ ap length w.jobs_are;
        gives = inl (next_given g.jobs t.before.desks (does variables t.statement t.before) at job (there w.entry).script.core g.gives);
      }

  were_given : (n : ℕ) (run : Run) (slots : List (PlainSlot Bay Job)) → slots ≡ (there n).slots → ((e : ℕ) → e < n → length run.rest ≤ length (there e).script.rest) → Stage slots run.rest
      → HasAwaited variables deck files run → run.told ≡ map (λ (q : PlainSlot Bay Job). q.told) slots → WereGiven variables deck files run slots
  were_given n run slots same less x awaited counts = record {
    index = x.index;
    rest = x.place;
    within = low;
    each = λ at q e number job f.
        elim (last_or q.jobs (detach None) job number f) [
          | inl old ↦
              let w = each_submitted (over_bays m) c first (λ k p h. none_yet most_slots k p (record { start = record { connection = None; halt = None }; jobs = []; told = 0 }) refl h) n at q number job (ap (λ l. slice_get l at) (sym same) ∙ e) old.0 in
              subst (λ k. GivesTo variables deck files x.index at k (behind q.start (take number q.jobs)) job) (length-take-le number q.jobs (let inside = slice_get_within q.jobs number job old.0 in omega (arith, inside)))
              (by_entry n at q.start (take number q.jobs) job x.index run.rest x.place low less w (each_entry m s variables deck files w.entry))
          | inr new ↦ record {
            index = x.index;
            until = omega arith;
            statement = x.statement;
            before = x.before;
            reached = x.reached;
            jobs = x.jobs;
            desk = desk_of m q;
            there = ap (λ ds. slice_get ds at) (sym x.desks) ∙ map_get (desk_of m) slots at q e;
            bay_is = desk_bay q q.start (take number q.jobs) refl (all_of q.jobs number new.2);
            number_is = length-outcomes (over_bays m) q.start q.jobs ∙ sym new.2;
            gives = inr (refl, new.0);
          }
        ];
    told = λ at q e number was.
        let one : number < get_or run.told at 0 = awaited.told at number (subst (λ i. IsAwaitedBefore variables deck (fresh variables files) i at number) here was) in
        let count : get_or run.told at 0 ≡ q.told = ap (λ ts. get_or ts at 0) counts ∙ get_mapped (λ (z : PlainSlot Bay Job). z.told) slots at q e in
        omega (arith, one, count);
  }
    where
      low : x.index < length deck
      low = within_deck variables x.index deck (fresh variables files) (x.statement, x.before) x.reached

      -- the same place
      here : x.index ≡ awaited.index
      here =
          let high = within_deck variables awaited.index deck (fresh variables files) (awaited.statement, awaited.before) awaited.reached in
          let one = not_earlier deck run.rest run.rest x.index awaited.index x.place awaited.rest low high (omega arith) in
          let other = not_earlier deck run.rest run.rest awaited.index x.index awaited.rest x.place high low (omega arith) in
          omega (arith, one, other)

      all_of : (js : List Job) (k : ℕ) → k ≡ length js → js ≡ take k js
      all_of js k e = sym (ap (λ z. take z js) e ∙ take_all (length js) js (omega arith))

  stop_stage : (n slot : ℕ) → (there n).hand ≡ Settle slot → ((there n).hand ≡ Finished) ⊎ StandsIn m s variables deck (fresh variables files) (there n) → Stage (there n).slots (there n).script.rest
  stop_stage n slot hand (inl over) = absurd (let z : Settle slot ≡ Finished = sym hand ∙ over in cc)
  stop_stage n slot hand (inr t) =
      elim (subst (λ a. Asks variables t.statement t.before a (there n).script (desks_of m (there n).slots)) hand t.inside.asks) [
        | inl w ↦ record { index = t.index; statement = t.statement; before = t.before; reached = t.reached; place = t.rest; jobs = 0; desks = w.desks_are }
        | inr a ↦ record {
          index = t.index;
          statement = t.statement;
          before = t.before;
          reached = t.reached;
          place = t.rest;
          jobs = suc a.jobs;
          desks = own_given variables t.statement t.before slot (there n).script (desks_of m (there n).slots) a;
        }
      ]

  -- what earlier statements wait for was told, unless no statement is left
  was_awaited : (n : ℕ) → ((there n).hand ≡ Finished → (there n).script.ending ≡ None → ⊥) → HasAwaited variables deck files (there n).script
  was_awaited n some = elim (each_awaited m s variables deck files n) [ inl (over, none) ↦ absurd (some over none) | inr h ↦ h ]

  pub stop_given : (n slot : ℕ) → (there n).hand ≡ Settle slot → WereGiven variables deck files (there n).script (there n).slots
  stop_given n slot hand =
      were_given n (there n).script (there n).slots refl (λ e h. after_fewer m s e n first (omega (arith, h))) (stop_stage n slot hand (each_entry m s variables deck files n))
      (was_awaited n (λ over none. let z : Settle slot ≡ Finished = sym hand ∙ over in cc)) (counts_after m s variables deck files n)

  -- ---- where the deck ended

  end_stage : (n : ℕ) → (there n).hand ≡ Finished → IsSome (there n).script.ending → Over m variables deck (fresh variables files) (there n).script → Stage (there n).slots (there n).script.rest
  end_stage n over some (inl (left, none)) = absurd (let z : false ≡ true = subst IsSome none some in cc)
  end_stage n over some (inr x) =
      let comes = runner_is_plain m s variables deck files in
      let z : Plain Bay c = record { script = comes.run; hand = Finished; slots = comes.slots } in
      let same : there n ≡ z = one_end (over_bays m) c n comes.reaches.0 first (there n) z refl over comes.reaches.1 refl in
      let jobs = step_jobs variables x.statement x.before in
      record {
        index = x.index;
        statement = x.statement;
        before = x.before;
        reached = x.reached;
        place = x.place;
        jobs = jobs.0;
        desks = ap (λ (k : Plain Bay c). desks_of m k.slots) same ∙ comes.desks
            ∙ ap (λ (d : Desked). d.desks) (ends_over variables x.index deck (fresh variables files) x.statement x.before x.reached (subst IsSome (sym x.ended) some)) ∙ jobs.1;
      }

  pub end_given : (n : ℕ) → (there n).hand ≡ Finished → IsSome (there n).script.ending → WereGiven variables deck files (there n).script (there n).slots
  end_given n over some =
      were_given n (there n).script (there n).slots refl (λ e h. after_fewer m s e n first (omega (arith, h)))
      (end_stage n over some (over_at m s variables deck (fresh variables files) (there n) (before_ask (over_bays m) c n (first_run variables deck files) fresh_slots) (fares_after m s variables deck files n) over))
      (was_awaited n (λ f none. let z : false ≡ true = subst IsSome none some in cc)) (counts_after m s variables deck files n)

  -- ---- in a turn

  turn_stage : (run : Run) (slots : List (PlainSlot Bay Job)) → At m variables deck (fresh variables files) run slots → Stage slots run.rest
  turn_stage run slots x =
      let y = stands_at m variables deck (fresh variables files) run slots x in
      elim y.point [
        | inl b ↦ record { index = y.index; statement = y.statement; before = y.before; reached = y.reached; place = y.rest; jobs = 0; desks = b.desks_are }
        | inr w ↦ record {
          index = y.index;
          statement = y.statement;
          before = y.before;
          reached = y.reached;
          place = y.rest;
          jobs = w.jobs;
          desks = w.desks_are ∙ walked_given w.jobs y.before.desks (does variables y.statement y.before);
        }
      ]

  abbrev before : ℕ → Run × List (PlainSlot Bay Job)
  before n = before_ask (over_bays m) c n (first_run variables deck files) fresh_slots

  before_fewer : (n e : ℕ) → e < n → length (before n).0.rest ≤ length (there e).script.rest
  before_fewer zero e h = absurd (omega (arith, h))
  before_fewer (suc n) e h =
      let same = ap length (answered_same m s (there n).hand (there n)) in
      let less = after_fewer m s e n first (omega (arith, h)) in
      omega (arith, same, less)

  pub turn_given : (n count : ℕ) (run : Run) → (before n).0.ending ≡ None → passes count (before n).0 ≡ Some run → (run.rest ≡ []) ⊎ WereGiven variables deck files run (before n).1
  turn_given n count run going passed = by (before n) refl (fares_after m s variables deck files n) going passed
    where
      by : (b : Run × List (PlainSlot Bay Job)) → before n ≡ b → Fares m s variables deck (fresh variables files) (there n) b → b.0.ending ≡ None → passes count b.0 ≡ Some run
          → (run.rest ≡ []) ⊎ WereGiven variables deck files run b.1
      by b is (inl (e, y)) none p =
          elim (passes_stand m variables deck (fresh variables files) count b.0 b.1 y run p) [
            | inl left ↦ inl left
            | inr z ↦ inr (were_given n run b.1 (sym (ap (λ (x : Plain Bay c). x.slots) e))
                (λ k h. let a = passes_fewer count b.0 run p in let d = before_fewer n k h in let f = ap (λ (x : Run × List (PlainSlot Bay Job)). length x.0.rest) is in omega (arith, a, d, f))
                (turn_stage run b.1 z) (record { index = z.index; statement = z.statement; before = z.before; reached = z.reached; rest = long_at m variables deck (fresh variables files) run b.1 z; told = z.earlier }) (counts_at m variables deck (fresh variables files) run b.1 z))
          ]
      by b is (inr (h, over, inl (left, f))) none p = inl (passes_none count b.0 run left p)
      by b is (inr (h, over, inr ended)) none p = absurd (let z : true ≡ false = sym ended.some ∙ ap is_some none in cc)

pub each_stop_given : {E J A S : Type 0} (m : Meaning E J A Bay Job Answer) (s : Shows S) → EachStopGiven m s
each_stop_given m s variables deck files n slot hand = stop_given m s variables deck files n slot hand

pub each_turn_given : {E J A S : Type 0} (m : Meaning E J A Bay Job Answer) (s : Shows S) → EachTurnGiven m s
each_turn_given m s variables deck files n count run going passed = turn_given m s variables deck files n count run going passed

pub each_end_given : {E J A S : Type 0} (m : Meaning E J A Bay Job Answer) (s : Shows S) → EachEndGiven m s
each_end_given m s variables deck files n over some = end_given m s variables deck files n over some

pub stops_are_given : StopsAreGiven
stops_are_given s = each_stop_given plain_bays (shown s)

pub turns_are_given : TurnsAreGiven
turns_are_given s = each_turn_given plain_bays (shown s)

pub ends_are_given : EndsAreGiven
ends_are_given s = each_end_given plain_bays (shown s)
