-- What the runner keeps, whatever answers are given back to it.
use Rattle.std.proofs.Common.{◌≡◌, ◌⊎◌, ℕ, zero, suc, ◌+◌, ◌-◌, ◌*◌, ◌<◌, ◌≤◌, Bool, true, false, not, List, [], ◌∷◌, ◌++◌, map, length, drop, Option, Some, None, get_or, refl, sym, ap, ◌∙◌, subst, inl, inr, ◌&&◌, arith}
use Rattle.std.specs.Prelude.{if◌then◌else◌, filter, ◌==◌}
use Rattle.std.proofs.lemmas.Bool.{eq-eqb}
use Rattle.std.proofs.lemmas.Bool.Decides.{eqb_tells}
use Rattle.fj_value.specs.declared.condition.Rule.{Rule}
use Rattle.fj_world.specs.declared.ask.Ask.{Ask}
use Rattle.fj_world.specs.declared.ask.Ask.TheVariants.{Submit, Settle, Finished}
use Rattle.fj_bay.specs.Jobs.{Job}
use Rattle.fj_meaning.specs.State.{Entry}
use Rattle.fj_meaning.specs.Statement.{Stated, Ending}
use Rattle.fj_meaning.specs.Telling.{tells_id}
use Rattle.fj_meaning_jobs.specs.Core.{Core, Pending}
use Rattle.fj_meaning_jobs.specs.Desks.{Outcome, brought_by, most_slots}
use Rattle.fj_meaning_jobs.specs.Doing.{Doing, finishes, gives, awaits}
use Rattle.fj_meaning_jobs.specs.Desking.{told_core}
use Rattle.fj_meaning_jobs.proofs.Apart.{Each, each_filter, each_append, each_imp, each_map, filter_map}
use Rattle.fj_meaning_turns.specs.Run.{Held, Stage, Start, Waiting, Acting, Awaiting, Run}
use Rattle.fj_meaning_turns.specs.Turns.{Turn, Pauses, Passes, Stops, matched, with_core, unsettled, bump, settles, doing_told, with_iostat, turn_finish, turn_act, finish_by, with_tells, wait_by, waited_now, start_by, rule_of, begun_for, hand_at, with_hand, turn, is_at, stage_told, told_of}
use Rattle.fj_meaning_turns.specs.Few.{most_jobs}
use Rattle.fj_meaning_turns.proofs.Slots.{get_set_here, get_set_other, length_set}
use Rattle.fj_meaning_turns.proofs.Counts.{left_over, left_sent, left_told, some_inside}
use Rattle.fj_meaning_turns.proofs.Seated.{Seated}
use Rattle.fj_meaning_turns.proofs.FewJobs.{Fair, told_fair}
use Rattle.fj_meaning_turns.proofs.EachKind.{Keeps, Starts}
use Rattle.fj_meaning_turns.proofs.Statements.{told_keeps}
use Rattle.fj_meaning_turns.proofs.Ties.{matched_same, matched_more, pending_more, answers_pending}
use Rattle.fj_meaning_turns.proofs.Waits.{unsettled_found}

-- its job was given, and is not told where it has no answer
pub record IsOpen (told sent : List ℕ) (h : Held) : Type 0 where
  pub given : h.pending.number < get_or sent h.pending.slot 0
  pub untold : h.answer ≡ None → get_or told h.pending.slot 0 ≤ h.pending.number

pub record Sound (r : Run) : Type 0 where
  pub seated : Seated r.core.units
  pub sent : length r.sent ≡ most_slots
  pub told : length r.told ≡ most_slots
  pub within : (slot : ℕ) → get_or r.told slot 0 ≤ get_or r.sent slot 0
  pub same : map (λ (h : Held). h.pending) r.book ≡ r.core.book
  pub open_ones : Each (IsOpen r.told r.sent) r.book
  pub ending : r.ending ≡ None

-- it may do this, by so many jobs at most: pending transfers stay, but for one whose job was given last
abbrev pub Pends : Core → Run → Doing → Type 0
Pends from r d = ((slot : ℕ) × (number : ℕ) × (number < get_or r.sent slot 0) × (get_or r.told slot 0 ≤ number) × Starts from slot number d)

pub record Ready (jobs : ℕ) (r : Run) (d : Doing) : Type 0 where
  pub fair : Fair jobs d
  pub from : Core
  pub book : r.core.book ≡ from.book
  pub keeps : Keeps from d ⊎ Pends from r d

pub record Own (jobs : ℕ) (r : Run) (slot number : ℕ) (next : Outcome → Doing) : Type 0 where
  pub inside : slot < most_slots
  pub given : number < get_or r.sent slot 0
  pub untold : get_or r.told slot 0 ≤ number
  pub from : Core
  pub book : r.core.book ≡ from.book
  pub fair : (o : Outcome) → Fair jobs (next o)
  pub keeps : (o : Outcome) → Keeps from (next o)

abbrev pub AtStage : ℕ → Run → Stage → Type 0
AtStage jobs r Start = most_jobs ≤ jobs
AtStage jobs r Waiting = most_jobs ≤ jobs
AtStage jobs r (Acting d) = Ready jobs r d
AtStage jobs r (Awaiting slot number next) = Own jobs r slot number next

-- how many jobs these statements may give
abbrev pub weight : List Stated → ℕ
weight [] = 0
weight (st ∷ more) = most_jobs + weight more

-- inside this statement, with so many asks left
pub record Steady (st : Stated) (rest : List Stated) (n : ℕ) (r : Run) : Type 0 where
  pub sound : Sound r
  pub rest_is : r.rest ≡ st ∷ rest
  pub jobs : ℕ
  pub enough : 2 * (jobs + weight rest) + left_over r.sent r.told ≤ n
  pub stage : AtStage jobs r r.stage

pub record Submitting (st : Stated) (rest : List Stated) (n slot : ℕ) (run : Run) : Type 0 where
  pub inside : slot < most_slots
  pub left : ℕ
  pub fewer : n ≡ suc left
  pub steady : Steady st rest left run

pub record Settling (st : Stated) (rest : List Stated) (n slot : ℕ) (run : Run) : Type 0 where
  pub inside : slot < most_slots
  pub owed : get_or run.told slot 0 < get_or run.sent slot 0
  pub left : ℕ
  pub fewer : n ≡ suc left
  pub steady : (o : Outcome) → Steady st rest left (told_of run o)

abbrev pub AskSteady : Stated → List Stated → ℕ → Ask Job → Run → Type 0
AskSteady st rest n (Submit slot job) run = Submitting st rest n slot run
AskSteady st rest n (Settle slot) run = Settling st rest n slot run
AskSteady st rest n Finished run = ⊥

pub record Passing (rest : List Stated) (n : ℕ) (run : Run) : Type 0 where
  pub sound : Sound run
  pub enough : 2 * weight rest + left_over run.sent run.told ≤ n

abbrev pub TurnSteady : Stated → List Stated → ℕ → Turn → Type 0
TurnSteady st rest n (Pauses ask run) = AskSteady st rest n ask run
TurnSteady st rest n (Passes run) = Passing rest n run
TurnSteady st rest n (Stops run) = Unit {0}

-- ---- counts

grows : (sent : List ℕ) (slot s : ℕ) → slot < length sent → get_or sent s 0 ≤ get_or (bump sent slot) s 0
grows sent slot s inside =
    elim (eqb_tells s slot) [
      | inl a ↦ (let now : get_or (bump sent slot) s 0 ≡ get_or sent s 0 + 1 = ap (λ k. get_or (bump sent slot) k 0) a.1 ∙ get_set_here sent slot (get_or sent slot 0 + 1) inside ∙ ap (λ k. get_or sent k 0 + 1) (sym a.1) in omega (arith, now))
      | inr a ↦ (let same : get_or (bump sent slot) s 0 ≡ get_or sent s 0 = get_set_other sent slot s (get_or sent slot 0 + 1) a.1 in omega (arith, same))
    ]

-- one told more
one_told : (told : List ℕ) (slot s n : ℕ) → slot < length told → get_or told s 0 ≤ n → (s ≡ slot → n ≡ get_or told slot 0 → ⊥) → get_or (bump told slot) s 0 ≤ n
one_told told slot s n inside low ne =
    elim (eqb_tells s slot) [
      | inl a ↦
          let now : get_or (bump told slot) s 0 ≡ get_or told slot 0 + 1 = ap (λ k. get_or (bump told slot) k 0) a.1 ∙ get_set_here told slot (get_or told slot 0 + 1) inside in
          let was : get_or told s 0 ≡ get_or told slot 0 = ap (λ k. get_or told k 0) a.1 in
          elim (eqb_tells n (get_or told slot 0)) [
            | inl b ↦ absurd (ne a.1 b.1)
            | inr b ↦ omega (arith, now, was, low, b.1)
          ]
      | inr a ↦ (let same : get_or (bump told slot) s 0 ≡ get_or told s 0 = get_set_other told slot s (get_or told slot 0 + 1) a.1 in omega (arith, same, low))
    ]

-- ---- the core and the book

core_sound : (r : Run) (core : Core) → Sound r → core.book ≡ r.core.book → Seated core.units → Sound (with_core core r)
core_sound r core t book units =
    let whole : matched core.book r.book ≡ r.book = ap (λ l. matched l r.book) (book ∙ sym t.same) ∙ matched_same r.book in
    record {
      seated = units;
      sent = t.sent;
      told = t.told;
      within = t.within;
      same = ap (λ hs. map (λ (h : Held). h.pending) hs) whole ∙ t.same ∙ sym book;
      open_ones = subst (λ hs. Each (IsOpen r.told r.sent) hs) (sym whole) t.open_ones;
      ending = t.ending;
    }

pending_sound : (r : Run) (core : Core) (e : Pending) → Sound r → core.book ≡ r.core.book ++ e ∷ [] → Seated core.units → e.number < get_or r.sent e.slot 0 → get_or r.told e.slot 0 ≤ e.number → Sound (with_core core r)
pending_sound r core e t book units given untold =
    let held : Held = record { pending = e; answer = None } in
    let whole : matched core.book r.book ≡ r.book ++ held ∷ [] = ap (λ l. matched l r.book) (book ∙ ap (λ l. l ++ e ∷ []) (sym t.same)) ∙ matched_more r.book e in
    record {
      seated = units;
      sent = t.sent;
      told = t.told;
      within = t.within;
      same = ap (λ hs. map (λ (h : Held). h.pending) hs) whole ∙ pending_more r.book e ∙ ap (λ l. l ++ e ∷ []) t.same ∙ sym book;
      open_ones = subst (λ hs. Each (IsOpen r.told r.sent) hs) (sym whole) (each_append (IsOpen r.told r.sent) r.book (held ∷ []) t.open_ones (record { given = given; untold = λ _. untold }, tt));
      ending = t.ending;
    }

submit_sound : (r : Run) (slot : ℕ) (stage : Stage) → Sound r → slot < most_slots → Sound (record r { sent = bump r.sent slot; stage = stage })
submit_sound r slot stage t inside =
    let here : slot < length r.sent = omega (arith, inside, t.sent) in
    record {
      seated = t.seated;
      sent = length_set r.sent slot (get_or r.sent slot 0 + 1) ∙ t.sent;
      told = t.told;
      within = λ s. omega (arith, t.within s, grows r.sent slot s here);
      same = t.same;
      open_ones = each_imp (IsOpen r.told r.sent) (IsOpen r.told (bump r.sent slot)) r.book (λ h k. record { given = more h k; untold = k.untold }) t.open_ones;
      ending = t.ending;
    }
  where
    more : (h : Held) → IsOpen r.told r.sent h → h.pending.number < get_or (bump r.sent slot) h.pending.slot 0
    more h k = omega (arith, k.given, grows r.sent slot h.pending.slot (omega (arith, inside, t.sent)))

settle_sound : (r : Run) (slot : ℕ) (stage : Stage) (o : Outcome) → Sound r → slot < most_slots → get_or r.told slot 0 < get_or r.sent slot 0 → Sound (told_of (record r { stage = stage; due = slot }) o)
settle_sound r slot stage o t inside owed = record {
  seated = t.seated;
  sent = t.sent;
  told = length_set r.told slot (get_or r.told slot 0 + 1) ∙ t.told;
  within = λ s. one_told r.told slot s (get_or r.sent s 0) here (t.within s) (λ e f. below s e f);
  same = answers_pending slot (get_or r.told slot 0) (brought_by o) r.book ∙ t.same;
  open_ones = each_map (IsOpen (bump r.told slot) r.sent) (λ (h : Held). if is_at slot (get_or r.told slot 0) h.pending then record { pending = h.pending; answer = Some (brought_by o) } else h) r.book
      (each_imp (IsOpen r.told r.sent) (λ h. IsOpen (bump r.told slot) r.sent (if is_at slot (get_or r.told slot 0) h.pending then record { pending = h.pending; answer = Some (brought_by o) } else h)) r.book
      (λ h k. by h k (is_at slot (get_or r.told slot 0) h.pending) refl) t.open_ones);
  ending = t.ending;
}
  where
    here : slot < length r.told
    here = omega (arith, inside, t.told)

    below : (s : ℕ) → s ≡ slot → get_or r.sent s 0 ≡ get_or r.told slot 0 → ⊥
    below s e f = absurd (let z : get_or r.sent s 0 ≡ get_or r.sent slot 0 = ap (λ k. get_or r.sent k 0) e in omega (arith, z, f, owed))

    by : (h : Held) → IsOpen r.told r.sent h → (b : Bool) → is_at slot (get_or r.told slot 0) h.pending ≡ b → IsOpen (bump r.told slot) r.sent (if b then record { pending = h.pending; answer = Some (brought_by o) } else h)
    by h k true is = record { given = k.given; untold = λ e. absurd (let z : Some (brought_by o) ≡ None = e in cc) }
    by h k false is = record { given = k.given; untold = λ e. one_told r.told slot h.pending.slot h.pending.number here (k.untold e) (λ a b. other a b) }
      where
        other : h.pending.slot ≡ slot → h.pending.number ≡ get_or r.told slot 0 → ⊥
        other a b = let z : true ≡ false = sym (ap (λ c. c && (h.pending.number == get_or r.told slot 0)) (eq-eqb h.pending.slot slot a) ∙ eq-eqb h.pending.number (get_or r.told slot 0) b) ∙ is in cc

tells_sound : (st : Stated) (told : List Entry) (r : Run) → Sound r → Sound (with_tells st told r)
tells_sound st told r t = record {
  seated = t.seated;
  sent = t.sent;
  told = t.told;
  within = t.within;
  same = sym (filter_map (λ (h : Held). h.pending) (λ (e : Pending). not (tells_id told e.id)) r.book) ∙ ap (filter (λ (e : Pending). not (tells_id told e.id))) t.same;
  open_ones = each_filter (IsOpen r.told r.sent) (λ (h : Held). not (tells_id told h.pending.id)) r.book t.open_ones;
  ending = t.ending;
}

-- ---- turns

finish_steady : (st : Stated) (rest : List Stated) (n : ℕ) (o : Option Ending) (run : Run) → Sound run → 2 * weight rest + left_over run.sent run.told ≤ n → TurnSteady st rest n (finish_by o run)
finish_steady st rest n None run t e = record {
  sound = record { seated = t.seated; sent = t.sent; told = t.told; within = t.within; same = t.same; open_ones = t.open_ones; ending = t.ending };
  enough = e;
}
finish_steady st rest n (Some ending) run t e = tt

act_steady : (st : Stated) (rest : List Stated) (jobs n : ℕ) (d : Doing) (r : Run) → Sound r → r.rest ≡ st ∷ rest → 2 * (jobs + weight rest) + left_over r.sent r.told ≤ n → Ready jobs r d → TurnSteady st rest n (turn_act st d r)
act_steady st rest jobs n (finishes core condition) r t is e y = by y.keeps
  where
    by : Keeps y.from (finishes core condition) ⊎ Pends y.from r (finishes core condition) → TurnSteady st rest n (turn_finish st core condition r)
    by (inl k) = finish_steady st rest n _ (with_core (with_iostat st condition r core) r) (core_sound r (with_iostat st condition r core) t (k.0 ∙ sym y.book) y.fair) (omega (arith, e))
    by (inr (slot, number, given, untold, (entry, book, at_slot, at_number, units))) =
        finish_steady st rest n _ (with_core (with_iostat st condition r core) r)
        (pending_sound r (with_iostat st condition r core) entry t (book ∙ ap (λ l. l ++ entry ∷ []) (sym y.book)) y.fair
        (subst (λ k. entry.number < get_or r.sent k 0) (sym at_slot) (subst (λ k. k < get_or r.sent slot 0) (sym at_number) given))
        (subst (λ k. get_or r.told k 0 ≤ entry.number) (sym at_slot) (subst (λ k. get_or r.told slot 0 ≤ k) (sym at_number) untold)))
        (omega (arith, e))
act_steady st rest zero n (gives slot job core next) r t is e y = absurd y.fair
act_steady st rest (suc jobs) n (gives slot job core next) r t is e y = by y.keeps
  where
    number : ℕ
    number = get_or r.sent slot 0

    run : Run
    run = record (with_core core r) { sent = bump r.sent slot; stage = Acting (next number) }

    count : slot < most_slots → left_over (bump r.sent slot) r.told ≡ left_over r.sent r.told + 1
    count inside = left_sent r.sent r.told slot (omega (arith, inside, t.sent)) (omega (arith, inside, t.told)) (t.within slot)

    here : slot < most_slots → get_or (bump r.sent slot) slot 0 ≡ number + 1
    here inside = get_set_here r.sent slot (get_or r.sent slot 0 + 1) (omega (arith, inside, t.sent))

    submitted : (inside : slot < most_slots) → core.book ≡ r.core.book → Ready jobs run (next number) → Submitting st rest n slot run
    submitted inside book ready = record {
      inside = inside;
      left = n - 1;
      fewer = omega (arith, e);
      steady = record {
        sound = submit_sound (with_core core r) slot (Acting (next number)) (core_sound r core t book y.fair.0) inside;
        rest_is = is;
        jobs = jobs;
        enough = omega (arith, e, count inside);
        stage = ready;
      };
    }

    by : Keeps y.from (gives slot job core next) ⊎ Pends y.from r (gives slot job core next) → Submitting st rest n slot run
    by (inl (inside, keeps, inl onward)) = submitted inside (keeps.0 ∙ sym y.book) (record { fair = y.fair.1 number; from = y.from; book = keeps.0; keeps = inl (onward number) })
    by (inl (inside, keeps, inr onward)) = submitted inside (keeps.0 ∙ sym y.book)
        (record { fair = y.fair.1 number; from = y.from; book = keeps.0; keeps = inr (slot, number, omega (arith, here inside), t.within slot, onward number) })
    by (inr p) = absurd p.4
act_steady st rest zero n (awaits slot job core next) r t is e y = absurd y.fair
act_steady st rest (suc jobs) n (awaits slot job core next) r t is e y = by y.keeps
  where
    number : ℕ
    number = get_or r.sent slot 0

    run : Run
    run = record (with_core core r) { sent = bump r.sent slot; stage = Awaiting slot number next }

    count : slot < most_slots → left_over (bump r.sent slot) r.told ≡ left_over r.sent r.told + 1
    count inside = left_sent r.sent r.told slot (omega (arith, inside, t.sent)) (omega (arith, inside, t.told)) (t.within slot)

    here : slot < most_slots → get_or (bump r.sent slot) slot 0 ≡ number + 1
    here inside = get_set_here r.sent slot (get_or r.sent slot 0 + 1) (omega (arith, inside, t.sent))

    by : Keeps y.from (awaits slot job core next) ⊎ Pends y.from r (awaits slot job core next) → Submitting st rest n slot run
    by (inl (inside, keeps, onward)) = record {
      inside = inside;
      left = n - 1;
      fewer = omega (arith, e);
      steady = record {
        sound = submit_sound (with_core core r) slot (Awaiting slot number next) (core_sound r core t (keeps.0 ∙ sym y.book) y.fair.0) inside;
        rest_is = is;
        jobs = jobs;
        enough = omega (arith, e, count inside);
        stage = record { inside = inside; given = omega (arith, here inside); untold = t.within slot; from = y.from; book = keeps.0; fair = y.fair.1; keeps = onward };
      };
    }
    by (inr p) = absurd p.4

-- a Settle, in a stage that stands once it was answered
settle_steady : (st : Stated) (rest : List Stated) (jobs n slot : ℕ) (stage : Stage) (r : Run) → Sound r → r.rest ≡ st ∷ rest → 2 * (jobs + weight rest) + left_over r.sent r.told ≤ n
    → slot < most_slots → get_or r.told slot 0 < get_or r.sent slot 0
    → ((o : Outcome) → AtStage jobs (told_of (record r { stage = stage; due = slot }) o) (stage_told stage slot (get_or r.told slot 0) o))
    → TurnSteady st rest n (settles slot stage r)
settle_steady st rest jobs n slot stage r t is e inside owed ok =
    let count : left_over r.sent (bump r.told slot) + 1 ≡ left_over r.sent r.told = left_told r.sent r.told slot (omega (arith, inside, t.sent)) (omega (arith, inside, t.told)) owed in
    record {
      inside = inside;
      owed = owed;
      left = n - 1;
      fewer = omega (arith, e, count);
      steady = λ o. record { sound = settle_sound r slot stage o t inside owed; rest_is = is; jobs = jobs; enough = omega (arith, e, count); stage = ok o };
    }

wait_steady : (st : Stated) (rest : List Stated) (jobs n : ℕ) (r : Run) → Sound r → r.rest ≡ st ∷ rest → 2 * (jobs + weight rest) + left_over r.sent r.told ≤ n → most_jobs ≤ jobs
    → (o : Option ℕ) → unsettled (waited_now st r) r.book ≡ o → TurnSteady st rest n (wait_by st (waited_now st r) o r)
wait_steady st rest jobs n r t is e few None u =
    let told : List Entry = waited_now st r in
    act_steady st rest most_jobs n (doing_told r.variables st told r.core) (with_tells st told r) (tells_sound st told r t) is (omega (arith, e, few))
    (record { fair = told_fair r.variables st told r.core t.seated; from = told_core r.variables st.0.line told r.core; book = refl; keeps = inl (told_keeps r.variables st told r.core t.seated.inside) })
wait_steady st rest jobs n r t is e few (Some slot) u =
    let found = unsettled_found (IsOpen r.told r.sent) (waited_now st r) r.book slot t.open_ones u in
    let k = found.1.2 in
    let given : found.0.pending.number < get_or r.sent slot 0 = subst (λ s. found.0.pending.number < get_or r.sent s 0) found.1.4 k.given in
    let low : get_or r.told slot 0 ≤ found.0.pending.number = subst (λ s. get_or r.told s 0 ≤ found.0.pending.number) found.1.4 (k.untold found.1.3) in
    settle_steady st rest jobs n slot Waiting r t is e (subst (λ l. slot < l) t.sent (some_inside r.sent slot found.0.pending.number given)) (omega (arith, given, low)) (λ o. few)

start_steady : (st : Stated) (rest : List Stated) (jobs n : ℕ) (r : Run) → Sound r → r.rest ≡ st ∷ rest → 2 * (jobs + weight rest) + left_over r.sent r.told ≤ n → most_jobs ≤ jobs
    → (o : Option Rule) → TurnSteady st rest n (start_by st o r)
start_steady st rest jobs n r t is e few (Some rule) = tt
start_steady st rest jobs n r t is e few None = wait_steady st rest jobs n r t is e few (unsettled (waited_now st r) r.book) refl

pub turn_steady : (st : Stated) (rest : List Stated) (jobs n : ℕ) (r : Run) → Sound r → r.rest ≡ st ∷ rest → 2 * (jobs + weight rest) + left_over r.sent r.told ≤ n
    → (stage : Stage) → AtStage jobs r stage → TurnSteady (hand_at st stage r) rest n (turn st stage r)
turn_steady st rest jobs n r t is e Start few =
    let x : Stated = begun_for r st in
    start_steady x rest jobs n (with_hand x r) (record { seated = t.seated; sent = t.sent; told = t.told; within = t.within; same = t.same; open_ones = t.open_ones; ending = t.ending })
    (ap (λ l. x ∷ drop 1 l) is) e few (rule_of r.variables x r.core)
turn_steady st rest jobs n r t is e Waiting few = wait_steady st rest jobs n r t is e few (unsettled (waited_now st r) r.book) refl
turn_steady st rest jobs n r t is e (Acting d) y = act_steady st rest jobs n d r t is e y
turn_steady st rest jobs n r t is e (Awaiting slot number next) y =
    settle_steady st rest jobs n slot (Awaiting slot number next) r t is e y.inside (omega (arith, y.untold, y.given)) (λ o. own o (number == get_or r.told slot 0) refl)
  where
    after : Outcome → Run
    after o = told_of (record r { stage = Awaiting slot number next; due = slot }) o

    own : (o : Outcome) (b : Bool) → (number == get_or r.told slot 0) ≡ b → AtStage jobs (after o) (if (slot == slot) && (number == get_or r.told slot 0) then Acting (next o) else Awaiting slot number next)
    own o true f =
        subst (λ b. AtStage jobs (after o) (if b then Acting (next o) else Awaiting slot number next)) (sym (ap (λ b. b && (number == get_or r.told slot 0)) (eq-eqb slot slot refl) ∙ f))
        (record { fair = y.fair o; from = y.from; book = y.book; keeps = inl (y.keeps o) })
    own o false f =
        subst (λ b. AtStage jobs (after o) (if b then Acting (next o) else Awaiting slot number next)) (sym (ap (λ b. b && (number == get_or r.told slot 0)) (eq-eqb slot slot refl) ∙ f))
        (record {
          inside = y.inside;
          given = y.given;
          untold = one_told r.told slot slot number (subst (λ l. slot < l) (sym t.told) y.inside) y.untold (λ a b. other b);
          from = y.from;
          book = y.book;
          fair = y.fair;
          keeps = y.keeps;
        })
      where
        other : number ≡ get_or r.told slot 0 → ⊥
        other b = let z : true ≡ false = sym (eq-eqb number (get_or r.told slot 0) b) ∙ f in cc
