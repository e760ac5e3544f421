-- The runner served alone, until the transfers that a statement waits for are told.
use Rattle.std.proofs.Common.{◌≡◌, ℕ, zero, suc, ◌+◌, ◌<◌, ◌≤◌, Bool, true, false, List, [], ◌∷◌, map, length, Option, Some, None, is_some, is_none, slice_get, set, get_or, refl, sym, ap, ◌∙◌, subst, inl, inr, arith}
use Rattle.std.specs.Prelude.{if◌then◌else◌, nat_lt, option_map}
use Rattle.std.proofs.lemmas.Bool.{cases_Bool, ltb-false}
use Rattle.fj_statement.specs.declared.deck.Variable.{Variable}
use Rattle.fj_slot.specs.Serving.{Meaning}
use Rattle.fj_slot.specs.Sound.{outcomes, outcome}
use Rattle.fj_slot.proofs.Serving.{length-outcomes}
use Rattle.fj_world.specs.declared.ask.Ask.TheVariants.{Finished}
use Rattle.fj_world.specs.Conduct.{Conduct}
use Rattle.fj_world.specs.Plain.{Plain, PlainSlot, after, next, settled_from, told_from, submitted_to}
use Rattle.fj_world.proofs.Places.{slice_get_in}
use Rattle.fj_bay.specs.Bay.{Bay}
use Rattle.fj_bay.specs.Jobs.{Job, Answer}
use Rattle.fj_meaning.specs.State.{Entry}
use Rattle.fj_meaning.specs.Statement.{Stated}
use Rattle.fj_meaning.specs.Telling.{tells_id, waited_in}
use Rattle.fj_meaning_jobs.specs.Core.{Pending}
use Rattle.fj_meaning_jobs.specs.Desks.{Desk, Outcome, Brought, brought_by, entry_with, entry_of, log_at, log_length}
use Rattle.fj_meaning_jobs.specs.Doing.{Desked}
use Rattle.fj_meaning_jobs.proofs.Apart.{each_both, each_imp}
use Rattle.fj_meaning_turns.specs.Run.{Held, known, Stage, Waiting, Run}
use Rattle.fj_meaning_turns.specs.Turns.{Turn, unsettled, bump, submits, settles, turn_tell, wait_by, waited_now, turn_wait, turn, by_turn, asked_on, asked, told_of}
use Rattle.fj_meaning_turns.specs.Serving.{over_bays, Shows, run_conduct, desks_of}
use Rattle.fj_meaning_turns.specs.Inside.{waited_at}
use Rattle.fj_meaning_turns.specs.Standing.{Along, Reaches, IsInside}
use Rattle.fj_meaning_turns.proofs.Slots.{map_get}
use Rattle.fj_meaning_turns.proofs.Ties.{IsKept, Ties, more, given, untold, untold_less, told_found, length_found, settle_ties}
use Rattle.fj_meaning_turns.proofs.Waits.{AreKnown, waited_same, none_unsettled, unsettled_found, IsKnownOr, waited_among}

-- ---- what is known

-- an answer that stands in a transfer is what its job brought
known_is : (desks : List Desk) (told : List ℕ) (h : Held) → IsKept desks told h → is_none h.answer ≡ false → known h ≡ entry_of desks h.pending
known_is desks told h k some = by (nat_lt h.pending.number (get_or told h.pending.slot 0)) k.answer
  where
    by : (b : Bool) → h.answer ≡ (if b then option_map brought_by (log_at (slice_get desks h.pending.slot) h.pending.number) else None) → known h ≡ entry_of desks h.pending
    by true e = ap (entry_with h.pending) e
    by false e = absurd (let z : true ≡ false = sym (ap is_none e) ∙ some in cc)

-- the job of one that has no answer is not told
not_told : (desks : List Desk) (told : List ℕ) (h : Held) → IsKept desks told h → h.answer ≡ None → get_or told h.pending.slot 0 ≤ h.pending.number
not_told desks told h k none =
    elim (cases_Bool (nat_lt h.pending.number (get_or told h.pending.slot 0))) [
      | inl a ↦
          let logged : None ≡ option_map brought_by (log_at (slice_get desks h.pending.slot) h.pending.number) =
          sym none ∙ k.answer ∙ ap (λ b. if b then option_map brought_by (log_at (slice_get desks h.pending.slot) h.pending.number) else None) a in
          let there = logged_in (slice_get desks h.pending.slot) h.pending.number k.placed in
          absurd (let z : None ≡ Some (brought_by there.0) = logged ∙ ap (option_map brought_by) there.1 in cc)
      | inr a ↦ ltb-false h.pending.number (get_or told h.pending.slot 0) a
    ]
  where
    logged_in : (o : Option Desk) (n : ℕ) → n < log_length o → (x : Outcome) × (log_at o n ≡ Some x)
    logged_in None n l = absurd (omega (arith, l))
    logged_in (Some d) n l = slice_get_in d.log n l

entries_book : (desks : List Desk) (hs : List Held) → map (entry_of desks) (map (λ (h : Held). h.pending) hs) ≡ map (λ (h : Held). entry_of desks h.pending) hs
entries_book desks [] = refl
entries_book desks (h ∷ hs) = ap (λ l. entry_of desks h.pending ∷ l) (entries_book desks hs)

entry_id : (desks : List Desk) (h : Held) → (entry_of desks h.pending).id ≡ h.pending.id
entry_id desks h = by (option_map brought_by (log_at (slice_get desks h.pending.slot) h.pending.number))
  where
    by : (o : Option Brought) → (entry_with h.pending o).id ≡ h.pending.id
    by None = refl
    by (Some o) = refl

entry_unit : (desks : List Desk) (h : Held) → (entry_of desks h.pending).unit ≡ h.pending.unit
entry_unit desks h = by (option_map brought_by (log_at (slice_get desks h.pending.slot) h.pending.number))
  where
    by : (o : Option Brought) → (entry_with h.pending o).unit ≡ h.pending.unit
    by None = refl
    by (Some o) = refl

module _ {E J A : Type 0} (m : Meaning E J A Bay Job Answer) where
  book_is : (st : Stated) (r : Run) (qs : List (PlainSlot Bay Job)) (p : Desked) → Ties m r qs p → waited_in (map (λ h. entry_of p.desks h.pending) r.book) r.core.vars st.0.what ≡ waited_at st p
  book_is st r qs p t =
      ap (λ l. waited_in l r.core.vars st.0.what) (sym (entries_book p.desks r.book) ∙ ap (map (entry_of p.desks)) t.same)
      ∙ ap (λ c. waited_in (map (entry_of p.desks) c.book) c.vars st.0.what) t.core

  -- once all that are known to be waited for were told, they are those that the statement tells
  pub waited_is : (st : Stated) (r : Run) (qs : List (PlainSlot Bay Job)) (p : Desked) → Ties m r qs p → unsettled (waited_now st r) r.book ≡ None → waited_now st r ≡ waited_at st p
  waited_is st r qs p t none =
      let es : List Entry = waited_now st r in
      let are : AreKnown (λ h. entry_of p.desks h.pending) es r.book =
      each_both (IsKept p.desks r.told) (λ h. tells_id es h.pending.id ≡ true → is_none h.answer ≡ false) (λ h. tells_id es h.pending.id ≡ true → known h ≡ entry_of p.desks h.pending) r.book
      (λ h k f e. known_is p.desks r.told h k (f e)) t.kept (none_unsettled es r.book none) in
      waited_same (λ h. entry_of p.desks h.pending) (entry_id p.desks) (entry_unit p.desks) r.book r.core.vars st.0.what are ∙ book_is st r qs p t

  -- the slot of one whose job is not told has a job that is not told
  pub waits_at : (es : List Entry) (r : Run) (qs : List (PlainSlot Bay Job)) (p : Desked) (slot : ℕ) → Ties m r qs p → unsettled es r.book ≡ Some slot
      → (q : PlainSlot Bay Job) × (slice_get qs slot ≡ Some q) × (q.told < length q.jobs)
  waits_at es r qs p slot t e =
      let found = unsettled_found (IsKept p.desks r.told) es r.book slot t.kept e in
      let h = found.0 in
      let k = found.1.2 in
      let low : get_or r.told h.pending.slot 0 ≤ h.pending.number = not_told p.desks r.told h k found.1.3 in
      let inside : h.pending.number < log_length (slice_get p.desks h.pending.slot) = k.placed in
      by h.pending.slot h.pending.number found.1.4 low inside (log_desks h.pending.slot h.pending.number inside)
    where
      log_desks : (s n : ℕ) → n < log_length (slice_get p.desks s) → (q : PlainSlot Bay Job) × (slice_get qs s ≡ Some q)
      log_desks s n h = in_slots qs s n (subst (λ ds. n < log_length (slice_get ds s)) (sym t.desks) h)
        where
          in_slots : (l : List (PlainSlot Bay Job)) (s n : ℕ) → n < log_length (slice_get (desks_of m l) s) → (q : PlainSlot Bay Job) × (slice_get l s ≡ Some q)
          in_slots [] zero n h = absurd (omega (arith, h))
          in_slots [] (suc s) n h = absurd (omega (arith, h))
          in_slots (q ∷ l) zero n h = (q, refl)
          in_slots (q ∷ l) (suc s) n h = in_slots l s n h

      by : (s n : ℕ) → s ≡ slot → get_or r.told s 0 ≤ n → n < log_length (slice_get p.desks s) → (q : PlainSlot Bay Job) × (slice_get qs s ≡ Some q)
          → (q : PlainSlot Bay Job) × (slice_get qs slot ≡ Some q) × (q.told < length q.jobs)
      by s n same low inside (q, at) =
          let told_here = told_found m r qs p s q t at in
          let long = length_found m r qs p s q t at in
          (q, subst (λ k. slice_get qs k ≡ Some q) same at, omega (arith, low, inside, told_here, long))

  known_or : (desks : List Desk) (told : List ℕ) (h : Held) → IsKept desks told h → IsKnownOr (λ x. entry_of desks x.pending) h
  known_or desks told h k = by h.answer refl
    where
      by : (o : Option Brought) → h.answer ≡ o → IsKnownOr (λ x. entry_of desks x.pending) h
      by None e = inl e
      by (Some o) e = inr (known_is desks told h k (ap is_none e))

  -- a transfer that the statement tells, whose job is not told
  pub transfer_at : (st : Stated) (r : Run) (qs : List (PlainSlot Bay Job)) (p : Desked) (slot : ℕ) → Ties m r qs p → unsettled (waited_now st r) r.book ≡ Some slot
      → (e : Pending) × (at : ℕ) × (slice_get p.core.book at ≡ Some e) × (e.slot ≡ slot) × (tells_id (waited_at st p) e.id ≡ true) × (get_or r.told slot 0 ≤ e.number)
  transfer_at st r qs p slot t e =
      let found = unsettled_found (IsKept p.desks r.told) (waited_now st r) r.book slot t.kept e in
      let h = found.0 in
      let low : get_or r.told h.pending.slot 0 ≤ h.pending.number = not_told p.desks r.told h found.1.2 found.1.3 in
      let among = waited_among (λ x. entry_of p.desks x.pending) (entry_id p.desks) (entry_unit p.desks) r.core.vars st.0.what h.pending.id r.book
      (each_imp (IsKept p.desks r.told) (IsKnownOr (λ x. entry_of p.desks x.pending)) r.book (known_or p.desks r.told) t.kept) found.1.5 in (
        h.pending,
        found.1.0,
        ap (λ l. slice_get l found.1.0) (sym (ap (λ k. k.book) t.core) ∙ sym t.same) ∙ map_get (λ (x : Held). x.pending) r.book found.1.0 h found.1.1,
        found.1.4,
        sym (ap (λ es. tells_id es h.pending.id) (book_is st r qs p t)) ∙ among,
        subst (λ k. get_or r.told k 0 ≤ h.pending.number) found.1.4 low,
      )

  -- the answer of the next job not told
  pub answer_of : (q : PlainSlot Bay Job) → q.told < length q.jobs → (o : Outcome) × (outcome (over_bays m) q.start q.jobs q.told ≡ Some o)
  answer_of q h = slice_get_in (outcomes (over_bays m) q.start q.jobs) q.told (omega (arith, h, length-outcomes (over_bays m) q.start q.jobs))

-- ---- served alone

pub asked_at : (st : Stated) (rest : List Stated) (r : Run) → r.ending ≡ None → r.rest ≡ st ∷ rest → asked r ≡ by_turn rest (turn st r.stage r)
asked_at st rest r none is = ap (λ e. if is_some e then record { ask = Finished; run = r } else asked_on r.rest r) none ∙ ap (λ l. asked_on l r) is

module _ {E J A S : Type 0} (m : Meaning E J A Bay Job Answer) (s : Shows S) (P : Plain Bay (run_conduct s) → Type 0) where
  abbrev pub c : Conduct S Job Answer
  c = run_conduct s

  -- after that turn, the statements behind it being these
  abbrev pub at_turn : List Stated → Turn → List (PlainSlot Bay Job) → Plain Bay c
  at_turn rest t qs = let a = by_turn rest t in record { script = a.run; hand = a.ask; slots = qs }

  -- a Settle is served
  pub settle_next : (st : Stated) (rest : List Stated) (stage : Stage) (r : Run) (qs : List (PlainSlot Bay Job)) (slot : ℕ) (q : PlainSlot Bay Job) (o : Outcome)
      → r.ending ≡ None → r.rest ≡ st ∷ rest → slice_get qs slot ≡ Some q → outcome (over_bays m) q.start q.jobs q.told ≡ Some o
      → next (over_bays m) c (at_turn rest (settles slot stage r) qs)
      ≡ at_turn rest (turn st (told_of (record r { stage = stage; due = slot }) o).stage (told_of (record r { stage = stage; due = slot }) o)) (set qs slot (more q))
  settle_next st rest stage r qs slot q o none is found out =
      let x : Plain Bay c = at_turn rest (settles slot stage r) qs in
      ap (λ z. settled_from (over_bays m) c z slot x) found ∙ ap (λ z. told_from (over_bays m) c z q slot x) out
      ∙ ap (λ a. record { script = a.run; hand = a.ask; slots = set qs slot (more q) }) (asked_at st rest (told_of (record r { stage = stage; due = slot }) o) none is)

  -- a Submit is served
  pub submit_next : (st : Stated) (rest : List Stated) (stage : Stage) (r : Run) (qs : List (PlainSlot Bay Job)) (slot : ℕ) (q : PlainSlot Bay Job) (job : Job)
      → r.ending ≡ None → r.rest ≡ st ∷ rest → slice_get qs slot ≡ Some q
      → next (over_bays m) c (at_turn rest (submits slot job stage r) qs) ≡ at_turn rest (turn st stage (record r { sent = bump r.sent slot; stage = stage })) (set qs slot (given q job))
  submit_next st rest stage r qs slot q job none is found =
      let x : Plain Bay c = at_turn rest (submits slot job stage r) qs in
      ap (λ z. submitted_to (over_bays m) c z slot job x) found
      ∙ ap (λ a. record { script = a.run; hand = a.ask; slots = set qs slot (given q job) }) (asked_at st rest (record r { sent = bump r.sent slot; stage = stage }) none is)

  pub reach_here : (x y : Plain Bay c) → x ≡ y → Reaches (over_bays m) c P x y
  reach_here x y e = (0, e, tt)

  pub reach_next : (x y z : Plain Bay c) → P x → next (over_bays m) c x ≡ y → Reaches (over_bays m) c P y z → Reaches (over_bays m) c P x z
  reach_next x y z here e h = (suc h.0, ap (after (over_bays m) c h.0) e ∙ h.1, (here, subst (λ w. Along (over_bays m) c P h.0 w) (sym e) h.2))

  after_more : (n k : ℕ) (x : Plain Bay c) → after (over_bays m) c (n + k) x ≡ after (over_bays m) c k (after (over_bays m) c n x)
  after_more zero k x = let e : 0 + k ≡ k = omega arith in ap (λ j. after (over_bays m) c j x) e
  after_more (suc n) k x = let e : suc n + k ≡ suc (n + k) = omega arith in ap (λ j. after (over_bays m) c j x) e ∙ after_more n k (next (over_bays m) c x)

  along_more : (n k : ℕ) (x : Plain Bay c) → Along (over_bays m) c P n x → Along (over_bays m) c P k (after (over_bays m) c n x) → Along (over_bays m) c P (n + k) x
  along_more zero k x h g = let e : 0 + k ≡ k = omega arith in subst (λ j. Along (over_bays m) c P j x) (sym e) g
  along_more (suc n) k x h g = let e : suc n + k ≡ suc (n + k) = omega arith in subst (λ j. Along (over_bays m) c P j x) (sym e) (h.0, along_more n k (next (over_bays m) c x) h.1 g)

  pub reach_then : (x y z : Plain Bay c) → Reaches (over_bays m) c P x y → Reaches (over_bays m) c P y z → Reaches (over_bays m) c P x z
  reach_then x y z h k = (h.0 + k.0, after_more h.0 k.0 x ∙ ap (after (over_bays m) c k.0) h.1 ∙ k.1, along_more h.0 k.0 x h.2 (subst (λ w. Along (over_bays m) c P k.0 w) (sym h.1) k.2))

  -- the states inside a statement have the property
  abbrev pub MayStand : List Variable → Stated → List Stated → Desked → Type 0
  MayStand variables st rest before = (x : Plain Bay c) → x.script.rest ≡ st ∷ rest → IsInside m s variables st before x → P x

  -- all that it waits for was told: what the runner and its slots are then
  pub record Settling (st : Stated) (rest : List Stated) (r : Run) (p : Desked) (x : Plain Bay c) : Type 0 where
    pub run : Run
    pub slots : List (PlainSlot Bay Job)
    pub ties : Ties m run slots p
    pub ending : run.ending ≡ None
    pub rest_is : run.rest ≡ st ∷ rest
    pub variables : run.variables ≡ r.variables
    pub reaches : Reaches (over_bays m) c P x (at_turn rest (turn_tell st (waited_at st p) run) slots)

  waiting : (st : Stated) (rest : List Stated) (r : Run) (qs : List (PlainSlot Bay Job)) (p : Desked) (slot : ℕ) → Ties m r qs p → unsettled (waited_now st r) r.book ≡ Some slot
      → IsInside m s r.variables st p (at_turn rest (settles slot Waiting r) qs)
  waiting st rest r qs p slot t e =
      let found = transfer_at m st r qs p slot t e in
      record {
        told = t.told;
        asks = inl (record {
          core = t.core;
          desks_are = t.desks;
          transfer = found.0;
          at = found.1;
          pending = found.2;
          place = found.3;
          tells = found.4;
          untold = found.5;
        });
      }

  waits_out : (n : ℕ) (st : Stated) (rest : List Stated) (r : Run) (qs : List (PlainSlot Bay Job)) (p : Desked)
      → Ties m r qs p → r.ending ≡ None → r.rest ≡ st ∷ rest → MayStand r.variables st rest p → untold qs ≡ n
      → (o : Option ℕ) → unsettled (waited_now st r) r.book ≡ o
      → Settling st rest r p (at_turn rest (wait_by st (waited_now st r) o r) qs)
  waits_out n st rest r qs p t none is ok left None e = record {
    run = r;
    slots = qs;
    ties = t;
    ending = none;
    rest_is = is;
    variables = refl;
    reaches = reach_here (at_turn rest (turn_tell st (waited_now st r) r) qs) (at_turn rest (turn_tell st (waited_at st p) r) qs) (ap (λ es. at_turn rest (turn_tell st es r) qs) (waited_is m st r qs p t e));
  }
  waits_out zero st rest r qs p t none is ok left (Some slot) e =
      let found = waits_at m (waited_now st r) r qs p slot t e in
      absurd (omega (arith, left, untold_less qs slot found.0 found.1 found.2))
  waits_out (suc n) st rest r qs p t none is ok left (Some slot) e =
      let found = waits_at m (waited_now st r) r qs p slot t e in
      let q = found.0 in
      let answer = answer_of m q found.2 in
      let r2 : Run = told_of (record r { stage = Waiting; due = slot }) answer.0 in
      let t2 = settle_ties m Waiting r qs p slot q answer.0 t found.1 answer.1 found.2 in
      let later = waits_out n st rest r2 (set qs slot (more q)) p t2 none is ok (omega (arith, left, untold_less qs slot q found.1 found.2)) (unsettled (waited_now st r2) r2.book) refl in
      record {
        run = later.run;
        slots = later.slots;
        ties = later.ties;
        ending = later.ending;
        rest_is = later.rest_is;
        variables = later.variables;
        reaches = reach_next (at_turn rest (settles slot Waiting r) qs) (at_turn rest (turn st Waiting r2) (set qs slot (more q))) (at_turn rest (turn_tell st (waited_at st p) later.run) later.slots)
            (ok (at_turn rest (settles slot Waiting r) qs) is (waiting st rest r qs p slot t e))
            (settle_next st rest Waiting r qs slot q answer.0 none is found.1 answer.1) later.reaches;
      }

  pub wait_reaches : (st : Stated) (rest : List Stated) (r : Run) (qs : List (PlainSlot Bay Job)) (p : Desked)
      → Ties m r qs p → r.ending ≡ None → r.rest ≡ st ∷ rest → MayStand r.variables st rest p
      → Settling st rest r p (at_turn rest (turn_wait st r) qs)
  wait_reaches st rest r qs p t none is ok = waits_out (untold qs) st rest r qs p t none is ok refl (unsettled (waited_now st r) r.book) refl
