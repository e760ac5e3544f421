-- So many entries of a stretch.
use Rattle.std.proofs.Common.{◌≡◌, ◌⊎◌, ℕ, zero, suc, ◌+◌, Bool, true, false, List, [], ◌∷◌, ◌++◌, Option, Some, None, slice_get, set, get_or, refl, sym, ap, ◌∙◌, subst, inl, inr, ◌&&◌, arith, append_assoc}
use Rattle.std.specs.Prelude.{if◌then◌else◌, ◌==◌, option_and_then}
use Rattle.fj_slot.specs.Serving.{Meaning}
use Rattle.fj_slot.specs.Sound.{outcome}
use Rattle.fj_world.specs.declared.ask.Ask.{Ask}
use Rattle.fj_world.specs.declared.ask.Ask.TheVariants.{Submit, Settle, Finished}
use Rattle.fj_world.specs.Conduct.{Conduct}
use Rattle.fj_world.specs.Losing.{given_number, given_reply, given_outcome, answered, HasAsked}
use Rattle.fj_world.specs.Plain.{Plain, PlainSlot, submitted_to, settled_from, told_from, served, next, after}
use Rattle.fj_bay.specs.Bay.{Bay}
use Rattle.fj_bay.specs.Jobs.{Job, Answer}
use Rattle.fj_meaning.specs.Statement.{Stated}
use Rattle.fj_meaning_jobs.specs.Desks.{Outcome}
use Rattle.fj_meaning_turns.specs.Passing.{passed_on, passes}
use Rattle.fj_meaning_turns.specs.Run.{Stage, Start, Waiting, Acting, Awaiting, Run}
use Rattle.fj_meaning_turns.specs.Turns.{Asked, asked, stage_told, told_of}
use Rattle.fj_meaning_turns.specs.Serving.{over_bays, Shows, run_conduct}
use Rattle.fj_meaning_turns.proofs.Ties.{more, given}
use Rattle.fj_meaning_looks.specs.Looking.{asked_until, asks_by, stretch_conduct}
use Rattle.fj_meaning_looks.specs.Stretches.{with_rest, IsOver, runs, before, Joins, stretch, ToLook, IsWhole, StretchGoesOn}
use Rattle.fj_meaning_looks.proofs.Rests.{HasBegun, IsAsking}
use Rattle.fj_meaning_looks.proofs.Coming.{Looked, Paused, Ended, Comes, comes}

asks_none : IsAsking Finished → ⊥
asks_none h = h

begun_told : (stage : Stage) (slot number : ℕ) (o : Outcome) → HasBegun stage → HasBegun (stage_told stage slot number o)
begun_told Start slot number o h = h
begun_told Waiting slot number o h = tt
begun_told (Acting d) slot number o h = tt
begun_told (Awaiting own last after) slot number o h = by ((own == slot) && (last == number))
  where
    by : (b : Bool) → HasBegun (if b then Acting (after o) else Awaiting own last after)
    by true = tt
    by false = tt

-- the statement at hand, and those behind it
hand_is : (hand st : Stated) (behind others l : List Stated) → hand ∷ behind ≡ (st ∷ others) ++ l → (st ≡ hand) × (behind ≡ others ++ l)
hand_is hand st behind others l e = (sym (ap (λ k. head_or hand k) e), ap tail_of e)
  where
    head_or : Stated → List Stated → Stated
    head_or x [] = x
    head_or x (y ∷ k) = y

    tail_of : List Stated → List Stated
    tail_of [] = []
    tail_of (y ∷ k) = k

passes_more : (a b : ℕ) (r : Run) → passes (a + b) r ≡ option_and_then (passes b) (passes a r)
passes_more zero b r = let e : 0 + b ≡ b = omega arith in ap (λ j. passes j r) e
passes_more (suc a) b r = let e : suc a + b ≡ suc (a + b) = omega arith in ap (λ j. passes j r) e ∙ by (passed_on r.rest r) (λ r'. passes_more a b r')
  where
    by : (o : Option Run) → ((r' : Run) → passes (a + b) r' ≡ option_and_then (passes b) (passes a r')) → option_and_then (passes (a + b)) o ≡ option_and_then (passes b) (option_and_then (passes a) o)
    by None later = refl
    by (Some r') later = later r'

module _ {E J A S : Type 0} (m : Meaning E J A Bay Job Answer) where
  -- where the next entry is none, all are
  after_still : (c : Conduct S Job Answer) (n : ℕ) (p : Plain Bay c) → next (over_bays m) c p ≡ p → after (over_bays m) c n p ≡ p
  after_still c zero p e = refl
  after_still c (suc n) p e = ap (after (over_bays m) c n) e ∙ after_still c n p e

  after_more : (c : Conduct S Job Answer) (n k : ℕ) (p : Plain Bay c) → after (over_bays m) c (n + k) p ≡ after (over_bays m) c k (after (over_bays m) c n p)
  after_more c zero k p = let e : 0 + k ≡ k = omega arith in ap (λ j. after (over_bays m) c j p) e
  after_more c (suc n) k p = let e : suc n + k ≡ suc (n + k) = omega arith in ap (λ j. after (over_bays m) c j p) e ∙ after_more c n k (next (over_bays m) c p)

module _ {E J A S : Type 0} (m : Meaning E J A Bay Job Answer) (s : Shows S) where
  abbrev pub at : (by : Run → Asked) → Asked → List (PlainSlot Bay Job) → Plain Bay (asks_by s by)
  at by a qs = record { script = a.run; hand = a.ask; slots = qs }

  -- ---- one run after another

  pub runs_join : (n k : ℕ) (r r' : Run) (qs qs' : List (PlainSlot Bay Job)) → runs m s n r qs ≡ runs m s 0 r' qs' → runs m s (n + k) r qs ≡ runs m s k r' qs'
  runs_join n k r r' qs qs' e = after_more m (run_conduct s) n k (runs m s 0 r qs) ∙ ap (after (over_bays m) (run_conduct s) k) e

  pub before_join : (n k : ℕ) (r r' : Run) (qs qs' : List (PlainSlot Bay Job)) → runs m s n r qs ≡ runs m s 0 r' qs' → before m s (n + suc k) r qs ≡ before m s (suc k) r' qs'
  before_join n k r r' qs qs' e =
      let more : n + suc k ≡ suc (n + k) = omega arith in
      ap (λ j. before m s j r qs) more ∙ ap (λ x. answered (over_bays m) (run_conduct s) x.hand x) (runs_join n k r r' qs qs' e)

  pub asked_join : (n k : ℕ) (r r' : Run) (qs qs' : List (PlainSlot Bay Job)) → runs m s n r qs ≡ runs m s 0 r' qs' → HasAsked (over_bays m) (run_conduct s) (suc k) r' qs'
      → HasAsked (over_bays m) (run_conduct s) (n + suc k) r qs
  asked_join n k r r' qs qs' e h =
      let more : n + suc k ≡ suc (n + k) = omega arith in
      subst (λ j. HasAsked (over_bays m) (run_conduct s) j r qs) (sym more) (λ f. h (sym (ap (λ (x : Plain Bay (run_conduct s)). x.hand) (runs_join n k r r' qs qs' e)) ∙ f))

  pub joins_then : (n k : ℕ) (r r1 r2 : Run) (qs qs1 qs2 : List (PlainSlot Bay Job)) → Joins m s n r qs r1 qs1 → Joins m s k r1 qs1 r2 qs2 → Joins m s (n + k) r qs r2 qs2
  joins_then n zero r r1 r2 qs qs1 qs2 g h =
      let none : n + 0 ≡ n = omega arith in
      subst (λ j. Joins m s j r qs r2 qs2) (sym none) (record {
        asks = g.asks ∙ h.asks;
        has_asked = g.has_asked;
        count = g.count + h.count;
        passed = passes_more g.count h.count (before m s n r qs).0 ∙ ap (option_and_then (passes h.count)) g.passed ∙ h.passed;
        slots = g.slots ∙ h.slots;
      })
  joins_then n (suc k) r r1 r2 qs qs1 qs2 g h =
      let same : before m s (n + suc k) r qs ≡ before m s (suc k) r1 qs1 = before_join n k r r1 qs qs1 g.asks in
      record {
        asks = runs_join n (suc k) r r1 qs qs1 g.asks ∙ h.asks;
        has_asked = asked_join n k r r1 qs qs1 g.asks h.has_asked;
        count = h.count;
        passed = ap (λ b. passes h.count b.0) same ∙ h.passed;
        slots = ap (λ b. b.1) same ∙ h.slots;
      }

  -- ---- one entry

  abbrev pub here : (by : Run → Asked) → Ask Job → Run → List (PlainSlot Bay Job) → Plain Bay (asks_by s by)
  here by ask run qs = at by (record { ask = ask; run = run }) qs

  -- Whoever asks it: the ask cannot be answered,
  abbrev pub Stays : Ask Job → List (PlainSlot Bay Job) → Type 0
  Stays ask qs = (by : Run → Asked) (run : Run) → next (over_bays m) (asks_by s by) (here by ask run qs) ≡ here by ask run qs

  -- or the run goes on with its answer, whatever is behind the statement at hand
  pub record Moves (ask : Ask Job) (qs : List (PlainSlot Bay Job)) : Type 0 where
    pub given_to : Run → Run
    pub slots : List (PlainSlot Bay Job)
    pub is : (by : Run → Asked) (run : Run) → next (over_bays m) (asks_by s by) (here by ask run qs) ≡ at by (by (given_to run)) slots
    pub answered_is : (run : Run) → answered (over_bays m) (run_conduct s) ask (here asked ask run qs) ≡ (given_to run, slots)
    pub rest : (l : List Stated) (run : Run) → given_to (with_rest l run) ≡ with_rest l (given_to run)
    pub begun : (run : Run) → HasBegun run.stage → HasBegun (given_to run).stage

  answers : (ask : Ask Job) (qs : List (PlainSlot Bay Job)) → Stays ask qs ⊎ Moves ask qs
  answers Finished qs = inl (λ by run. refl)
  answers (Submit slot job) qs = by (slice_get qs slot) refl
    where
      by : (o : Option (PlainSlot Bay Job)) → slice_get qs slot ≡ o → Stays (Submit slot job) qs ⊎ Moves (Submit slot job) qs
      by None e = inl (λ next run. ap (λ z. submitted_to (over_bays m) (asks_by s next) z slot job (here next (Submit slot job) run qs)) e)
      by (Some q) e = inr (record {
        given_to = λ run. run;
        slots = set qs slot (given q job);
        is = λ next run. ap (λ z. submitted_to (over_bays m) (asks_by s next) z slot job (here next (Submit slot job) run qs)) e;
        answered_is = λ run. ap (λ z. given_number (over_bays m) (run_conduct s) z slot job (here asked (Submit slot job) run qs)) e;
        rest = λ l run. refl;
        begun = λ run h. h;
      })
  answers (Settle slot) qs = by (slice_get qs slot) refl
    where
      told : (q : PlainSlot Bay Job) → slice_get qs slot ≡ Some q → (o : Option Outcome) → outcome (over_bays m) q.start q.jobs q.told ≡ o → Stays (Settle slot) qs ⊎ Moves (Settle slot) qs
      told q e None f = inl (λ next run. ap (λ z. settled_from (over_bays m) (asks_by s next) z slot (here next (Settle slot) run qs)) e ∙ ap (λ z. told_from (over_bays m) (asks_by s next) z q slot (here next (Settle slot) run qs)) f)
      told q e (Some o) f = inr (record {
        given_to = λ run. told_of run o;
        slots = set qs slot (more q);
        is = λ next run. ap (λ z. settled_from (over_bays m) (asks_by s next) z slot (here next (Settle slot) run qs)) e ∙ ap (λ z. told_from (over_bays m) (asks_by s next) z q slot (here next (Settle slot) run qs)) f;
        answered_is = λ run. ap (λ z. given_outcome (over_bays m) (run_conduct s) z slot (here asked (Settle slot) run qs)) e ∙ ap (λ z. given_reply (over_bays m) (run_conduct s) z q slot (here asked (Settle slot) run qs)) f;
        rest = λ l run. refl;
        begun = λ run h. begun_told run.stage run.due (get_or run.told run.due 0) o h;
      })

      by : (o : Option (PlainSlot Bay Job)) → slice_get qs slot ≡ o → Stays (Settle slot) qs ⊎ Moves (Settle slot) qs
      by None e = inl (λ next run. ap (λ z. settled_from (over_bays m) (asks_by s next) z slot (here next (Settle slot) run qs)) e)
      by (Some q) e = told q e (outcome (over_bays m) q.start q.jobs q.told) refl

  -- the runner at an ask goes on with its answer
  answer_joins : (r run : Run) (ask : Ask Job) (qs : List (PlainSlot Bay Job)) (mv : Moves ask qs) → IsAsking ask → asked r ≡ record { ask = ask; run = run } → Joins m s 1 r qs (mv.given_to run) mv.slots
  answer_joins r run ask qs mv asking e =
      let b : before m s 1 r qs ≡ (mv.given_to run, mv.slots) = ap (λ a. answered (over_bays m) (run_conduct s) a.ask (at asked a qs)) e ∙ mv.answered_is run in
      record {
        asks = ap (λ a. next (over_bays m) (run_conduct s) (at asked a qs)) e ∙ mv.is asked run;
        has_asked = λ f. asks_none (subst IsAsking (sym (ap (λ (a : Asked). a.ask) e) ∙ f) asking);
        count = 0;
        passed = ap (λ x. Some x.0) b;
        slots = ap (λ x. x.1) b;
      }

module _ {E J A S : Type 0} (m : Meaning E J A Bay Job Answer) (s : Shows S) (looks : Stated → Run → Bool) where
  abbrev Either : Run → List (PlainSlot Bay Job) → ℕ → Plain Bay (stretch_conduct looks s) → Type 0
  Either r qs n x = ToLook m s looks r qs x ⊎ IsWhole m s looks r qs n x

  -- it came to a look by its first ask
  looked : (n : ℕ) (r : Run) (qs : List (PlainSlot Bay Job)) → Looked looks r r.rest (asked_until looks r) → ToLook m s looks r qs (stretch m s looks n r qs)
  looked n r qs x =
      let p : Plain Bay (stretch_conduct looks s) = stretch m s looks 0 r qs in
      let still : next (over_bays m) (stretch_conduct looks s) p ≡ p = ap (λ a. served (over_bays m) (stretch_conduct looks s) a p) x.finished in
      subst (ToLook m s looks r qs) (sym (after_still m (stretch_conduct looks s) n p still)) (record {
        finished = x.finished;
        look = x.look;
        front = x.front;
        rest = x.rest;
        further = x.further;
        entries = 0;
        gone = λ k. record { asks = ap (λ a. at m s asked a qs) (x.asks k); has_asked = tt; count = (x.passed k).0; passed = (x.passed k).1; slots = refl };
      })

  -- both are at the same ask, which is never answered
  still_whole : (n : ℕ) (r : Run) (qs : List (PlainSlot Bay Job)) → asked r ≡ asked_until looks r → Stays m s (asked_until looks r).ask qs → ((asked_until looks r).ask ≡ Finished → IsOver (asked_until looks r).run)
      → IsWhole m s looks r qs n (stretch m s looks n r qs)
  still_whole n r qs same stays over =
      let a : Asked = asked_until looks r in
      let mine : stretch m s looks n r qs ≡ at m s (asked_until looks) a qs = after_still m (stretch_conduct looks s) n (at m s (asked_until looks) a qs) (stays (asked_until looks) a.run) in
      subst (IsWhole m s looks r qs n) (sym mine) (record {
        same = ap (λ b. after (over_bays m) (run_conduct s) n (at m s asked b qs)) same ∙ after_still m (run_conduct s) n (at m s asked a qs) (stays asked a.run);
        over = over;
      })

  ended : (n : ℕ) (r : Run) (qs : List (PlainSlot Bay Job)) → Ended looks r r.rest (asked_until looks r) → IsWhole m s looks r qs n (stretch m s looks n r qs)
  ended n r qs x = still_whole n r qs x.same (subst (λ ask. Stays m s ask qs) (sym x.finished) (λ by run. refl)) (λ e. x.over_is)

  -- it asks inside a statement
  paused_now : (r : Run) → (x : Paused looks r r.rest (asked_until looks r)) → asked r ≡ asked_until looks r
  paused_now r x = ap (λ l. asked (with_rest l r)) x.rest ∙ x.asks x.behind ∙ ap (λ l. record { ask = (asked_until looks r).ask; run = with_rest l (asked_until looks r).run }) (sym x.at_hand)

  never : (r : Run) → IsAsking (asked_until looks r).ask → (asked_until looks r).ask ≡ Finished → IsOver (asked_until looks r).run
  never r asking e = absurd (asks_none (subst IsAsking e asking))

  -- what is gone behind the statement at hand, once the ask is answered, is gone with that and those before it
  gone_on : (r : Run) (qs : List (PlainSlot Bay Job)) → Paused looks r r.rest (asked_until looks r) → (mv : Moves m s (asked_until looks r).ask qs)
      → (z : Plain Bay (stretch_conduct looks s)) → ToLook m s looks (mv.given_to (asked_until looks r).run) mv.slots z → ToLook m s looks r qs z
  gone_on r qs x mv z g = by g.further
    where
      by : (z.script ≡ mv.given_to (asked_until looks r).run) ⊎ ((first : Stated) × (others : List Stated) × (g.front ≡ first ∷ others)) → ToLook m s looks r qs z
      by (inl start) = absurd (subst HasBegun (sym (ap (λ (k : Run). k.stage) start) ∙ g.look.stage) (mv.begun (asked_until looks r).run x.begun))
      by (inr (st, others, is)) =
          let left : (mv.given_to (asked_until looks r).run).rest ≡ (asked_until looks r).run.rest = ap (λ (k : Run). k.rest) (mv.rest (asked_until looks r).run.rest (asked_until looks r).run) in
          let h = hand_is x.hand st x.behind others z.script.rest (sym x.at_hand ∙ sym left ∙ g.rest ∙ ap (λ k. k ++ z.script.rest) is) in
          let front_is : g.front ≡ x.hand ∷ others = is ∙ ap (λ k. k ∷ others) h.0 in
          record {
            finished = g.finished;
            look = g.look;
            front = x.first ∷ x.others ++ others;
            rest = x.rest ∙ ap (λ k. x.first ∷ x.others ++ k) h.1 ∙ ap (λ k. x.first ∷ k) (sym (append_assoc x.others others z.script.rest));
            further = inr (x.first, x.others ++ others, refl);
            entries = 1 + g.entries;
            gone = λ k.
                let run : Run = with_rest (x.hand ∷ others ++ k) (asked_until looks r).run in
                let asks : asked (with_rest (x.first ∷ x.others ++ others ++ k) r) ≡ record { ask = (asked_until looks r).ask; run = run } = ap (λ l. asked (with_rest (x.first ∷ l) r)) (append_assoc x.others others k) ∙ x.asks (others ++ k) in
                let on : mv.given_to run ≡ with_rest (g.front ++ k) (mv.given_to (asked_until looks r).run) =
                mv.rest (x.hand ∷ others ++ k) (asked_until looks r).run ∙ ap (λ l. with_rest (l ++ k) (mv.given_to (asked_until looks r).run)) (sym front_is) in
                joins_then m s 1 g.entries (with_rest (x.first ∷ x.others ++ others ++ k) r) (mv.given_to run) (with_rest k z.script) qs mv.slots z.slots
                (answer_joins m s (with_rest (x.first ∷ x.others ++ others ++ k) r) run (asked_until looks r).ask qs mv x.asking asks)
                (subst (λ y. Joins m s g.entries y mv.slots (with_rest k z.script) z.slots) (sym on) (g.gone k));
          }

  moved : (n : ℕ) (r : Run) (qs : List (PlainSlot Bay Job)) → Paused looks r r.rest (asked_until looks r) → (mv : Moves m s (asked_until looks r).ask qs)
      → (let x = stretch m s looks n (mv.given_to (asked_until looks r).run) mv.slots in Either (mv.given_to (asked_until looks r).run) mv.slots n x → Either r qs (suc n) x)
  moved n r qs x mv (inl g) = inl (gone_on r qs x mv (stretch m s looks n (mv.given_to (asked_until looks r).run) mv.slots) g)
  moved n r qs x mv (inr w) = inr (record {
    same = ap (after (over_bays m) (run_conduct s) n) (ap (λ b. next (over_bays m) (run_conduct s) (at m s asked b qs)) (paused_now r x) ∙ mv.is asked (asked_until looks r).run) ∙ w.same;
    over = w.over;
  })

  paused : (n : ℕ) (r : Run) (qs : List (PlainSlot Bay Job)) → Paused looks r r.rest (asked_until looks r)
      → ((r' : Run) (qs' : List (PlainSlot Bay Job)) → Either r' qs' n (stretch m s looks n r' qs')) → Either r qs (suc n) (stretch m s looks (suc n) r qs)
  paused n r qs x later = by (answers m s (asked_until looks r).ask qs)
    where
      by : Stays m s (asked_until looks r).ask qs ⊎ Moves m s (asked_until looks r).ask qs → Either r qs (suc n) (stretch m s looks (suc n) r qs)
      by (inl stays) = inr (still_whole (suc n) r qs (paused_now r x) stays (never r x.asking))
      by (inr mv) =
          subst (Either r qs (suc n)) (sym (ap (after (over_bays m) (stretch_conduct looks s) n) (mv.is (asked_until looks) (asked_until looks r).run)))
          (moved n r qs x mv (later (mv.given_to (asked_until looks r).run) mv.slots))

  pub each : StretchGoesOn m s looks
  each r qs zero = by (comes looks r)
    where
      by : Comes looks r r.rest (asked_until looks r) → Either r qs zero (stretch m s looks zero r qs)
      by (inl x) = inl (looked zero r qs x)
      by (inr (inl x)) = inr (record { same = ap (λ b. at m s asked b qs) (paused_now r x); over = never r x.asking })
      by (inr (inr x)) = inr (ended zero r qs x)
  each r qs (suc n) = by (comes looks r) (λ r' qs'. each r' qs' n)
    where
      by : Comes looks r r.rest (asked_until looks r) → ((r' : Run) (qs' : List (PlainSlot Bay Job)) → Either r' qs' n (stretch m s looks n r' qs')) → Either r qs (suc n) (stretch m s looks (suc n) r qs)
      by (inl x) later = inl (looked (suc n) r qs x)
      by (inr (inl x)) later = paused n r qs x later
      by (inr (inr x)) later = inr (ended (suc n) r qs x)
