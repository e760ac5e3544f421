-- What the runner that stops at looks comes to by one ask, and what the runner itself comes to there, whatever is behind.
use Rattle.std.proofs.Common.{◌≡◌, ◌⊎◌, ℕ, suc, Bool, true, false, List, [], ◌∷◌, ◌++◌, Option, Some, None, is_some, refl, sym, ap, ◌∙◌, subst, inl, inr}
use Rattle.std.specs.Prelude.{if◌then◌else◌, option_and_then}
use Rattle.fj_world.specs.declared.ask.Ask.TheVariants.{Finished}
use Rattle.fj_meaning.specs.Statement.{Stated, Ending}
use Rattle.fj_meaning_turns.specs.Passing.{passed_by, passed_on, passes}
use Rattle.fj_meaning_turns.specs.Run.{Stage, Start, Waiting, Acting, Awaiting, Run}
use Rattle.fj_meaning_turns.specs.Turns.{Turn, Pauses, Passes, Stops, hand_at, turn_on, turn_start, turn, Asked, by_turn, asked_on, asked}
use Rattle.fj_meaning_turns.proofs.Reaching.{asked_at}
use Rattle.fj_meaning_looks.specs.Looking.{goes_until, turn_until, on_until, stage_until, asked_until}
use Rattle.fj_meaning_looks.specs.Stretches.{with_rest, IsOver, StandsAtLook}
use Rattle.fj_meaning_looks.proofs.Rests.{over, turn_is, HasBegun, IsAsking, Leaves, turn_leaves, goes_over, goes_asked}

module _ (looks : Stated → Run → Bool) where
  -- with these statements left the run came to a look,
  pub record Looked (r : Run) (l : List Stated) (a : Asked) : Type 0 where
    pub finished : a.ask ≡ Finished
    pub look : StandsAtLook looks a.run
    pub front : List Stated
    pub rest : l ≡ front ++ a.run.rest
    pub further : (a.run ≡ with_rest l r) ⊎ ((first : Stated) × (others : List Stated) × (front ≡ first ∷ others))
    pub asks : (k : List Stated) → asked (with_rest (front ++ k) r) ≡ asked (with_rest k a.run)
    pub passed : (k : List Stated) → (count : ℕ) × (passes count (with_rest (front ++ k) r) ≡ Some (with_rest k a.run))

  -- or it asks inside a statement, which is the last one of these
  pub record Paused (r : Run) (l : List Stated) (a : Asked) : Type 0 where
    pub asking : IsAsking a.ask
    pub begun : HasBegun a.run.stage
    pub first : Stated
    pub others : List Stated
    pub hand : Stated
    pub behind : List Stated
    pub rest : l ≡ first ∷ others ++ behind
    pub at_hand : a.run.rest ≡ hand ∷ behind
    pub asks : (k : List Stated) → asked (with_rest (first ∷ others ++ k) r) ≡ record { ask = a.ask; run = with_rest (hand ∷ k) a.run }

  -- or it is over
  pub record Ended (r : Run) (l : List Stated) (a : Asked) : Type 0 where
    pub same : asked (with_rest l r) ≡ a
    pub finished : a.ask ≡ Finished
    pub over_is : IsOver a.run

  abbrev pub Comes : Run → List Stated → Asked → Type 0
  Comes r l a = Looked r l a ⊎ Paused r l a ⊎ Ended r l a

  -- one statement more in front, which is passed
  one_more : (st : Stated) (l : List Stated) (r run : Run) (a : Asked) → ((k : List Stated) → asked (with_rest (st ∷ k) r) ≡ asked (with_rest k run))
      → ((k : List Stated) → passed_on (st ∷ k) (with_rest (st ∷ k) r) ≡ Some (with_rest k run)) → Comes run l a → Comes r (st ∷ l) a
  one_more st l r run a is on (inl x) = inl (record {
    finished = x.finished;
    look = x.look;
    front = st ∷ x.front;
    rest = ap (λ k. st ∷ k) x.rest;
    further = inr (st, x.front, refl);
    asks = λ k. is (x.front ++ k) ∙ x.asks k;
    passed = λ k. (suc (x.passed k).0, ap (option_and_then (passes (x.passed k).0)) (on (x.front ++ k)) ∙ (x.passed k).1);
  })
  one_more st l r run a is on (inr (inl x)) = inr (inl (record {
    asking = x.asking;
    begun = x.begun;
    first = st;
    others = x.first ∷ x.others;
    hand = x.hand;
    behind = x.behind;
    rest = ap (λ k. st ∷ k) x.rest;
    at_hand = x.at_hand;
    asks = λ k. is (x.first ∷ x.others ++ k) ∙ x.asks k;
  }))
  one_more st l r run a is on (inr (inr x)) = inr (inr (record { same = is l ∙ x.same; finished = x.finished; over_is = x.over_is }))

  -- where the first of these starts
  abbrev Later : List Stated → Type 0
  Later l = (run : Run) → run.stage ≡ Start → run.ending ≡ None → Comes run l (goes_until looks l run)

  -- by the turn of the one in front
  turn_comes : (st hand : Stated) (rest : List Stated) (r : Run) (t : Turn) → ((k : List Stated) → turn st r.stage (with_rest (st ∷ k) r) ≡ over (hand ∷ k) t) → Leaves t → r.ending ≡ None → Later rest
      → Comes r (st ∷ rest) (turn_until looks rest (over (hand ∷ rest) t))
  turn_comes st hand rest r (Pauses ask run) is leaves none later = inr (inl (record {
    asking = leaves.1;
    begun = leaves.0;
    first = st;
    others = [];
    hand = hand;
    behind = rest;
    rest = refl;
    at_hand = refl;
    asks = λ k. asked_at st k (with_rest (st ∷ k) r) none refl ∙ ap (by_turn k) (is k);
  }))
  turn_comes st hand rest r (Passes run) is leaves none later =
      let next : Run = with_rest (hand ∷ rest) run in
      one_more st rest r next (goes_until looks rest next)
      (λ k. asked_at st k (with_rest (st ∷ k) r) none refl ∙ ap (by_turn k) (is k) ∙ goes_over k (hand ∷ k) run ∙ goes_asked k run leaves.0 leaves.1)
      (λ k. ap (passed_by k) (is k)) (later next leaves.0 leaves.1)
  turn_comes st hand rest r (Stops run) is leaves none later = inr (inr (record { same = asked_at st rest (with_rest (st ∷ rest) r) none refl ∙ ap (by_turn rest) (is rest); finished = refl; over_is = inl leaves }))

  on_comes : (st : Stated) (rest : List Stated) (r : Run) → r.ending ≡ None → Later rest → Comes r (st ∷ rest) (turn_until looks rest (turn st r.stage (with_rest (st ∷ rest) r)))
  on_comes st rest r none later =
      let hand : Stated = hand_at st r.stage r in
      subst (Comes r (st ∷ rest)) (ap (turn_until looks rest) (sym (turn_is st r.stage r rest)))
      (turn_comes st hand rest r (turn_on hand r.stage r) (turn_is st r.stage r) (turn_leaves hand r.stage r none) none later)

  -- ---- by whether it looks

  abbrev pub on_turn : List Stated → Turn → Asked
  on_turn rest t = elim t as (λ _. Asked) [ Pauses ask run ↦ record { ask = ask; run = run } | Passes run ↦ goes_until looks rest run | Stops run ↦ record { ask = Finished; run = run } ]

  pub on_turn_is : (rest : List Stated) (t : Turn) → on_turn rest t ≡ turn_until looks rest t
  on_turn_is rest (Pauses ask run) = refl
  on_turn_is rest (Passes run) = refl
  on_turn_is rest (Stops run) = refl

  pub by_look : (st : Stated) (rest : List Stated) (r : Run) (b : Bool) → looks st (with_rest (st ∷ rest) r) ≡ b
      → goes_until looks (st ∷ rest) r ≡ (if b then record { ask = Finished; run = with_rest (st ∷ rest) r } else on_turn rest (turn_start st (with_rest (st ∷ rest) r)))
  by_look st rest r b e = ap (λ b. if b then record { ask = Finished; run = with_rest (st ∷ rest) r } else on_turn rest (turn_start st (with_rest (st ∷ rest) r))) e

  goes_comes : (l : List Stated) → Later l
  goes_comes [] r start none =
      let all : Asked = record { ask = Finished; run = with_rest [] r } in
      inr (inr (record { same = ap (λ e. if is_some e then all else all) none; finished = refl; over_is = inr refl }))
  goes_comes (st ∷ rest) r start none = by (looks st (with_rest (st ∷ rest) r)) refl (goes_comes rest)
    where
      by : (b : Bool) → looks st (with_rest (st ∷ rest) r) ≡ b → Later rest → Comes r (st ∷ rest) (goes_until looks (st ∷ rest) r)
      by true e later = subst (Comes r (st ∷ rest)) (sym (by_look st rest r true e)) (inl (record {
        finished = refl;
        look = record { statement = st; behind = rest; rest = refl; looks_there = e; stage = start; ending = none };
        front = [];
        rest = refl;
        further = inl refl;
        asks = λ k. refl;
        passed = λ k. (0, refl);
      }))
      by false e later =
          subst (Comes r (st ∷ rest)) (sym (by_look st rest r false e ∙ on_turn_is rest (turn_start st (with_rest (st ∷ rest) r)) ∙ ap (λ z. turn_until looks rest (turn st z (with_rest (st ∷ rest) r))) (sym start)))
          (on_comes st rest r none later)

  -- ---- by its stage

  begun_comes : (l : List Stated) (r : Run) → r.rest ≡ l → r.ending ≡ None → Comes r l (on_until looks l r)
  begun_comes [] r is none =
      let all : Asked = record { ask = Finished; run = with_rest [] r } in
      inr (inr (record { same = ap (λ e. if is_some e then all else all) none ∙ ap (λ l. record { ask = Finished; run = with_rest l r }) (sym is); finished = refl; over_is = inr is }))
  begun_comes (st ∷ rest) r is none = subst (Comes r (st ∷ rest)) (ap (λ l. turn_until looks rest (turn st r.stage (with_rest l r))) (sym is)) (on_comes st rest r none (goes_comes rest))

  stage_comes : (stage : Stage) (r : Run) → r.stage ≡ stage → r.ending ≡ None → Comes r r.rest (stage_until looks stage r)
  stage_comes Start r at none = goes_comes r.rest r at none
  stage_comes Waiting r at none = begun_comes r.rest r refl none
  stage_comes (Acting d) r at none = begun_comes r.rest r refl none
  stage_comes (Awaiting slot number next) r at none = begun_comes r.rest r refl none

  pub comes : (r : Run) → Comes r r.rest (asked_until looks r)
  comes r = by r.ending refl
    where
      by : (o : Option Ending) → r.ending ≡ o → Comes r r.rest (asked_until looks r)
      by None none =
          let is : asked_until looks r ≡ stage_until looks r.stage r = ap (λ o. if is_some o then record { ask = Finished; run = r } else stage_until looks r.stage r) none in
          subst (Comes r r.rest) (sym is) (stage_comes r.stage r refl none)
      by (Some e) some =
          let is : asked_until looks r ≡ record { ask = Finished; run = r } = ap (λ o. if is_some o then record { ask = Finished; run = r } else stage_until looks r.stage r) some in
          subst (Comes r r.rest) (sym is) (inr (inr (record { same = ap (λ o. if is_some o then record { ask = Finished; run = r } else asked_on r.rest r) some; finished = refl; over_is = inl (ap is_some some) })))
