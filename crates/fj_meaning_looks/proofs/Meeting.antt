-- Each look is met, once.
use Rattle.std.proofs.Common.{◌≡◌, ◌⊎◌, zero, suc, ◌<◌, Bool, true, false, List, [], ◌∷◌, ◌++◌, Some, None, is_some, length, refl, sym, ap, ◌∙◌, subst, inl, inr, arith, length-append}
use Rattle.std.specs.Prelude.{if◌then◌else◌, option_and_then}
use Rattle.fj_slot.specs.Serving.{Meaning}
use Rattle.fj_world.specs.declared.ask.Ask.TheVariants.{Finished}
use Rattle.fj_bay.specs.Bay.{Bay}
use Rattle.fj_bay.specs.Jobs.{Job, Answer}
use Rattle.fj_meaning.specs.Statement.{Stated}
use Rattle.fj_meaning_turns.specs.Passing.{passed_by, passed_on, passes}
use Rattle.fj_meaning_turns.specs.Run.{Stage, Start, Waiting, Acting, Awaiting, Run}
use Rattle.fj_meaning_turns.specs.Turns.{Turn, Pauses, Passes, Stops, hand_at, turn_start, turn_on, turn}
use Rattle.fj_meaning_turns.specs.Serving.{Shows}
use Rattle.fj_meaning_turns.proofs.Slots.{same_some}
use Rattle.fj_meaning_looks.specs.Looking.{goes_until, turn_until, on_until, stage_until, asked_until}
use Rattle.fj_meaning_looks.specs.Meeting.{MeetsLook, LooksAreMet, NextLookIsBehind}
use Rattle.fj_meaning_looks.specs.Stretches.{with_rest, StandsAtLook, stretch}
use Rattle.fj_meaning_looks.proofs.Rests.{over, turn_is, HasBegun, Leaves, turn_leaves}
use Rattle.fj_meaning_looks.proofs.Coming.{on_turn, by_look, on_turn_is}

stage_or : (stage : Stage) → HasBegun stage ⊎ (stage ≡ Start)
stage_or Start = inr refl
stage_or Waiting = inl tt
stage_or (Acting d) = inl tt
stage_or (Awaiting slot number next) = inl tt

over_leaves : (l : List Stated) (t : Turn) → Leaves t → Leaves (over l t)
over_leaves l (Pauses ask run) h = h
over_leaves l (Passes run) h = h
over_leaves l (Stops run) h = h

head_same : (a b : Stated) (k l : List Stated) → a ∷ k ≡ b ∷ l → a ≡ b
head_same a b k l e = ap (λ x. head_or x) e
  where
    head_or : List Stated → Stated
    head_or [] = a
    head_or (y ∷ x) = y

passed_leaves : (st : Stated) (rest : List Stated) (r next : Run) → r.ending ≡ None → r.rest ≡ st ∷ rest → turn st r.stage r ≡ Passes next → Leaves (Passes next)
passed_leaves st rest r next none is passes_to =
    let hand : Stated = hand_at st r.stage r in
    subst Leaves (sym (turn_is st r.stage r rest) ∙ ap (λ l. turn st r.stage (with_rest l r)) (sym is) ∙ passes_to) (over_leaves (hand ∷ rest) (turn_on hand r.stage r) (turn_leaves hand r.stage r none))

module _ (looks : Stated → Run → Bool) where
  -- ---- by one ask

  pub until_stage : (r : Run) (stage : Stage) → r.ending ≡ None → r.stage ≡ stage → asked_until looks r ≡ stage_until looks stage r
  until_stage r stage none at = ap (λ o. if is_some o then record { ask = Finished; run = r } else stage_until looks r.stage r) none ∙ ap (λ z. stage_until looks z r) at

  until_started : (st : Stated) (rest : List Stated) (r : Run) (b : Bool) → r.ending ≡ None → r.stage ≡ Start → r.rest ≡ st ∷ rest → looks st r ≡ b
      → asked_until looks r ≡ (if b then record { ask = Finished; run = r } else turn_until looks rest (turn st r.stage r))
  until_started st rest r b none start is e =
      let here : r ≡ with_rest (st ∷ rest) r = ap (λ l. with_rest l r) is in
      until_stage r Start none start ∙ ap (λ l. goes_until looks l r) is ∙ by_look looks st rest r b (ap (looks st) (sym here) ∙ e)
      ∙ ap (λ y. if b then record { ask = Finished; run = y } else on_turn looks rest (turn_start st y)) (sym here)
      ∙ ap (λ a. if b then record { ask = Finished; run = r } else a) (on_turn_is looks rest (turn_start st r) ∙ ap (λ z. turn_until looks rest (turn st z r)) (sym start))

  -- at a look it stops
  pub until_look : (r : Run) → StandsAtLook looks r → asked_until looks r ≡ record { ask = Finished; run = r }
  until_look r x = until_started x.statement x.behind r true x.ending x.stage x.rest x.looks_there

  -- and at each other statement its turn comes
  pub until_turn : (st : Stated) (rest : List Stated) (r : Run) → r.ending ≡ None → r.rest ≡ st ∷ rest → HasBegun r.stage ⊎ (looks st r ≡ false) → asked_until looks r ≡ turn_until looks rest (turn st r.stage r)
  until_turn st rest r none is h = by (stage_or r.stage) h
    where
      begun_on : (stage : Stage) → HasBegun stage → stage_until looks stage r ≡ on_until looks r.rest r
      begun_on Start begun = absurd begun
      begun_on Waiting begun = refl
      begun_on (Acting d) begun = refl
      begun_on (Awaiting slot number next) begun = refl

      by : HasBegun r.stage ⊎ (r.stage ≡ Start) → HasBegun r.stage ⊎ (looks st r ≡ false) → asked_until looks r ≡ turn_until looks rest (turn st r.stage r)
      by (inl begun) h = until_stage r r.stage none refl ∙ begun_on r.stage begun ∙ ap (λ l. on_until looks l r) is
      by (inr start) (inl begun) = absurd (subst HasBegun start begun)
      by (inr start) (inr e) = until_started st rest r false none start is e

  -- ---- by statements that are passed

  here : (r : Run) → StandsAtLook looks r → MeetsLook looks r
  here r x = record { at = r; count = 0; passed = refl; stands = x; stops = until_look r x }

  pub until_over : (k l : List Stated) (r : Run) → goes_until looks k (with_rest l r) ≡ goes_until looks k r
  until_over [] l r = refl
  until_over (st ∷ k) l r = refl

  behind : (st : Stated) (rest : List Stated) (r next : Run) → r.ending ≡ None → r.rest ≡ st ∷ rest → turn st r.stage r ≡ Passes next → MeetsLook looks (with_rest rest next) → MeetsLook looks r
  behind st rest r next none is passes_to x = by (stage_or r.stage) (looks st r) refl
    where
      leaves : Leaves (Passes next)
      leaves = passed_leaves st rest r next none is passes_to

      on : HasBegun r.stage ⊎ (looks st r ≡ false) → MeetsLook looks r
      on h = record {
        at = x.at;
        count = suc x.count;
        passed = ap (λ l. option_and_then (passes x.count) (passed_on l r)) is ∙ ap (λ t. option_and_then (passes x.count) (passed_by rest t)) passes_to ∙ x.passed;
        stands = x.stands;
        stops = until_turn st rest r none is h ∙ ap (turn_until looks rest) passes_to ∙ sym (until_stage (with_rest rest next) Start leaves.1 leaves.0 ∙ until_over rest rest next) ∙ x.stops;
      }

      by : HasBegun r.stage ⊎ (r.stage ≡ Start) → (b : Bool) → looks st r ≡ b → MeetsLook looks r
      by (inl begun) b e = on (inl begun)
      by (inr start) true e = here r (record { statement = st; behind = rest; rest = is; looks_there = e; stage = start; ending = none })
      by (inr start) false e = on (inr e)

pub looks_are_met : LooksAreMet
looks_are_met looks r run zero none e x = here looks r (subst (StandsAtLook looks) (sym (same_some e)) x)
looks_are_met looks r run (suc count) none e x = by r.rest refl (λ next none' e'. looks_are_met looks next run count none' e' x)
  where
    by : (l : List Stated) → r.rest ≡ l → ((next : Run) → next.ending ≡ None → passes count next ≡ Some run → MeetsLook looks next) → MeetsLook looks r
    by [] is later = let z : None ≡ Some run = sym (ap (λ l. option_and_then (passes count) (passed_on l r)) is) ∙ e in absurd (let bad : ⊥ = cc in bad)
    by (st ∷ rest) is later = turned (turn st r.stage r) refl (sym (ap (λ l. option_and_then (passes count) (passed_on l r)) is) ∙ e)
      where
        turned : (t : Turn) → turn st r.stage r ≡ t → option_and_then (passes count) (passed_by rest t) ≡ Some run → MeetsLook looks r
        turned (Pauses ask next) f e' = let z : None ≡ Some run = e' in absurd (let bad : ⊥ = cc in bad)
        turned (Passes next) f e' = behind looks st rest r next none is f (later (with_rest rest next) (passed_leaves st rest r next none is f).1 e')
        turned (Stops next) f e' = let z : None ≡ Some run = e' in absurd (let bad : ⊥ = cc in bad)

module _ {E J A S : Type 0} (m : Meaning E J A Bay Job Answer) (s : Shows S) (looks : Stated → Run → Bool) where
  pub next_look_is_behind : NextLookIsBehind m s looks
  next_look_is_behind r qs n st more is never x = by x.further
    where
      by : ((stretch m s looks n r qs).script ≡ r) ⊎ ((first : Stated) × (others : List Stated) × (x.front ≡ first ∷ others)) → length (stretch m s looks n r qs).script.rest < length r.rest
      by (inl same) =
          let st_is : x.look.statement ≡ st = head_same x.look.statement st x.look.behind more (sym x.look.rest ∙ ap (λ (y : Run). y.rest) same ∙ is) in
          absurd (let z : true ≡ false = sym x.look.looks_there ∙ ap (looks x.look.statement) same ∙ ap (λ y. looks y r) st_is ∙ never in cc)
      by (inr (first, others, e)) =
          let l : List Stated = (stretch m s looks n r qs).script.rest in
          let long : length r.rest ≡ length (first ∷ others ++ l) = ap length (x.rest ∙ ap (λ k. k ++ l) e) in
          omega (arith, long, length-append others l)
