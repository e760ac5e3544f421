-- What the runner that stops at looks comes to, statement by statement.
use Rattle.std.proofs.Common.{◌≡◌, Bool, true, false, List, [], ◌∷◌, None, is_some, refl, sym, ap, ◌∙◌, inl}
use Rattle.std.specs.Prelude.{if◌then◌else◌}
use Rattle.fj_world.specs.declared.ask.Ask.TheVariants.{Finished}
use Rattle.fj_meaning.specs.Statement.{Stated}
use Rattle.fj_meaning_turns.specs.Run.{Stage, Start, Waiting, Acting, Awaiting, Run}
use Rattle.fj_meaning_turns.specs.Turns.{turn_start, turn}
use Rattle.fj_meaning_looks.specs.Inquiring.{look_due}
use Rattle.fj_meaning_looks.specs.Looking.{goes_until, turn_until, on_until, stage_until, asked_until}
use Rattle.fj_meaning_looks.specs.Stretches.{with_rest}
use Rattle.fj_meaning_looks.proofs.Coming.{by_look, on_turn_is}
use Rattle.fj_meaning_looks.proofs.Meeting.{until_stage, until_turn}
use Rattle.fj_meaning_looks.proofs.Rests.{HasBegun}

module _ (looks : Stated → Run → Bool) where
  -- a statement that does not look is executed
  pub goes_turn : (st : Stated) (more : List Stated) (r : Run) → r.rest ≡ st ∷ more → look_due looks r.rest r ≡ false → goes_until looks r.rest r ≡ turn_until looks more (turn_start st r)
  goes_turn st more r is none =
      let here : with_rest (st ∷ more) r ≡ r = ap (λ l. with_rest l r) (sym is) in
      let still : looks st r ≡ false = ap (λ l. look_due looks l r) (sym is) ∙ none in
      ap (λ l. goes_until looks l r) is ∙ by_look looks st more r false (ap (looks st) here ∙ still) ∙ on_turn_is looks more (turn_start st (with_rest (st ∷ more) r))
      ∙ ap (λ y. turn_until looks more (turn_start st y)) here

  -- at one that looks it stops
  pub goes_stops : (r : Run) → look_due looks r.rest r ≡ true → goes_until looks r.rest r ≡ record { ask = Finished; run = r }
  goes_stops r due = by r.rest refl due
    where
      by : (l : List Stated) → r.rest ≡ l → look_due looks l r ≡ true → goes_until looks l r ≡ record { ask = Finished; run = r }
      by [] is due = let bad : false ≡ true = due in absurd (let z : ⊥ = cc in z)
      by (st ∷ more) is due =
          let here : with_rest (st ∷ more) r ≡ r = ap (λ l. with_rest l r) (sym is) in
          by_look looks st more r true (ap (looks st) here ∙ due) ∙ ap (λ y. record { ask = Finished; run = y }) here

  -- where a statement is to begin
  pub asked_start : (r : Run) → r.ending ≡ None → r.stage ≡ Start → asked_until looks r ≡ goes_until looks r.rest r
  asked_start r none start = until_stage looks r Start none start

  -- and where it has begun
  pub asked_begun : (st : Stated) (more : List Stated) (r : Run) → r.ending ≡ None → r.rest ≡ st ∷ more → HasBegun r.stage → asked_until looks r ≡ turn_until looks more (turn st r.stage r)
  asked_begun st more r none is begun = until_turn looks st more r none is (inl begun)

  pub asked_over : (r : Run) → is_some r.ending ≡ true → asked_until looks r ≡ record { ask = Finished; run = r }
  asked_over r over = ap (λ b. if b then record { ask = Finished; run = r } else stage_until looks r.stage r) over

  -- nothing is left
  stage_none : (stage : Stage) (r : Run) → r.rest ≡ [] → stage_until looks stage r ≡ record { ask = Finished; run = r }
  stage_none Start r is = ap (λ l. goes_until looks l r) is ∙ ap (λ l. record { ask = Finished; run = with_rest l r }) (sym is)
  stage_none Waiting r is = ap (λ l. on_until looks l r) is
  stage_none (Acting d) r is = ap (λ l. on_until looks l r) is
  stage_none (Awaiting slot number next) r is = ap (λ l. on_until looks l r) is

  pub asked_none : (r : Run) → r.ending ≡ None → r.rest ≡ [] → asked_until looks r ≡ record { ask = Finished; run = r }
  asked_none r none is = ap (λ o. if is_some o then record { ask = Finished; run = r } else stage_until looks r.stage r) none ∙ stage_none r.stage r is
