-- What each step asks.
use Rattle.std.proofs.Common.{◌≡◌, ◌≢◌, ℕ, eqb, true, false, List, [], ◌∷◌, get_or, set, refl, sym, ap, ◌∙◌, subst, inl, inr, ⊎_elim, arith, Option, Some, eq-eqb, ne_eqb}
use mathlib.Core.Logic.{dite}
use mathlib.Core.Option.{some, none}
use native.Mathlib.Decide.{ℕ_discrete}
use lib.ListN.{get_elem?}
use lib.Seq.{set-get_or}
use prog.Atomic.{either}
use Rattle.atomic_table.specs.Table.{State, Me, step, Act, keeps, takes, gives, stepped, rest, Allows, Splits, Joins, opening}
use Rattle.atomic_table.proofs.Lists.{set_again}
use Rattle.fj_queue.specs.declared.view.Agenda.{Agenda}
use Rattle.fj_slot.specs.Serving.{Meaning}
use Rattle.fj_slot.specs.Ledger.{Ledger}
use Rattle.fj_queue.specs.Cell.{progress, submitted, told}
use Rattle.fj_slot.specs.Ledger.{IsSized}
use Rattle.fj_queue.specs.Cell.{IsFor}
use Rattle.fj_queue.specs.declared.view.View.{View}
use Rattle.fj_queue.specs.Rule.{is_live, Now, Fits, SeatIs, HasCell, CellIs, Ruled}
use Rattle.fj_queue.specs.Cell.{stop_code}
use Rattle.fj_queue.specs.Steps.{Mine, turning, took_turn, gave_turn, saw_submissions, saw_progress, saw_tells, saw_stop, took_cell, put_cell}
use Rattle.fj_queue.proofs.Keeps.{at_once, others_fit, moved}

module _ {E J A S T R : Type 0} (m : Meaning E J A S T R) (key : Option (Agenda E T)) where
  abbrev Law : State (Option (Ledger E J A)) (View E T) → Type 0
  Law = Ruled m key

  -- a step at which nothing changes
  unmoved : (s : State (Option (Ledger E J A)) (View E T)) (r : Law s) (i id : ℕ) (v : View E T) → get_elem? s.views id ≡ some v
      → Law record { words = set s.words i (get_or s.words i 0); homes = s.homes; views = set s.views id v }
  unmoved s r i id v at = let P : List ℕ × List (View E T) → Type 0 = λ z. Law record { words = z.0; homes = s.homes; views = z.1 } in
      subst P (λ k. (sym (set-get_or s.words i 0) k, sym (set_again s.views id v at) k)) r

  -- where a seat holds the turn, no other does
  pub alone_in : (n : Now) (id : ℕ) → id ≡ n.holder → (j : ℕ) (u : View E T) → j ≢ id → Fits key n j u → u.holds ≡ true → ⊥
  alone_in n id is j u other f h = other ((f.holds h).1 ∙ sym is)

  -- the cell at home is seen by the holder that does not have it
  pub at_home : (s : State (Option (Ledger E J A)) (View E T)) (r : Law s) (id : ℕ) (v : View E T) → get_elem? s.views id ≡ some v → id ≡ r.now.holder → v.out ≡ false → CellIs m key r.now r.cell
  at_home s r id v at is home = ⊎_elim
      (λ (t : SeatIs s.views r.now.holder HasCell). let same : t.0 ≡ v = at_once s.views id t.0 v (subst (λ k. get_elem? s.views k ≡ some t.0) (sym is) t.1) at in
      let out : v.out ≡ true = sym (ap (λ (z : View E T). z.out) same) ∙ t.2 in cc)
      (λ t. t) r.home

  pub takes_turn : (slots id : ℕ) (me : Mine E J A T) → is_live me.0 ≡ true → Allows Law slots id me 0 (λ x. either (eqb x 0) 1 x) (took_turn (step slots 0 0 1 none) me)
  takes_turn slots id me live s r _ at _ = let v : View E T = me.0 in let x : ℕ = get_or s.words 0 0 in let is : x ≡ r.now.turn = ap (λ ws. get_or ws 0 0) r.words in dite (ℕ_discrete x 0)
      (λ hit. let w : View E T = turning v in let n' : Now = record r.now { turn = 1; holder = id } in let f = r.views id v at in let free : r.now.turn ≡ 0 = sym is ∙ hit in (
        w,
        keeps,
        tt,
        subst (λ b. Law (stepped s 0 (either b 1 x) id me.1 w keeps)) (sym (eq-eqb x 0 hit))
            (moved m key s r id v w n' r.cell (set s.words 0 1) s.homes at (ap (λ ws. set ws 0 1) r.words) r.homes refl (refl, refl, refl)
            record {
              plan = f.plan;
              holds = λ _. (refl, refl, live);
              out = λ _. refl;
              submissions = λ _ k e. cc;
              progress = λ _ k e. cc;
              tells = λ _ k e. cc;
              stop = λ _ k e. cc;
              stopped = f.stopped;
              runs = f.runs;
              sends = f.sends;
              answered = f.answered;
            }
            (others_fit m key r.now n' id (λ j u other g h. let one : r.now.turn ≡ 1 = (g.holds h).0 in absurd (omega arith)) refl (inl (refl, refl)) (inl (refl, refl)) (inl (refl, refl)) (inl (λ l. l)))
            (inr (refl, refl))
            (inl (refl, refl, refl)) r.no_job_behind
            (⊎_elim (λ (t : SeatIs s.views r.now.holder HasCell). let g = r.views r.now.holder t.0 t.1 in let one : r.now.turn ≡ 1 = (g.holds (g.out t.2)).0 in absurd (omega arith)) (λ t. inr t) r.home)),
        ((λ _. refl), λ not. absurd (not hit)),
      ))
      (λ miss. (
        v,
        keeps,
        tt,
        subst (λ b. Law (stepped s 0 (either b 1 x) id me.1 v keeps)) (sym (ne_eqb x 0 miss)) (unmoved s r 0 id v at),
        ((λ hit. absurd (miss hit)), λ _. refl),
      ))

  pub gives_turn : (slots id : ℕ) (me : Mine E J A T) → me.0.holds ≡ true → me.0.out ≡ false → Allows Law slots id me 0 (λ _. 0) (gave_turn (step slots 0 0 0 none) me)
  gives_turn slots id me holds home s r _ at _ = let v : View E T = me.0 in let w : View E T = record v { holds = false } in let n' : Now = record r.now { turn = 0 } in let f = r.views id v at in let h = f.holds holds in (
    w,
    keeps,
    tt,
    moved m key s r id v w n' r.cell (set s.words 0 0) s.homes at (ap (λ ws. set ws 0 0) r.words) r.homes refl (refl, refl, refl)
        record {
          plan = f.plan;
          holds = λ z. cc;
          out = λ z. cc;
          submissions = λ z. cc;
          progress = λ z. cc;
          tells = λ z. cc;
          stop = λ z. cc;
          stopped = f.stopped;
          runs = f.runs;
          sends = f.sends;
          answered = f.answered;
        }
        (others_fit m key r.now n' id (alone_in r.now id h.1) refl (inl (refl, refl)) (inl (refl, refl)) (inl (refl, refl)) (inl (λ l. l)))
        (inl refl)
        (inl (refl, refl, refl)) r.no_job_behind
        (inr (at_home s r id v at h.1 home)),
    refl,
  )

  -- a holder's step at which only its view changes, and not what it has
  looks : (s : State (Option (Ledger E J A)) (View E T)) (r : Law s) (i id : ℕ) (v w : View E T) → get_elem? s.views id ≡ some v → id ≡ r.now.holder → (w.sends ≡ v.sends) × (w.works ≡ v.works) × (w.hands ≡ v.hands)
      → w.holds ≡ true → w.runs ≡ v.runs → w.out ≡ v.out → Fits key r.now id w → Law record { words = set s.words i (get_or s.words i 0); homes = s.homes; views = set s.views id w }
  looks s r i id v w at is same holds runs out mine = subst (λ ws. Law record { words = ws; homes = s.homes; views = set s.views id w }) (sym (set-get_or s.words i 0))
      (moved m key s r id v w r.now r.cell s.words s.homes at r.words r.homes refl same mine
      (others_fit m key r.now r.now id (alone_in r.now id is) refl (inl (refl, refl)) (inl (refl, refl)) (inl (refl, refl)) (inl (λ l. l)))
      (inr (sym is, holds)) (inl (refl, refl, runs)) r.no_job_behind
      (⊎_elim (λ (t : SeatIs s.views r.now.holder HasCell). let u : t.0 ≡ v = at_once s.views id t.0 v (subst (λ k. get_elem? s.views k ≡ some t.0) (sym is) t.1) at in
      inl (sym is, out ∙ (sym (ap (λ (z : View E T). z.out) u) ∙ t.2))) (λ t. inr t) r.home))

  pub sees_submissions : (slots id : ℕ) (me : Mine E J A T) → me.0.holds ≡ true → Allows Law slots id me 1 (λ n. n) (saw_submissions (step slots 1 0 0 none) me)
  sees_submissions slots id me holds s r _ at _ = let v : View E T = me.0 in let x : ℕ = get_or s.words 1 0 in let is : x ≡ r.now.subs = ap (λ ws. get_or ws 1 0) r.words in
      let w : View E T = record v { submissions = Some x } in let f = r.views id v at in (
        w,
        keeps,
        tt,
        looks s r 1 id v w at (f.holds holds).1 (refl, refl, refl) holds refl refl
            record {
              plan = f.plan;
              holds = f.holds;
              out = f.out;
              submissions = λ _ k e. let same : x ≡ k = cc in sym is ∙ same;
              progress = f.progress;
              tells = f.tells;
              stop = f.stop;
              stopped = f.stopped;
              runs = f.runs;
              sends = f.sends;
              answered = f.answered;
            },
        (refl, λ sends. is ∙ (f.sends sends).1),
      )

  pub sees_progress : (slots id : ℕ) (me : Mine E J A T) → me.0.holds ≡ true → Allows Law slots id me 2 (λ n. n) (saw_progress (step slots 2 0 0 none) me)
  sees_progress slots id me holds s r _ at _ = let v : View E T = me.0 in let x : ℕ = get_or s.words 2 0 in let is : x ≡ r.now.prog = ap (λ ws. get_or ws 2 0) r.words in
      let w : View E T = record v { progress = Some x } in let f = r.views id v at in (
        w,
        keeps,
        tt,
        looks s r 2 id v w at (f.holds holds).1 (refl, refl, refl) holds refl refl
            record {
              plan = f.plan;
              holds = f.holds;
              out = f.out;
              submissions = f.submissions;
              progress = λ _ k e. let same : x ≡ k = cc in sym is ∙ same;
              tells = f.tells;
              stop = f.stop;
              stopped = f.stopped;
              runs = f.runs;
              sends = f.sends;
              answered = f.answered;
            },
        (refl, λ k runs. is ∙ (f.runs k runs).1),
      )

  pub sees_tells : (slots id : ℕ) (me : Mine E J A T) → me.0.holds ≡ true → Allows Law slots id me 3 (λ n. n) (saw_tells (step slots 3 0 0 none) me)
  sees_tells slots id me holds s r _ at _ = let v : View E T = me.0 in let x : ℕ = get_or s.words 3 0 in let is : x ≡ r.now.tells = ap (λ ws. get_or ws 3 0) r.words in
      let w : View E T = record v { tells = Some x } in let f = r.views id v at in (
        w,
        keeps,
        tt,
        looks s r 3 id v w at (f.holds holds).1 (refl, refl, refl) holds refl refl
            record {
              plan = f.plan;
              holds = f.holds;
              out = f.out;
              submissions = f.submissions;
              progress = f.progress;
              tells = λ _ k e. let same : x ≡ k = cc in sym is ∙ same;
              stop = f.stop;
              stopped = f.stopped;
              runs = f.runs;
              sends = f.sends;
              answered = f.answered;
            },
        (refl, λ sends. is ∙ (f.sends sends).2),
      )

  pub takes_cell : (slots id : ℕ) (me : Mine E J A T) → me.0.holds ≡ true → me.0.out ≡ false → Allows Law slots id me 1 (λ n. n) (took_cell m (step slots 1 0 0 none) me)
  takes_cell slots id me holds home s r _ at _ = let v : View E T = me.0 in let w : View E T = record v { out = true } in let f = r.views id v at in let h = f.holds holds in
      let t = at_home s r id v at h.1 home in let c : Ledger E J A = t.0 in let plan = f.plan h.2 in (
        w,
        takes 0 (Some c),
        ap (λ hs. get_elem? hs 0) r.homes ∙ ap (λ z. some z) t.1,
        subst (λ ws. Law record { words = ws; homes = set s.homes 0 none; views = set s.views id w }) (sym (set-get_or s.words 1 0))
            (moved m key s r id v w r.now none s.words (set s.homes 0 none) at r.words (ap (λ hs. set hs 0 none) r.homes) refl (refl, refl, refl)
            record {
              plan = f.plan;
              holds = f.holds;
              out = λ _. holds;
              submissions = f.submissions;
              progress = f.progress;
              tells = f.tells;
              stop = f.stop;
              stopped = f.stopped;
              runs = f.runs;
              sends = f.sends;
              answered = f.answered;
            }
            (others_fit m key r.now r.now id (alone_in r.now id h.1) refl (inl (refl, refl)) (inl (refl, refl)) (inl (refl, refl)) (inl (λ l. l)))
            (inr (sym h.1, holds)) (inl (refl, refl, refl)) r.no_job_behind (inl (sym h.1, refl))),
        (
          c,
          refl,
          t.2.sized,
          subst (λ p. IsFor m p c) (sym plan) t.2.sound,
          record {
            jobs = λ k e. t.2.jobs ∙ f.submissions holds k e;
            progress_is = λ k e. t.2.progress_is ∙ f.progress holds k e;
            told_is = λ k e. t.2.told_is ∙ f.tells holds k e;
            stop = λ k e. t.2.stop ∙ f.stop holds k e;
          },
        ),
      )

  pub puts_cell : (slots id : ℕ) (me : Mine E J A T) (c : Ledger E J A) → me.0.holds ≡ true → me.1 ≡ (0, Some c) ∷ [] → IsSized c → IsFor m me.0.plan c
      → me.0.submissions ≡ Some (submitted c) → me.0.progress ≡ Some (progress c) → me.0.tells ≡ Some (told c) → me.0.stop ≡ Some (stop_code c.halt)
      → Allows Law slots id me 1 (λ n. n) (put_cell (step slots 1 0 0 none) me)
  puts_cell slots id me c holds carried sized sound subs prog tells stop s r _ at _ = let v : View E T = me.0 in let w : View E T = record v { out = false } in let f = r.views id v at in let h = f.holds holds in let plan = f.plan h.2 in (
    w,
    gives,
    tt,
    subst (λ ws. Law record { words = ws; homes = Rattle.atomic_table.specs.Table.put_back s.homes me.1; views = set s.views id w }) (sym (set-get_or s.words 1 0))
        (moved m key s r id v w r.now (some (Some c)) s.words (Rattle.atomic_table.specs.Table.put_back s.homes me.1) at r.words
        (λ i. Rattle.atomic_table.specs.Table.put_back (r.homes i) (carried i)) refl (refl, refl, refl)
        record {
          plan = f.plan;
          holds = f.holds;
          out = λ z. cc;
          submissions = f.submissions;
          progress = f.progress;
          tells = f.tells;
          stop = f.stop;
          stopped = f.stopped;
          runs = f.runs;
          sends = f.sends;
          answered = f.answered;
        }
        (others_fit m key r.now r.now id (alone_in r.now id h.1) refl (inl (refl, refl)) (inl (refl, refl)) (inl (refl, refl)) (inl (λ l. l)))
        (inr (sym h.1, holds)) (inl (refl, refl, refl)) r.no_job_behind
        (inr (
          c,
          refl,
          record {
            sized = sized;
            sound = subst (λ p. IsFor m p c) plan sound;
            jobs = sym (f.submissions holds (submitted c) subs);
            progress_is = sym (f.progress holds (progress c) prog);
            told_is = sym (f.tells holds (told c) tells);
            stop = sym (f.stop holds (stop_code c.halt) stop);
          },
        ))),
    refl,
  )

  pub sees_stop : (slots id : ℕ) (me : Mine E J A T) → me.0.holds ≡ true → Allows Law slots id me 4 (λ n. n) (saw_stop (step slots 4 0 0 none) me)
  sees_stop slots id me holds s r _ at _ = let v : View E T = me.0 in let x : ℕ = get_or s.words 4 0 in let is : x ≡ r.now.stop = ap (λ ws. get_or ws 4 0) r.words in
      let w : View E T = record v { stop = Some x } in let f = r.views id v at in (
        w,
        keeps,
        tt,
        looks s r 4 id v w at (f.holds holds).1 (refl, refl, refl) holds refl refl
            record {
              plan = f.plan;
              holds = f.holds;
              out = f.out;
              submissions = f.submissions;
              progress = f.progress;
              tells = f.tells;
              stop = λ _ k e. let same : x ≡ k = cc in sym is ∙ same;
              stopped = f.stopped;
              runs = f.runs;
              sends = f.sends;
              answered = f.answered;
            },
        (refl, λ k runs. let odd = (f.runs k runs).1 in dite (ℕ_discrete x 0) (λ z. z) (λ z. let h = r.no_job_behind (λ e. z (is ∙ e)) in let h0 = h.0 in absurd (omega arith))),
      )
