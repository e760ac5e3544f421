-- What the steps that count ask, and split, join, start and end.
use Rattle.std.proofs.Common.{IsSome, is_some, ◌≡◌, ◌≢◌, ◌⊎◌, ℕ, zero, suc, ◌+◌, ◌-◌, ◌*◌, ◌%◌, ◌^◌, ◌<◌, ◌≤◌, ◌||◌, Bool, true, false, List, [], ◌∷◌, ◌++◌, get_or, set, refl, sym, ap, ◌∙◌, subst, inl, inr, ⊎_elim, arith, Option, Some, None, if◌then◌else◌}
use mathlib.Core.Logic.{dite}
use mathlib.Core.Option.{some, none, some-injective, some-ne-none}
use native.Mathlib.Decide.{ℕ_discrete}
use lib.ListN.{get_elem?}
use Rattle.atomic_table.specs.Table.{State, step, keeps, Allows, Splits, Joins, opening, Final, Seen}
use Rattle.atomic_table.proofs.Lists.{at_set, set_else, at_snoc, at_longer}
use Rattle.fj_queue.specs.declared.view.Agenda.{Agenda}
use Rattle.fj_outside.specs.declared.errors.Stop.{Stop}
use Rattle.fj_outside.specs.declared.errors.Stop.TheVariants.{Failed, Memory}
use Rattle.fj_slot.specs.Serving.{Meaning}
use Rattle.fj_slot.specs.declared.stop.Halt.{Halt}
use Rattle.fj_slot.specs.Ledger.{Ledger}
use Rattle.fj_queue.specs.Cell.{out_of, stops_of, progress, submitted, told}
use Rattle.fj_slot.specs.Ledger.{IsSized}
use Rattle.fj_queue.specs.Cell.{IsFor}
use Rattle.fj_queue.specs.declared.view.View.{View}
use Rattle.fj_queue.specs.declared.view.Start.{Start}
use Rattle.fj_queue.specs.Rule.{is_live, Now, Fits, hand_count, SeatIs, Holds, HasCell, Runs, Submits, CellIs, Ruled, first_view, hand_view, nobody}
use Rattle.fj_queue.specs.Cell.{stop_code, code_of}
use Rattle.fj_queue.specs.Tokens.{IsLast}
use Rattle.fj_queue.specs.Steps.{Mine, counted_submission, counted_tell, counted_stop, began, ended, set_stop}
use Rattle.fj_queue.proofs.Keeps.{set_there, at_once, one_of, count_set, count_snoc, count_same, seat_after, others_fit, moved}
use Rattle.fj_queue.proofs.Moves.{alone_in}

pub none_some : {X : Type 0} (o : Option X) (x : X) → o ≡ None → o ≡ Some x → ⊥
none_some o x e f = let p : None ≡ Some x = sym e ∙ f in cc

pub false_true : (b : Bool) → b ≡ false → b ≡ true → ⊥
false_true b e f = let p : false ≡ true = sym e ∙ f in cc

abbrev wrap : ℕ → ℕ
wrap n = (n + 1) % 2 ^ 64

-- each stop has a word
pub code_some : (stop : Stop) → code_of stop ≢ 0
code_some Failed z = omega arith
code_some (Memory x) z = omega arith

-- a stop in its word is one in the slot
pub stops_one : (o : Option Halt) → stop_code o ≢ 0 → stops_of o ≡ 1
stops_one None z = absurd (z refl)
stops_one (Some s) z = refl

-- no stop in its word is none in the slot
pub stops_none : (o : Option Halt) → stop_code o ≡ 0 → stops_of o ≡ 0
stops_none None z = refl
stops_none (Some h) z = absurd (code_some h.stop z)

out_even : {E : Type 0} (o : Option E) (n : ℕ) → (2 * n + out_of o) % 2 ≡ 0 → out_of o ≡ 0
out_even None n e = absurd (omega arith)
out_even (Some a) n e = refl

pub is_home : {E J A : Type 0} (c : Ledger E J A) → progress c % 2 ≡ 0 → out_of c.home ≡ 0
is_home c e = out_even c.home (c.done + stops_of c.halt) e

some_home : {E : Type 0} (o : Option E) → out_of o ≡ 0 → is_some o ≡ true
some_home None e = absurd (omega arith)
some_home (Some a) e = refl

module _ {E J A S T R : Type 0} (m : Meaning E J A S T R) (key : Option (Agenda E T)) where
  abbrev Law : State (Option (Ledger E J A)) (View E T) → Type 0
  Law = Ruled m key

  pub counts_submission : (slots id : ℕ) (me : Mine E J A T) → me.0.holds ≡ true → me.0.out ≡ true → me.0.sends ≡ true → me.0.sent < 2 ^ 62
      → Allows Law slots id me 1 (λ n. (n + 1) % 2 ^ 64) (counted_submission (step slots 1 1 0 none) me)
  counts_submission slots id me holds out sends small s r _ at _ = let v : View E T = me.0 in let n : Now = r.now in let n' : Now = record n { subs = n.subs + 1 } in let f = r.views id v at in
      let h = f.holds holds in let mine = f.sends sends in let w : View E T = record v { submissions = Some (v.sent + 1); sent = v.sent + 1 } in let one : wrap n.subs ≡ n.subs + 1 = (let is = mine.1 in omega arith) in (
        w,
        keeps,
        tt,
        moved m key s r id v w n' r.cell (set s.words 1 (wrap (get_or s.words 1 0))) s.homes at (ap (λ ws. set ws 1 (wrap (get_or ws 1 0))) r.words ∙ ap (λ k. n.turn ∷ k ∷ n.prog ∷ n.tells ∷ n.stop ∷ []) one) r.homes refl (refl, refl, refl)
            record {
              plan = f.plan;
              holds = f.holds;
              out = f.out;
              submissions = λ _ k e. let same : v.sent + 1 ≡ k = cc in let is = mine.1 in omega arith;
              progress = f.progress;
              tells = f.tells;
              stop = f.stop;
              runs = f.runs;
              sends = λ z. let g = f.sends z in (g.0, ap (λ k. k + 1) g.1, g.2);
              answered = f.answered;
              stopped = f.stopped;
            }
            (others_fit m key n n' id (alone_in m key n id h.1) refl (inl (refl, refl)) (inr (sym mine.0)) (inl (refl, refl)) (inl (λ l. l)))
            (inr (sym h.1, holds)) (inl (refl, refl, refl)) r.no_job_behind (inl (sym h.1, out)),
        (refl, ap (λ ws. get_or ws 1 0) r.words ∙ mine.1),
      )

  pub counts_tell : (slots id : ℕ) (me : Mine E J A T) (p t : ℕ) → me.0.holds ≡ true → me.0.out ≡ true → me.0.sends ≡ true → me.0.heard < 2 ^ 63 → me.0.progress ≡ Some p → me.0.stop ≡ Some t → (2 * (me.0.heard + 1) ≤ p) × (t ≢ 0 → 2 * (me.0.heard + 1) + 2 ≤ p)
      → Allows Law slots id me 3 (λ n. (n + 1) % 2 ^ 64) (counted_tell (step slots 3 1 0 none) me)
  counts_tell slots id me p t holds out sends small steps seen done s r _ at _ = let v : View E T = me.0 in let n : Now = r.now in let n' : Now = record n { tells = n.tells + 1 } in let f = r.views id v at in
      let h = f.holds holds in let mine = f.sends sends in let w : View E T = record v { tells = Some (v.heard + 1); heard = v.heard + 1 } in let one : wrap n.tells ≡ n.tells + 1 = (let is = mine.2 in omega arith) in (
        w,
        keeps,
        tt,
        moved m key s r id v w n' r.cell (set s.words 3 (wrap (get_or s.words 3 0))) s.homes at (ap (λ ws. set ws 3 (wrap (get_or ws 3 0))) r.words ∙ ap (λ k. n.turn ∷ n.subs ∷ n.prog ∷ k ∷ n.stop ∷ []) one) r.homes refl (refl, refl, refl)
            record {
              plan = f.plan;
              holds = f.holds;
              out = f.out;
              submissions = f.submissions;
              progress = f.progress;
              tells = λ _ k e. let same : v.heard + 1 ≡ k = cc in let is = mine.2 in omega arith;
              stop = f.stop;
              runs = f.runs;
              sends = λ z. let g = f.sends z in (g.0, g.1, ap (λ k. k + 1) g.2);
              answered = λ _ _. let is = mine.2 in let prog = f.progress holds p steps in let at_stop = f.stop holds t seen in
                  (let d = done.0 in omega arith, λ z. let d = done.1 (λ y. z (at_stop ∙ y)) in omega arith);
              stopped = f.stopped;
            }
            (others_fit m key n n' id (alone_in m key n id h.1) refl (inl (refl, refl)) (inr (sym mine.0)) (inl (refl, refl)) (inr (sym mine.0)))
            (inr (sym h.1, holds)) (inl (refl, refl, refl)) r.no_job_behind (inl (sym h.1, out)),
        refl,
      )

  pub counts_stop : (slots id : ℕ) (me : Mine E J A T) (t d : ℕ) → me.0.holds ≡ true → me.0.out ≡ true → me.0.sends ≡ true → me.0.heard < 2 ^ 63 → me.0.stop ≡ Some t → me.0.progress ≡ Some (2 * d + 2)
      → Allows Law slots id me 3 (λ n. (n + 1) % 2 ^ 64) (counted_stop (step slots 3 1 0 none) me)
  counts_stop slots id me t d holds out sends small seen at_stop s r _ at _ = let v : View E T = me.0 in let n : Now = r.now in let n' : Now = record n { tells = n.tells + 1 } in let f = r.views id v at in
      let h = f.holds holds in let mine = f.sends sends in let w : View E T = record v { tells = Some (v.heard + 1); heard = v.heard + 1; answered = false; stopped = t; stopped_at = d } in let one : wrap n.tells ≡ n.tells + 1 = (let is = mine.2 in omega arith) in (
        w,
        keeps,
        tt,
        moved m key s r id v w n' r.cell (set s.words 3 (wrap (get_or s.words 3 0))) s.homes at (ap (λ ws. set ws 3 (wrap (get_or ws 3 0))) r.words ∙ ap (λ k. n.turn ∷ n.subs ∷ n.prog ∷ k ∷ n.stop ∷ []) one) r.homes refl (refl, refl, refl)
            record {
              plan = f.plan;
              holds = f.holds;
              out = f.out;
              submissions = f.submissions;
              progress = f.progress;
              tells = λ _ k e. let same : v.heard + 1 ≡ k = cc in let is = mine.2 in omega arith;
              stop = f.stop;
              runs = f.runs;
              sends = λ z. let g = f.sends z in (g.0, g.1, ap (λ k. k + 1) g.2);
              answered = λ _ a. absurd (cc);
              stopped = λ _. (f.stop holds t seen, f.progress holds (2 * d + 2) at_stop);
            }
            (others_fit m key n n' id (alone_in m key n id h.1) refl (inl (refl, refl)) (inr (sym mine.0)) (inl (refl, refl)) (inr (sym mine.0)))
            (inr (sym h.1, holds)) (inl (refl, refl, refl)) r.no_job_behind (inl (sym h.1, out)),
        λ t' d' e e'. let one' : t ≡ t' = cc in let two : 2 * d + 2 ≡ 2 * d' + 2 = cc in let same : d ≡ d' = omega arith in (
          λ i. (record v { tells = Some (v.heard + 1); heard = v.heard + 1; answered = false; stopped = one' i; stopped_at = same i }, me.1),
          λ a z. let l = (f.answered sends a).1 (λ y. z (sym (f.stop holds t' e) ∙ y)) in let prog = f.progress holds (2 * d' + 2) e' in let tells = mine.2 in omega arith,
        ),
      )

  -- where no stop is seen, no view was told one
  not_stopped : (n : Now) (j : ℕ) (v : View E T) → Fits key n j v → n.stop ≡ 0 → (n' : Now) → v.stopped ≢ 0 → (n'.stop ≡ v.stopped) × (n'.prog ≡ 2 * v.stopped_at + 2)
  not_stopped n j v f none_yet n' z = absurd (z (sym (f.stopped z).0 ∙ none_yet))

  pub begins_job : (slots id : ℕ) (me : Mine E J A T) (k : ℕ) → me.0.holds ≡ true → me.0.out ≡ true → me.0.progress ≡ Some (2 * k) → me.0.stop ≡ Some 0 → k < 2 ^ 62
      → Allows Law slots id me 2 (λ n. (n + 1) % 2 ^ 64) (began (step slots 2 1 0 none) me)
  begins_job slots id me k holds out seen going small s r _ at _ = let v : View E T = me.0 in let n : Now = r.now in let n' : Now = record n { prog = 2 * k + 1; runner = id } in let f = r.views id v at in
      let h = f.holds holds in let even : n.prog ≡ 2 * k = f.progress holds (2 * k) seen in let on : n.stop ≡ 0 = f.stop holds 0 going in
      let w : View E T = record v { runs = Some k; progress = Some (2 * k + 1) } in let one : wrap n.prog ≡ 2 * k + 1 = omega arith in (
        w,
        keeps,
        tt,
        moved m key s r id v w n' r.cell (set s.words 2 (wrap (get_or s.words 2 0))) s.homes at (ap (λ ws. set ws 2 (wrap (get_or ws 2 0))) r.words ∙ ap (λ p. n.turn ∷ n.subs ∷ p ∷ n.tells ∷ n.stop ∷ []) one) r.homes refl (refl, refl, refl)
            record {
              plan = f.plan;
              holds = f.holds;
              out = f.out;
              submissions = f.submissions;
              progress = λ _ p e. cc;
              tells = f.tells;
              stop = f.stop;
              runs = λ p e. let same : k ≡ p = cc in (refl, ap (λ q. 2 * q + 1) same, h.2);
              sends = f.sends;
              answered = λ s' a. let l = f.answered s' a in (let l0 = l.0 in omega arith, λ z. absurd (z on));
              stopped = not_stopped n id v f on n';
            }
            (others_fit m key n n' id (alone_in m key n id h.1) refl (inr (λ j p other is odd. absurd (omega arith))) (inl (refl, refl)) (inr on) (inl (λ l. (let l0 = l.0 in omega arith, λ z. absurd (z on)))))
            (inr (sym h.1, holds)) (inr (λ _. (refl, (k, refl)))) (λ z. absurd (z on)) (inl (sym h.1, out)),
        λ p e. let same : 2 * k ≡ 2 * p = cc in let is : k ≡ p = omega arith in ap (λ q. let z : Mine E J A T = (record v { runs = Some q; progress = Some (2 * q + 1) }, me.1) in z) is,
      )

  pub ends_job : (slots id : ℕ) (me : Mine E J A T) (k : ℕ) → me.0.holds ≡ true → me.0.out ≡ true → me.0.runs ≡ Some k → k < 2 ^ 62
      → Allows Law slots id me 2 (λ n. (n + 1) % 2 ^ 64) (ended (step slots 2 1 0 none) me)
  ends_job slots id me k holds out runs small s r _ at _ = let v : View E T = me.0 in let n : Now = r.now in let n' : Now = record n { prog = 2 * k + 2 } in let f = r.views id v at in
      let h = f.holds holds in let g = f.runs k runs in let odd : n.prog ≡ 2 * k + 1 = g.1 in
      let on : n.stop ≡ 0 = dite (ℕ_discrete n.stop 0) (λ z. z) (λ z. let e = r.no_job_behind z in let e0 = e.0 in absurd (omega arith)) in
      let w : View E T = record v { runs = None; ended = v.ended + 1; progress = Some (2 * k + 2) } in let one : wrap n.prog ≡ 2 * k + 2 = omega arith in (
        w,
        keeps,
        tt,
        moved m key s r id v w n' r.cell (set s.words 2 (wrap (get_or s.words 2 0))) s.homes at (ap (λ ws. set ws 2 (wrap (get_or ws 2 0))) r.words ∙ ap (λ p. n.turn ∷ n.subs ∷ p ∷ n.tells ∷ n.stop ∷ []) one) r.homes refl (refl, refl, refl)
            record {
              plan = f.plan;
              holds = f.holds;
              out = f.out;
              submissions = f.submissions;
              progress = λ _ p e. cc;
              tells = f.tells;
              stop = f.stop;
              runs = λ p e. cc;
              sends = f.sends;
              answered = λ s' a. let l = f.answered s' a in (let l0 = l.0 in omega arith, λ z. absurd (z on));
              stopped = not_stopped n id v f on n';
            }
            (others_fit m key n n' id (alone_in m key n id h.1) refl (inr (λ j p other is _. absurd (other (is ∙ sym g.0)))) (inl (refl, refl)) (inr on) (inl (λ l. (let l0 = l.0 in omega arith, λ z. absurd (z on)))))
            (inr (sym h.1, holds)) (inr (λ z. absurd (omega arith))) (λ z. absurd (z on)) (inl (sym h.1, out)),
        λ p e. let is : k ≡ p = cc in ap (λ q. let z : Mine E J A T = (record v { runs = None; ended = v.ended + 1; progress = Some (2 * q + 2) }, me.1) in z) is,
      )

  pub sets_stop : (slots id : ℕ) (me : Mine E J A T) (k d t : ℕ) → me.0.holds ≡ true → me.0.out ≡ true → me.0.progress ≡ Some (2 * d + 2) → me.0.stop ≡ Some 0 → me.0.tells ≡ Some t → t ≤ d
      → Allows Law slots id me 4 (λ _. k) (set_stop (step slots 4 k 0 none) me)
  sets_stop slots id me k d t holds out seen going told le s r _ at _ = let v : View E T = me.0 in let n : Now = r.now in let n' : Now = record n { stop = k } in let f = r.views id v at in
      let h = f.holds holds in let even : n.prog ≡ 2 * d + 2 = f.progress holds (2 * d + 2) seen in let on : n.stop ≡ 0 = f.stop holds 0 going in
      let tells : n.tells ≡ t = f.tells holds t told in let w : View E T = record v { stop = Some k } in (
        w,
        keeps,
        tt,
        moved m key s r id v w n' r.cell (set s.words 4 k) s.homes at (ap (λ ws. set ws 4 k) r.words) r.homes refl (refl, refl, refl)
            record {
              plan = f.plan;
              holds = f.holds;
              out = f.out;
              submissions = f.submissions;
              progress = f.progress;
              tells = f.tells;
              stop = λ _ p e. cc;
              runs = f.runs;
              sends = f.sends;
              answered = λ s' a. ((f.answered s' a).0, λ _. omega arith);
              stopped = not_stopped n id v f on n';
            }
            (others_fit m key n n' id (alone_in m key n id h.1) refl (inl (refl, refl)) (inl (refl, refl)) (inr on) (inl (λ l. (l.0, λ _. omega arith))))
            (inr (sym h.1, holds)) (inl (refl, refl, refl)) (λ _. (omega arith, omega arith)) (inl (sym h.1, out)),
        refl,
      )

  -- the submitter's own view, at its seat
  at_sender : (s : State (Option (Ledger E J A)) (View E T)) (r : Law s) (id : ℕ) (v : View E T) → get_elem? s.views id ≡ some v → v.sends ≡ true → (id ≡ r.now.sender) × (v.works ≡ false) × (v.hands ≡ hand_count s.views)
  at_sender s r id v at sends = let is = ((r.views id v at).sends sends).0 in let t = r.submitter in
      let same : t.0 ≡ v = at_once s.views id t.0 v (subst (λ k. get_elem? s.views k ≡ some t.0) (sym is) t.1) at in
      let u = subst (Submits (hand_count s.views)) same t.2 in (is, u.1, u.2)

  longer : (vs : List (View E T)) (w : View E T) (i : ℕ) (P : View E T → Type 0) → SeatIs vs i P → SeatIs (vs ++ w ∷ []) i P
  longer vs w i P t = (t.0, at_longer vs (w ∷ []) i t.0 t.1, t.2)

  idle_fits : (n : Now) (j : ℕ) (v : View E T) → v.plan ≡ key → v.stopped ≡ 0 → v.holds ≡ false → v.out ≡ false → v.runs ≡ None → v.sends ≡ false → Fits key n j v
  idle_fits n j v plan told_none holds out runs sends = record {
    plan = λ _. plan;
    holds = λ z. cc;
    out = λ z. cc;
    submissions = λ z. cc;
    progress = λ z. cc;
    tells = λ z. cc;
    stop = λ z. cc;
    stopped = λ z. absurd (z told_none);
    runs = λ k e. cc;
    sends = λ z. cc;
    answered = λ z a. cc;
  }

  pub splits : (id : ℕ) (v : View E T) → v.sends ≡ true → Splits Law id v (record v { hands = v.hands + 1 }) (hand_view v.plan)
  splits id v sends s r at = let w : View E T = record v { hands = v.hands + 1 } in let o : View E T = hand_view v.plan in let vs : List (View E T) = set s.views id w in let f = r.views id v at in
      let t = at_sender s r id v at sends in let plan : v.plan ≡ key = f.plan (ap (λ b. b || v.works) sends) in
      let count : hand_count (vs ++ o ∷ []) ≡ hand_count s.views + 1 = count_snoc vs o ∙ ap (λ k. k + 1) (count_same s.views id v w at refl) in record {
        now = r.now;
        cell = r.cell;
        words = r.words;
        homes = r.homes;
        views = λ j u e. ⊎_elim
            (λ (e' : get_elem? vs j ≡ some u). ⊎_elim
            (λ (z : (j ≡ id) × (w ≡ u)). subst (λ (y : ℕ × View E T). Fits key r.now y.0 y.1) (λ i. (sym z.0 i, z.1 i))
            record { plan = f.plan; holds = f.holds; out = f.out; submissions = f.submissions; progress = f.progress; tells = f.tells; stop = f.stop; runs = f.runs; sends = f.sends; answered = f.answered; stopped = f.stopped })
            (λ (z : (j ≢ id) × (get_elem? s.views j ≡ some u)). r.views j u z.1) (at_set s.views id j w u e'))
            (λ (z : o ≡ u). subst (Fits key r.now j) z (idle_fits r.now j o plan refl refl refl refl refl)) (at_snoc vs o u j e);
        held = ⊎_elim (λ z. inl z) (λ z. inr (longer vs o r.now.holder Holds (seat_after s.views id r.now.holder v w Holds Holds at (λ h. h) (λ u h. h) z))) r.held;
        run = λ odd. longer vs o r.now.runner Runs (seat_after s.views id r.now.runner v w Runs Runs at (λ h. h) (λ u h. h) (r.run odd));
        no_job_behind = r.no_job_behind;
        home = ⊎_elim (λ z. inl (longer vs o r.now.holder HasCell (seat_after s.views id r.now.holder v w HasCell HasCell at (λ h. h) (λ u h. h) z))) (λ z. inr z) r.home;
        submitter = longer vs o r.now.sender (Submits (hand_count (vs ++ o ∷ []))) (w, subst (λ k. get_elem? vs k ≡ some w) t.0 (set_there s.views id w v at), (sends, t.1, ap (λ k. k + 1) t.2 ∙ sym count));
      }

  pub joins : (id : ℕ) (v : View E T) (other : ℕ) (h : View E T) → v.sends ≡ true → h.works ≡ true → h.holds ≡ false → h.out ≡ false → h.runs ≡ None
      → Joins Law id v other h (record v { hands = v.hands - 1 }) nobody
  joins id v other h sends works rests home idle s r at apart there = let w : View E T = record v { hands = v.hands - 1 } in let vs : List (View E T) = set s.views id w in let ws : List (View E T) = set vs other nobody in let f = r.views id v at in
      let t = at_sender s r id v at sends in
      let one : one_of h ≡ 1 = ap (λ b. if b then 1 else 0) works in
      let count : hand_count ws + 1 ≡ hand_count s.views = (let a = count_set vs other h nobody there in let b = count_same s.views id v w at refl in omega arith) in record {
        now = r.now;
        cell = r.cell;
        words = r.words;
        homes = r.homes;
        views = λ j u e. ⊎_elim
            (λ (z : (j ≡ other) × (nobody ≡ u)). subst (Fits key r.now j) z.1
            record { plan = λ y. cc; holds = λ y. cc; out = λ y. cc; submissions = λ y. cc; progress = λ y. cc; tells = λ y. cc; stop = λ y. cc; runs = λ k y. cc; sends = λ y. cc; answered = λ y a. cc; stopped = λ y. absurd (y refl) })
            (λ (y : (j ≢ other) × (get_elem? vs j ≡ some u)). ⊎_elim
            (λ (z : (j ≡ id) × (w ≡ u)). subst (λ (y : ℕ × View E T). Fits key r.now y.0 y.1) (λ i. (sym z.0 i, z.1 i))
            record { plan = f.plan; holds = f.holds; out = f.out; submissions = f.submissions; progress = f.progress; tells = f.tells; stop = f.stop; runs = f.runs; sends = f.sends; answered = f.answered; stopped = f.stopped })
            (λ (z : (j ≢ id) × (get_elem? s.views j ≡ some u)). r.views j u z.1) (at_set s.views id j w u y.1))
            (at_set vs other j nobody u e);
        held = ⊎_elim (λ z. inl z) (λ z. inr (seat_after vs other r.now.holder h nobody Holds Holds there (λ y. cc) (λ u y. y) (seat_after s.views id r.now.holder v w Holds Holds at (λ y. y) (λ u y. y) z))) r.held;
        run = λ odd. seat_after vs other r.now.runner h nobody Runs Runs there (λ y. let no : None ≡ Some y.0 = sym idle ∙ y.1 in cc) (λ u y. y) (seat_after s.views id r.now.runner v w Runs Runs at (λ y. y) (λ u y. y) (r.run odd));
        no_job_behind = r.no_job_behind;
        home = ⊎_elim (λ z. inl (seat_after vs other r.now.holder h nobody HasCell HasCell there (λ y. cc) (λ u y. y) (seat_after s.views id r.now.holder v w HasCell HasCell at (λ y. y) (λ u y. y) z))) (λ z. inr z) r.home;
        submitter = (
          w,
          set_else vs other r.now.sender nobody (λ e. apart (sym e ∙ sym t.0)) ∙ subst (λ k. get_elem? vs k ≡ some w) t.0 (set_there s.views id w v at),
          (sends, t.1, let is = t.2 in omega arith),
        );
      }

  -- a queue begins with a slot of which no job is out
  pub starts : (start : Start E T) (c : Ledger E J A) → start.plan.value ≡ key → IsSized c → IsFor m key c → submitted c ≡ start.sent → told c ≡ start.heard → (start.answered ≡ true → told c ≤ c.done) → progress c % 2 ≡ 0
      → Law (opening (0 ∷ submitted c ∷ progress c ∷ told c ∷ stop_code c.halt ∷ []) (Some c ∷ []) (first_view start))
  starts start c plan sized sound sent heard answered even = let n : Now = record { turn = 0; subs = submitted c; prog = progress c; tells = told c; stop = stop_code c.halt; holder = 0; sender = 0; runner = 0 } in record {
    now = n;
    cell = some (Some c);
    words = refl;
    homes = refl;
    views = λ j u e. ⊎_elim
        (λ (z : (j ≡ 0) × (first_view start ≡ u)). subst (λ (y : ℕ × View E T). Fits key n y.0 y.1) (λ i. (sym z.0 i, z.1 i)) record {
          plan = λ _. plan;
          holds = λ y. cc;
          out = λ y. cc;
          submissions = λ y. cc;
          progress = λ y. cc;
          tells = λ y. cc;
          stop = λ y. cc;
          runs = λ k y. cc;
          sends = λ _. (refl, sent, heard);
          answered = λ _ a. let le = answered a in (omega arith, λ z. let w = stops_one c.halt z in omega arith);
          stopped = λ y. absurd (y refl);
        })
        (λ (z : (j ≢ 0) × (get_elem? (first_view start ∷ []) j ≡ some u)). absurd (beyond j u z.0 z.1)) (at_set (first_view start ∷ []) 0 j (first_view start) u e);
    held = inl refl;
    run = λ odd. absurd (omega arith);
    no_job_behind = λ z. (even, (let w = stops_one c.halt z in omega arith));
    home = inr (c, refl, record { sized = sized; sound = sound; jobs = refl; progress_is = refl; told_is = refl; stop = refl });
    submitter = (first_view start, refl, (refl, refl, refl));
  }
    where
      beyond : (j : ℕ) (u : View E T) → j ≢ 0 → get_elem? (first_view start ∷ []) j ≡ some u → ⊥
      beyond zero u other e = other refl
      beyond (suc j) u other e = some-ne-none u (sym e)

  no_hand : (vs : List (View E T)) (i : ℕ) (u : View E T) → hand_count vs ≡ 0 → get_elem? vs i ≡ some u → u.works ≡ true → ⊥
  no_hand [] i u zero_left e works = some-ne-none u (sym e)
  no_hand (x ∷ xs) zero u zero_left e works = let one : one_of x ≡ 1 = ap one_of (some-injective x u e) ∙ ap (λ b. if b then 1 else 0) works in omega arith
  no_hand (x ∷ xs) (suc i) u zero_left e works = no_hand xs i u (omega arith) e works

  either_of : (a b : Bool) → (a || b) ≡ true → (a ≡ true) ⊎ (b ≡ true)
  either_of true b e = inl refl
  either_of false b e = inr e

  -- with no hand left, what a live view is is the submitter's
  last_one : (s : State (Option (Ledger E J A)) (View E T)) (r : Law s) (id : ℕ) (v : View E T) → get_elem? s.views id ≡ some v → v.sends ≡ true → v.hands ≡ 0 → (i : ℕ) (u : View E T) → get_elem? s.views i ≡ some u → is_live u ≡ true → u ≡ v
  last_one s r id v at sends zero_left i u e live = let t = at_sender s r id v at sends in ⊎_elim
      (λ z. let is = ((r.views i u e).sends z).0 in at_once s.views id u v (subst (λ k. get_elem? s.views k ≡ some u) (is ∙ sym t.0) e) at)
      (λ z. absurd (no_hand s.views i u (sym t.2 ∙ zero_left) e z)) (either_of u.sends u.works live)

  pub ends : (s : State (Option (Ledger E J A)) (View E T)) (r : Law s) (id : ℕ) (v : View E T) → get_elem? s.views id ≡ some v → v.sends ≡ true → v.hands ≡ 0 → v.holds ≡ false → v.runs ≡ None
      → (c : Ledger E J A) × (get_elem? s.homes 0 ≡ some (some (Some c))) × IsLast m v c
  ends s r id v at sends zero_left rests idle = let f = r.views id v at in let mine = f.sends sends in let only = last_one s r id v at sends zero_left in
      let t : CellIs m key r.now r.cell = ⊎_elim
      (λ (z : SeatIs s.views r.now.holder HasCell). let g = r.views r.now.holder z.0 z.1 in let h = g.out z.2 in let same : z.0 ≡ v = only r.now.holder z.0 z.1 (g.holds h).2 in
      let holds : v.holds ≡ true = sym (ap (λ (y : View E T). y.holds) same) ∙ h in absurd (false_true v.holds rests holds))
      (λ z. z) r.home in
      let even : r.now.prog % 2 ≡ 0 = dite (ℕ_discrete (r.now.prog % 2) 0) (λ z. z) (λ z. let w = r.run (omega arith) in let g = r.views r.now.runner w.0 w.1 in
      let same : w.0 ≡ v = only r.now.runner w.0 w.1 (g.runs w.2.0 w.2.1).2 in let runs : v.runs ≡ Some w.2.0 = sym (ap (λ (y : View E T). y.runs) same) ∙ w.2.1 in absurd (none_some v.runs w.2.0 idle runs)) in (
        t.0,
        ap (λ hs. get_elem? hs 0) r.homes ∙ ap some t.1,
        record {
          sized = t.2.sized;
          sound = subst (λ p. IsFor m p t.0) (sym (f.plan (ap (λ b. b || v.works) sends))) t.2.sound;
          jobs = t.2.jobs ∙ mine.1;
          told_is = t.2.told_is ∙ mine.2;
          home = some_home t.0.home (is_home t.0 (ap (λ k. k % 2) t.2.progress_is ∙ even));
          answered = λ a. let l = f.answered sends a in let l0 = l.0 in let tells = t.2.told_is in let prog = t.2.progress_is in let home = is_home t.0 (ap (λ k. k % 2) prog ∙ even) in
              dite (ℕ_discrete (stop_code t.0.halt) 0)
              (λ z. let none_set = stops_none t.0.halt z in omega arith)
              (λ z. let l1 = l.1 (λ y. z (t.2.stop ∙ y)) in let one = stops_one t.0.halt z in omega arith);
          stopped = λ z. let g = f.stopped z in let code = t.2.stop in let prog = t.2.progress_is in
              let one = stops_one t.0.halt (λ e. z (sym g.0 ∙ (sym code ∙ e))) in let home = is_home t.0 (ap (λ k. k % 2) prog ∙ even) in
              (code ∙ g.0, let p = g.1 in omega arith);
        },
      )

  pub closes : (id : ℕ) (v : View E T) (ws : List ℕ) (xs : List (Option (Ledger E J A))) (x : Option (Ledger E J A)) → Final (Seen Law id v) ws xs → v.sends ≡ true → v.hands ≡ 0 → v.holds ≡ false → v.runs ≡ None → get_elem? xs 0 ≡ some x
      → (c : Ledger E J A) × (x ≡ Some c) × IsLast m v c
  closes id v ws xs x f sends hands rests idle at = let t = ends f.0 f.1.0 id v f.1.1 sends hands rests idle in (t.0, some-injective x (Some t.0) (sym at ∙ f.4 0 (Some t.0) t.1), t.2)

pub last_is : {E J A S T R : Type 0} (m : Meaning E J A S T R) (v : View E T) (x : Option (Ledger E J A)) (d : Ledger E J A) → ((c : Ledger E J A) × (x ≡ Some c) × IsLast m v c) → x ≡ Some d → IsLast m v d
last_is m v x d t e = let same : t.0 ≡ d = (let p : Some t.0 ≡ Some d = sym t.1 ∙ e in cc) in subst (IsLast m v) same t.2

-- the same with the numbers as they were read
pub opens : {E J A S T R : Type 0} (m : Meaning E J A S T R) (plan : Option (Agenda E T)) (c : Ledger E J A) (about : Start E T) (a b d h : ℕ) (xs : List (Option (Ledger E J A))) → about.plan.value ≡ plan → a ≡ about.sent → d ≡ about.heard → a ≡ submitted c → d ≡ told c → b ≡ progress c
    → h ≡ stop_code c.halt → xs ≡ Some c ∷ [] → IsSized c → IsFor m plan c → (about.answered ≡ true → told c ≤ c.done) → progress c % 2 ≡ 0 → Ruled m about.plan.value (opening (0 ∷ a ∷ b ∷ d ∷ h ∷ []) xs (first_view about))
opens {E} {J} {A} {T} m plan c about a b d h xs is sent heard jobs told_is prog code cell sized sound answered even = let P : ℕ × ℕ × ℕ × ℕ × List (Option (Ledger E J A)) → Type 0 = λ z. Ruled m about.plan.value (opening (0 ∷ z.0 ∷ z.1 ∷ z.2 ∷ z.3 ∷ []) z.4 (first_view about)) in
    subst P (λ i. (sym jobs i, sym prog i, sym told_is i, sym code i, sym cell i)) (starts m about.plan.value about c refl sized (subst (λ p. IsFor m p c) (sym is) sound) (sym jobs ∙ sent) (sym told_is ∙ heard) answered even)

pub some_is : {E J A S T R : Type 0} (m : Meaning E J A S T R) (v : View E T) (x : Option (Ledger E J A)) → ((c : Ledger E J A) × (x ≡ Some c) × IsLast m v c) → IsSome x
some_is m v x t = subst (λ o. IsSome o) (sym t.1) refl
