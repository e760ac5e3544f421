-- A step of one seat keeps the rule.
use Rattle.std.proofs.Common.{◌≡◌, ◌≢◌, ◌⊎◌, ℕ, zero, suc, ◌+◌, ◌*◌, ◌%◌, ◌<◌, true, List, [], ◌∷◌, ◌++◌, set, refl, sym, ap, ◌∙◌, subst, inl, inr, ⊎_elim, arith, Option, if◌then◌else◌}
use mathlib.Core.Logic.{dite}
use mathlib.Core.Option.{some, none, some-injective, some-ne-none}
use mathlib.Core.Option as maybe
use native.Mathlib.Decide.{ℕ_discrete}
use lib.ListN.{get_elem?}
use Rattle.atomic_table.specs.Table.{State}
use Rattle.atomic_table.proofs.Lists.{at_set, set_else}
use Rattle.fj_queue.specs.declared.view.Agenda.{Agenda}
use Rattle.fj_slot.specs.Serving.{Meaning}
use Rattle.fj_slot.specs.Ledger.{Ledger}
use Rattle.fj_queue.specs.declared.view.View.{View}
use Rattle.fj_queue.specs.Rule.{Level, Now, Fits, hand_count, SeatIs, Runs, Submits, CellIs, Ruled}

module _ {A : Type 0} where
  pub set_there : (l : List A) (i : ℕ) (a b : A) → get_elem? l i ≡ some b → get_elem? (set l i a) i ≡ some a
  set_there [] i a b e = absurd (some-ne-none b (sym e))
  set_there (x ∷ xs) zero a b e = refl
  set_there (x ∷ xs) (suc i) a b e = set_there xs i a b e

  pub at_once : (l : List A) (i : ℕ) (a b : A) → get_elem? l i ≡ some a → get_elem? l i ≡ some b → a ≡ b
  at_once l i a b e f = some-injective a b (sym e ∙ f)

module _ {E T : Type 0} where
  abbrev pub one_of : View E T → ℕ
  one_of v = if v.works then 1 else 0

  pub count_set : (vs : List (View E T)) (i : ℕ) (v w : View E T) → get_elem? vs i ≡ some v → hand_count (set vs i w) + one_of v ≡ hand_count vs + one_of w
  count_set [] i v w e = absurd (some-ne-none v (sym e))
  count_set (x ∷ xs) zero v w e = let same : one_of x ≡ one_of v = ap one_of (some-injective x v e) in omega arith
  count_set (x ∷ xs) (suc i) v w e = let more = count_set xs i v w e in omega arith

  pub count_snoc : (vs : List (View E T)) (w : View E T) → hand_count (vs ++ w ∷ []) ≡ hand_count vs + one_of w
  count_snoc [] w = omega arith
  count_snoc (x ∷ xs) w = let more = count_snoc xs w in omega arith

  pub count_same : (vs : List (View E T)) (i : ℕ) (v w : View E T) → get_elem? vs i ≡ some v → w.works ≡ v.works → hand_count (set vs i w) ≡ hand_count vs
  count_same vs i v w e works = let c = count_set vs i v w e in let same : one_of w ≡ one_of v = ap (λ b. if b then 1 else 0) works in omega arith

  -- what holds of the view of seat i still does after the seat id has moved on
  pub seat_after : (vs : List (View E T)) (id i : ℕ) (v w : View E T) (P Q : View E T → Type 0) → get_elem? vs id ≡ some v → (P v → Q w) → ((u : View E T) → P u → Q u) → SeatIs vs i P → SeatIs (set vs id w) i Q
  seat_after vs id i v w P Q at mine others was = dite (ℕ_discrete i id)
      (λ e. (w, subst (λ k. get_elem? (set vs id w) k ≡ some w) (sym e) (set_there vs id w v at), mine (subst P (at_once vs id was.0 v (subst (λ k. get_elem? vs k ≡ some was.0) e was.1) at) was.2)))
      (λ ne. (was.0, set_else vs id i w ne ∙ was.1, others was.0 was.2))

module _ {E J A S T R : Type 0} (m : Meaning E J A S T R) (key : Option (Agenda E T)) where
  abbrev pub Law : State (Option (Ledger E J A)) (View E T) → Type 0
  Law = Ruled m key

  -- another seat's view fits still: it does not hold the turn, it does not run what this one runs, and it is no submitter where this one is
  pub others_fit : (n n' : Now) (id : ℕ) → ((j : ℕ) (u : View E T) → j ≢ id → Fits key n j u → u.holds ≡ true → ⊥) → n'.sender ≡ n.sender
      → ((n'.prog ≡ n.prog) × (n'.runner ≡ n.runner)) ⊎ ((j k : ℕ) → j ≢ id → j ≡ n.runner → n.prog ≢ 2 * k + 1)
      → ((n'.subs ≡ n.subs) × (n'.tells ≡ n.tells)) ⊎ (n.sender ≡ id)
      → ((n'.stop ≡ n.stop) × (n'.prog ≡ n.prog)) ⊎ (n.stop ≡ 0)
      → (Level n → Level n') ⊎ (n.sender ≡ id)
      → (j : ℕ) (u : View E T) → j ≢ id → Fits key n j u → Fits key n' j u
  others_fit n n' id alone sender running sending halting level j u other f = record {
    plan = f.plan;
    holds = λ h. absurd (alone j u other f h);
    out = f.out;
    submissions = λ h. absurd (alone j u other f h);
    progress = λ h. absurd (alone j u other f h);
    tells = λ h. absurd (alone j u other f h);
    stop = λ h. absurd (alone j u other f h);
    stopped = λ z. let r = f.stopped z in ⊎_elim (λ same. (same.0 ∙ r.0, same.1 ∙ r.1)) (λ go. absurd (z (sym r.0 ∙ go))) halting;
    answered = λ s a. ⊎_elim (λ same. same (f.answered s a)) (λ mine. absurd (other ((f.sends s).0 ∙ mine))) level;
    runs = λ k e. let r = f.runs k e in ⊎_elim (λ same. (r.0 ∙ sym same.1, same.0 ∙ r.1, r.2)) (λ nobody. absurd (nobody j k other r.0 r.1)) running;
    sends = λ h. let r = f.sends h in ⊎_elim (λ same. (r.0 ∙ sym sender, same.0 ∙ r.1, same.1 ∙ r.2)) (λ mine. absurd (other (r.0 ∙ mine))) sending;
  }

  -- the seat id moves from the view v to w, and the words and the cell with it
  pub moved : (s : State (Option (Ledger E J A)) (View E T)) (r : Law s) (id : ℕ) (v w : View E T) (n' : Now) (cell' : maybe.Option (Option (Ledger E J A))) (words' : List ℕ) (homes' : List (maybe.Option (Option (Ledger E J A))))
      → get_elem? s.views id ≡ some v
      → words' ≡ n'.turn ∷ n'.subs ∷ n'.prog ∷ n'.tells ∷ n'.stop ∷ []
      → homes' ≡ cell' ∷ []
      → n'.sender ≡ r.now.sender
      → (w.sends ≡ v.sends) × (w.works ≡ v.works) × (w.hands ≡ v.hands)
      → Fits key n' id w
      → ((j : ℕ) (u : View E T) → j ≢ id → Fits key r.now j u → Fits key n' j u)
      → (n'.turn ≡ 0) ⊎ ((n'.holder ≡ id) × (w.holds ≡ true))
      → ((n'.prog ≡ r.now.prog) × (n'.runner ≡ r.now.runner) × (w.runs ≡ v.runs)) ⊎ (n'.prog % 2 ≡ 1 → (n'.runner ≡ id) × Runs w)
      → (n'.stop ≢ 0 → (n'.prog % 2 ≡ 0) × (0 < n'.prog))
      → ((n'.holder ≡ id) × (w.out ≡ true)) ⊎ CellIs m key n' cell'
      → Law record { words = words'; homes = homes'; views = set s.views id w }
  moved s r id v w n' cell' words' homes' at words homes sender same mine others held run no_job_behind home = let here : get_elem? (set s.views id w) id ≡ some w = set_there s.views id w v at in record {
    now = n';
    cell = cell';
    words = words;
    homes = homes;
    views = λ j u e. ⊎_elim (λ (t : (j ≡ id) × (w ≡ u)). subst (λ (z : ℕ × View E T). Fits key n' z.0 z.1) (λ i. (sym t.0 i, t.1 i)) mine)
        (λ (t : (j ≢ id) × (get_elem? s.views j ≡ some u)). others j u t.0 (r.views j u t.1)) (at_set s.views id j w u e);
    held = ⊎_elim (λ z. inl z) (λ t. inr (w, subst (λ k. get_elem? (set s.views id w) k ≡ some w) (sym t.0) here, t.1)) held;
    run = λ odd. ⊎_elim
        (λ t. subst (λ k. SeatIs (set s.views id w) k Runs) (sym t.1)
        (seat_after s.views id r.now.runner v w Runs Runs at (λ k. (k.0, t.2 ∙ k.1)) (λ u k. k) (r.run (subst (λ k. k % 2 ≡ 1) t.0 odd))))
        (λ f. let t = f odd in (w, subst (λ k. get_elem? (set s.views id w) k ≡ some w) (sym t.0) here, t.1)) run;
    no_job_behind = no_job_behind;
    home = ⊎_elim (λ t. inl (w, subst (λ k. get_elem? (set s.views id w) k ≡ some w) (sym t.0) here, t.1)) (λ t. inr t) home;
    submitter = let hands = hand_count s.views in let hands' = hand_count (set s.views id w) in let count : hands' ≡ hands = count_same s.views id v w at same.1 in
        subst (λ k. SeatIs (set s.views id w) k (Submits hands')) (sym sender)
        (seat_after s.views id r.now.sender v w (Submits hands) (Submits hands') at (λ t. (same.0 ∙ t.0, same.1 ∙ t.1, same.2 ∙ (t.2 ∙ sym count))) (λ u t. (t.0, t.1, t.2 ∙ sym count)) r.submitter);
  }
