-- How the runner and its slots hold what the execution over desks holds.
use Rattle.std.proofs.Common.{◌≡◌, ℕ, zero, suc, ◌+◌, ◌-◌, ◌<◌, ◌≤◌, ◌&&◌, Bool, true, false, List, [], ◌∷◌, ◌++◌, map, length, Option, Some, None, slice_get, set, get_or, refl, sym, ap, ◌∙◌, subst, inl, inr, arith}
use Rattle.std.specs.Prelude.{nat_lt, option_map, if◌then◌else◌, ◌==◌}
use Rattle.std.proofs.lemmas.Bool.{eqb-true, eq-eqb}
use Rattle.std.proofs.lemmas.Bool.Decides.{eqb_tells}
use Rattle.fj_bay.specs.Bay.{Bay}
use Rattle.fj_bay.specs.Jobs.{Job, Answer}
use Rattle.fj_bay.specs.Serving.{serve}
use Rattle.fj_slot.specs.Serving.{Meaning}
use Rattle.fj_slot.specs.Sound.{served_by, outcomes, outcome}
use Rattle.fj_slot.proofs.Serving.{served_by-append, outcomes-append, length-outcomes}
use Rattle.fj_world.specs.Plain.{PlainSlot}
use Rattle.fj_world.proofs.Places.{set_itself}
use Rattle.fj_meaning_jobs.specs.Core.{Pending, Connected}
use Rattle.fj_meaning_jobs.specs.Desks.{Desk, Outcome, Brought, brought_by, carried, log_at, log_length, most_slots}
use Rattle.fj_meaning_jobs.specs.Doing.{Desked}
use Rattle.fj_meaning_jobs.proofs.Apart.{Each, each_imp, each_map}
use Rattle.fj_meaning_turns.specs.Run.{Held, Stage, Run}
use Rattle.fj_meaning_turns.specs.Turns.{matched, bump, is_at, with_answer, told_of}
use Rattle.fj_meaning_turns.specs.Serving.{over_bays, desk_of, desks_of}
use Rattle.fj_meaning_turns.proofs.Slots.{same_some, and_true, get_mapped, each_set, map_set, map_get, get_set_here, get_set_other, length_set, length_mapped, found_inside, is_below, below_more}

-- what is known of a pending transfer: what its job brought, once so many jobs of its slot were told
abbrev pub answer_at : List Desk → List ℕ → Pending → Option Brought
answer_at desks told e = if nat_lt e.number (get_or told e.slot 0) then option_map brought_by (log_at (slice_get desks e.slot) e.number) else None

-- its job was submitted, and its answer stands in it once it was told
pub record IsKept (desks : List Desk) (told : List ℕ) (h : Held) : Type 0 where
  pub answer : h.answer ≡ answer_at desks told h.pending
  pub placed : h.pending.number < log_length (slice_get desks h.pending.slot)

pub record Ties {E J A : Type 0} (m : Meaning E J A Bay Job Answer) (r : Run) (qs : List (PlainSlot Bay Job)) (p : Desked) : Type 0 where
  pub core : r.core ≡ p.core
  pub desks : desks_of m qs ≡ p.desks
  pub sent : r.sent ≡ map (λ q. length q.jobs) qs
  pub told : r.told ≡ map (λ q. q.told) qs
  pub within : Each (λ q. q.told ≤ length q.jobs) qs
  pub slots : length qs ≡ most_slots
  -- each unit has a slot
  pub housed : Each (λ (u : Connected). u.slot < most_slots) r.core.units
  pub same : map (λ (h : Held). h.pending) r.book ≡ r.core.book
  pub kept : Each (IsKept p.desks r.told) r.book

abbrev pub more : PlainSlot Bay Job → PlainSlot Bay Job
more q = record { start = q.start; jobs = q.jobs; told = q.told + 1 }

abbrev pub given : PlainSlot Bay Job → Job → PlainSlot Bay Job
given q job = record { start = q.start; jobs = q.jobs ++ job ∷ []; told = q.told }

-- how many jobs were submitted and not told
abbrev pub untold : List (PlainSlot Bay Job) → ℕ
untold [] = 0
untold (q ∷ qs) = (length q.jobs - q.told) + untold qs

pub untold_less : (qs : List (PlainSlot Bay Job)) (k : ℕ) (q : PlainSlot Bay Job) → slice_get qs k ≡ Some q → q.told < length q.jobs → untold (set qs k (more q)) + 1 ≡ untold qs
untold_less [] zero q e h = cc
untold_less [] (suc k) q e h = cc
untold_less (x ∷ qs) zero q e h = let same : x ≡ q = same_some e in subst (λ z. (length q.jobs - (q.told + 1)) + untold qs + 1 ≡ (length z.jobs - z.told) + untold qs) (sym same) (omega (arith, h))
untold_less (x ∷ qs) (suc k) q e h = omega (arith, untold_less qs k q e h)

-- ---- the book

pub matched_same : (hs : List Held) → matched (map (λ (h : Held). h.pending) hs) hs ≡ hs
matched_same [] = refl
matched_same (h ∷ hs) = ap (λ l. h ∷ l) (matched_same hs)

pub matched_more : (hs : List Held) (e : Pending) → matched (map (λ (h : Held). h.pending) hs ++ e ∷ []) hs ≡ hs ++ record { pending = e; answer = None } ∷ []
matched_more [] e = refl
matched_more (h ∷ hs) e = ap (λ l. h ∷ l) (matched_more hs e)

pub pending_more : (hs : List Held) (e : Pending) → map (λ (h : Held). h.pending) (hs ++ record { pending = e; answer = None } ∷ []) ≡ map (λ (h : Held). h.pending) hs ++ e ∷ []
pending_more [] e = refl
pending_more (h ∷ hs) e = ap (λ l. h.pending ∷ l) (pending_more hs e)

pub answers_pending : (slot number : ℕ) (o : Brought) (hs : List Held) → map (λ (h : Held). h.pending) (with_answer slot number o hs) ≡ map (λ (h : Held). h.pending) hs
answers_pending slot number o [] = refl
answers_pending slot number o (h ∷ hs) = by (is_at slot number h.pending) (answers_pending slot number o hs)
  where
    by : (b : Bool) → map (λ (h : Held). h.pending) (with_answer slot number o hs) ≡ map (λ (h : Held). h.pending) hs
        → (if b then record { pending = h.pending; answer = Some o } else h).pending ∷ map (λ (h : Held). h.pending) (with_answer slot number o hs) ≡ h.pending ∷ map (λ (h : Held). h.pending) hs
    by true e = ap (λ l. h.pending ∷ l) e
    by false e = ap (λ l. h.pending ∷ l) e

module _ {E J A : Type 0} (m : Meaning E J A Bay Job Answer) where
  -- ---- what is found at a slot

  pub log_found : (r : Run) (qs : List (PlainSlot Bay Job)) (p : Desked) (slot number : ℕ) (q : PlainSlot Bay Job)
      → Ties m r qs p → slice_get qs slot ≡ Some q → log_at (slice_get p.desks slot) number ≡ outcome (over_bays m) q.start q.jobs number
  log_found r qs p slot number q t e =
      ap (λ ds. log_at (slice_get ds slot) number) (sym t.desks) ∙ ap (λ d. log_at d number) (map_get (desk_of m) qs slot q e)

  pub told_found : (r : Run) (qs : List (PlainSlot Bay Job)) (p : Desked) (slot : ℕ) (q : PlainSlot Bay Job)
      → Ties m r qs p → slice_get qs slot ≡ Some q → get_or r.told slot 0 ≡ q.told
  told_found r qs p slot q t e = ap (λ l. get_or l slot 0) t.told ∙ get_mapped (λ x. x.told) qs slot q e

  pub sent_found : (r : Run) (qs : List (PlainSlot Bay Job)) (p : Desked) (slot : ℕ) (q : PlainSlot Bay Job)
      → Ties m r qs p → slice_get qs slot ≡ Some q → get_or r.sent slot 0 ≡ length q.jobs
  sent_found r qs p slot q t e = ap (λ l. get_or l slot 0) t.sent ∙ get_mapped (λ x. length x.jobs) qs slot q e

  pub length_found : (r : Run) (qs : List (PlainSlot Bay Job)) (p : Desked) (slot : ℕ) (q : PlainSlot Bay Job)
      → Ties m r qs p → slice_get qs slot ≡ Some q → log_length (slice_get p.desks slot) ≡ length q.jobs
  length_found r qs p slot q t e =
      ap (λ ds. log_length (slice_get ds slot)) (sym t.desks) ∙ ap log_length (map_get (desk_of m) qs slot q e) ∙ length-outcomes (over_bays m) q.start q.jobs

  pub desk_given : (q : PlainSlot Bay Job) (job : Job) → desk_of m (given q job) ≡ carried (desk_of m q) job
  desk_given q job =
      ap (λ b. record { bay = b; log = outcomes (over_bays m) q.start (q.jobs ++ job ∷ []) }) (served_by-append (over_bays m) q.start q.jobs (job ∷ []))
      ∙ ap (λ l. record { bay = (serve (served_by (over_bays m) q.start q.jobs) job).engine; log = l }) (outcomes-append (over_bays m) q.start q.jobs (job ∷ []))

  -- ---- a job is told

  kept_told : (desks : List Desk) (told : List ℕ) (slot : ℕ) (o : Outcome) (h : Held) → slot < length told → log_at (slice_get desks slot) (get_or told slot 0) ≡ Some o
      → IsKept desks told h → (b : Bool) → is_at slot (get_or told slot 0) h.pending ≡ b → IsKept desks (bump told slot) (if b then record { pending = h.pending; answer = Some (brought_by o) } else h)
  kept_told desks told slot o h inside here k true is =
      let both = and_true (h.pending.slot == slot) (h.pending.number == get_or told slot 0) is in
      let at_slot : h.pending.slot ≡ slot = eqb-true h.pending.slot slot both.0 in
      let at_number : h.pending.number ≡ get_or told slot 0 = eqb-true h.pending.number (get_or told slot 0) both.1 in
      let now : get_or (bump told slot) slot 0 ≡ get_or told slot 0 + 1 = get_set_here told slot (get_or told slot 0 + 1) inside in
      let below : nat_lt (get_or told slot 0) (get_or (bump told slot) slot 0) ≡ true = is_below (get_or told slot 0) (get_or (bump told slot) slot 0) (omega (arith, now)) in
      record {
        answer = sym (
            ap (λ s. if nat_lt h.pending.number (get_or (bump told slot) s 0) then option_map brought_by (log_at (slice_get desks s) h.pending.number) else None) at_slot
            ∙ ap (λ n. if nat_lt n (get_or (bump told slot) slot 0) then option_map brought_by (log_at (slice_get desks slot) n) else None) at_number
            ∙ ap (λ b. if b then option_map brought_by (log_at (slice_get desks slot) (get_or told slot 0)) else None) below ∙ ap (option_map brought_by) here);
        placed = k.placed;
      }
  kept_told desks told slot o h inside here k false is = record {
    answer = k.answer ∙ sym (ap (λ b. if b then option_map brought_by (log_at (slice_get desks h.pending.slot) h.pending.number) else None) unchanged);
    placed = k.placed;
  }
    where
      other : h.pending.slot ≡ slot → h.pending.number ≡ get_or told slot 0 → ⊥
      other e f =
          let z : true ≡ false =
          sym (ap (λ b. b && (h.pending.number == get_or told slot 0)) (eq-eqb h.pending.slot slot e) ∙ eq-eqb h.pending.number (get_or told slot 0) f) ∙ is in cc

      unchanged : nat_lt h.pending.number (get_or (bump told slot) h.pending.slot 0) ≡ nat_lt h.pending.number (get_or told h.pending.slot 0)
      unchanged =
          elim (eqb_tells h.pending.slot slot) [
            | inl a ↦
                ap (λ s. nat_lt h.pending.number (get_or (bump told slot) s 0)) a.1
                ∙ ap (nat_lt h.pending.number) (get_set_here told slot (get_or told slot 0 + 1) inside)
                ∙ below_more h.pending.number (get_or told slot 0) (other a.1)
                ∙ sym (ap (λ s. nat_lt h.pending.number (get_or told s 0)) a.1)
            | inr a ↦ ap (nat_lt h.pending.number) (get_set_other told slot h.pending.slot (get_or told slot 0 + 1) a.1)
          ]

  pub settle_ties : (stage : Stage) (r : Run) (qs : List (PlainSlot Bay Job)) (p : Desked) (slot : ℕ) (q : PlainSlot Bay Job) (o : Outcome)
      → Ties m r qs p → slice_get qs slot ≡ Some q → outcome (over_bays m) q.start q.jobs q.told ≡ Some o → q.told < length q.jobs
      → Ties m (told_of (record r { stage = stage; due = slot }) o) (set qs slot (more q)) p
  settle_ties stage r qs p slot q o t e out below =
      let was : get_or r.told slot 0 ≡ q.told = told_found r qs p slot q t e in
      let here : log_at (slice_get p.desks slot) (get_or r.told slot 0) ≡ Some o = ap (log_at (slice_get p.desks slot)) was ∙ log_found r qs p slot q.told q t e ∙ out in
      let inside : slot < length r.told = subst (λ l. slot < length l) (sym t.told) (subst (λ n. slot < n) (sym (length_mapped (λ x. x.told) qs)) (found_inside qs slot q e)) in
      record {
        core = t.core;
        desks = map_set (desk_of m) qs slot (more q) ∙ set_itself (desks_of m qs) slot (desk_of m q) (map_get (desk_of m) qs slot q e) ∙ t.desks;
        sent = t.sent ∙ sym (map_set (λ x. length x.jobs) qs slot (more q) ∙ set_itself (map (λ x. length x.jobs) qs) slot (length q.jobs) (map_get (λ x. length x.jobs) qs slot q e));
        told = ap (λ l. set l slot (get_or l slot 0 + 1)) t.told ∙ ap (λ n. set (map (λ x. x.told) qs) slot (n + 1)) (get_mapped (λ x. x.told) qs slot q e) ∙ sym (map_set (λ x. x.told) qs slot (more q));
        within = each_set (λ x. x.told ≤ length x.jobs) qs slot (more q) t.within (omega (arith, below));
        slots = length_set qs slot (more q) ∙ t.slots;
        housed = t.housed;
        same = answers_pending slot (get_or r.told slot 0) (brought_by o) r.book ∙ t.same;
        kept = each_map (IsKept p.desks (bump r.told slot)) (λ (h : Held). if is_at slot (get_or r.told slot 0) h.pending then record { pending = h.pending; answer = Some (brought_by o) } else h) r.book
            (each_imp (IsKept p.desks r.told) (λ h. IsKept p.desks (bump r.told slot) (if is_at slot (get_or r.told slot 0) h.pending then record { pending = h.pending; answer = Some (brought_by o) } else h)) r.book
            (λ h k. kept_told p.desks r.told slot o h inside here k (is_at slot (get_or r.told slot 0) h.pending) refl) t.kept);
      }
