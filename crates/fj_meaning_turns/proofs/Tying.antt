-- Tells, a Submit and a change of the core keep the ties.
use Rattle.std.proofs.Common.{◌≡◌, ℕ, ◌+◌, ◌<◌, ◌≤◌, not, List, [], ◌∷◌, ◌++◌, map, length, Some, None, slice_get, set, get_or, refl, sym, ap, ◌∙◌, subst, arith}
use Rattle.std.specs.Prelude.{nat_lt, option_map, if◌then◌else◌, filter}
use Rattle.std.proofs.lemmas.List.{length-append}
use Rattle.fj_bay.specs.Bay.{Bay}
use Rattle.fj_bay.specs.Jobs.{Job, Answer}
use Rattle.fj_slot.specs.Serving.{Meaning}
use Rattle.fj_world.specs.Plain.{PlainSlot}
use Rattle.fj_world.proofs.Places.{set_itself}
use Rattle.fj_meaning.specs.State.{Entry}
use Rattle.fj_meaning.specs.Statement.{Stated}
use Rattle.fj_meaning.specs.Telling.{tells_id}
use Rattle.fj_meaning_jobs.specs.Core.{Core, Pending, Connected}
use Rattle.fj_meaning_jobs.specs.Desks.{Desk, brought_by, carry_at, carry, log_at, log_length, most_slots}
use Rattle.fj_meaning_jobs.specs.Doing.{Desked}
use Rattle.fj_meaning_jobs.specs.Desking.{told_core}
use Rattle.fj_meaning_jobs.proofs.Apart.{Each, each_filter, each_append, each_imp, filter_map}
use Rattle.fj_meaning_jobs.proofs.Carrying.{carry_later}
use Rattle.fj_meaning_turns.specs.Run.{Held, Stage, Run}
use Rattle.fj_meaning_turns.specs.Turns.{matched, with_core, bump, with_tells}
use Rattle.fj_meaning_turns.specs.Serving.{desk_of, desks_of}
use Rattle.fj_meaning_turns.proofs.Slots.{get_mapped, each_at, each_set, map_set, map_get, length_set, not_below}
use Rattle.fj_meaning_turns.proofs.Ties.{IsKept, Ties, given, matched_same, matched_more, pending_more, desk_given}

pub kept_carried : (desks : List Desk) (told : List ℕ) (slot : ℕ) (job : Job) (h : Held) → IsKept desks told h → IsKept (carry desks slot job) told h
kept_carried desks told slot job h k =
    let later = carry_later desks slot job in
    record {
      answer = k.answer ∙ ap (λ l. if nat_lt h.pending.number (get_or told h.pending.slot 0) then option_map brought_by l else None) (sym (later.keeps h.pending.slot h.pending.number k.placed));
      placed = later.grows h.pending.slot h.pending.number k.placed;
    }

module _ {E J A : Type 0} (m : Meaning E J A Bay Job Answer) where
  pub carry_found : (r : Run) (qs : List (PlainSlot Bay Job)) (p : Desked) (slot : ℕ) (q : PlainSlot Bay Job) (job : Job)
      → Ties m r qs p → slice_get qs slot ≡ Some q → desks_of m (set qs slot (given q job)) ≡ carry p.desks slot job
  carry_found r qs p slot q job t e =
      map_set (desk_of m) qs slot (given q job)
      ∙ ap (λ d. set (desks_of m qs) slot d) (desk_given m q job)
      ∙ sym (ap (λ d. carry_at d (desks_of m qs) slot job) (map_get (desk_of m) qs slot q e))
      ∙ ap (λ ds. carry ds slot job) t.desks

  -- one job more
  pub submit_ties : (stage : Stage) (r : Run) (qs : List (PlainSlot Bay Job)) (p : Desked) (slot : ℕ) (q : PlainSlot Bay Job) (job : Job)
      → Ties m r qs p → slice_get qs slot ≡ Some q
      → Ties m (record r { sent = bump r.sent slot; stage = stage }) (set qs slot (given q job)) (record { core = p.core; desks = carry p.desks slot job })
  submit_ties stage r qs p slot q job t e =
      let long : length (q.jobs ++ job ∷ []) ≡ length q.jobs + 1 = length-append q.jobs (job ∷ []) in
      record {
        core = t.core;
        desks = carry_found r qs p slot q job t e;
        sent = ap (λ l. set l slot (get_or l slot 0 + 1)) t.sent
            ∙ ap (λ n. set (map (λ x. length x.jobs) qs) slot n) (ap (λ n. n + 1) (get_mapped (λ x. length x.jobs) qs slot q e) ∙ sym long)
            ∙ sym (map_set (λ x. length x.jobs) qs slot (given q job));
        told = t.told ∙ sym (map_set (λ x. x.told) qs slot (given q job) ∙ set_itself (map (λ x. x.told) qs) slot q.told (map_get (λ x. x.told) qs slot q e));
        within = each_set (λ x. x.told ≤ length x.jobs) qs slot (given q job) t.within (omega (arith, each_at (λ x. x.told ≤ length x.jobs) qs slot q t.within e, long));
        slots = length_set qs slot (given q job) ∙ t.slots;
        housed = t.housed;
        same = t.same;
        kept = each_imp (IsKept p.desks r.told) (IsKept (carry p.desks slot job) r.told) r.book (λ h k. kept_carried p.desks r.told slot job h k) t.kept;
      }

  -- another core, with the same pending transfers
  pub core_ties : (r : Run) (qs : List (PlainSlot Bay Job)) (p : Desked) (core : Core)
      → Ties m r qs p → core.book ≡ r.core.book → Each (λ (u : Connected). u.slot < most_slots) core.units
      → Ties m (with_core core r) qs (record { core = core; desks = p.desks })
  core_ties r qs p core t book units =
      let whole : matched core.book r.book ≡ r.book = ap (λ l. matched l r.book) (book ∙ sym t.same) ∙ matched_same r.book in
      record {
        core = refl;
        desks = t.desks;
        sent = t.sent;
        told = t.told;
        within = t.within;
        slots = t.slots;
        housed = units;
        same = ap (λ hs. map (λ (h : Held). h.pending) hs) whole ∙ t.same ∙ sym book;
        kept = subst (λ hs. Each (IsKept p.desks r.told) hs) (sym whole) t.kept;
      }

  -- another core, with one pending transfer more, whose job is not told
  pub pending_ties : (r : Run) (qs : List (PlainSlot Bay Job)) (p : Desked) (core : Core) (e : Pending)
      → Ties m r qs p → core.book ≡ r.core.book ++ e ∷ [] → Each (λ (u : Connected). u.slot < most_slots) core.units
      → get_or r.told e.slot 0 ≤ e.number → e.number < log_length (slice_get p.desks e.slot)
      → Ties m (with_core core r) qs (record { core = core; desks = p.desks })
  pending_ties r qs p core e t book units untold placed =
      let held : Held = record { pending = e; answer = None } in
      let whole : matched core.book r.book ≡ r.book ++ held ∷ [] = ap (λ l. matched l r.book) (book ∙ ap (λ l. l ++ e ∷ []) (sym t.same)) ∙ matched_more r.book e in
      record {
        core = refl;
        desks = t.desks;
        sent = t.sent;
        told = t.told;
        within = t.within;
        slots = t.slots;
        housed = units;
        same = ap (λ hs. map (λ (h : Held). h.pending) hs) whole ∙ pending_more r.book e ∙ ap (λ l. l ++ e ∷ []) t.same ∙ sym book;
        kept = subst (λ hs. Each (IsKept p.desks r.told) hs) (sym whole)
            (each_append (IsKept p.desks r.told) r.book (held ∷ []) t.kept
            (record { answer = sym (ap (λ b. if b then option_map brought_by (log_at (slice_get p.desks e.slot) e.number) else None) (not_below e.number (get_or r.told e.slot 0) untold)); placed = placed }, tt));
      }

  -- the tells
  pub tell_ties : (st : Stated) (told : List Entry) (r : Run) (qs : List (PlainSlot Bay Job)) (p : Desked)
      → Ties m r qs p → Ties m (with_tells st told r) qs (record { core = told_core r.variables st.0.line told p.core; desks = p.desks })
  tell_ties st told r qs p t = record {
    core = ap (told_core r.variables st.0.line told) t.core;
    desks = t.desks;
    sent = t.sent;
    told = t.told;
    within = t.within;
    slots = t.slots;
    housed = t.housed;
    same = sym (filter_map (λ (h : Held). h.pending) (λ (e : Pending). not (tells_id told e.id)) r.book) ∙ ap (filter (λ (e : Pending). not (tells_id told e.id))) t.same;
    kept = each_filter (IsKept p.desks r.told) (λ (h : Held). not (tells_id told h.pending.id)) r.book t.kept;
  }
