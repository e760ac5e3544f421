-- The job for which a statement waits that learns of a stop: it is at or behind the one that stopped.
use Rattle.std.proofs.Common.{◌≡◌, inl, inr, ℕ, ◌+◌, ◌<◌, ◌≤◌, true, List, [], ◌∷◌, ◌++◌, map, length, Option, Some, None, is_some, slice_get, get_or, refl, sym, ap, ◌∙◌, arith}
use Rattle.std.proofs.lemmas.List.{length-append, length-map}
use Rattle.std.proofs.lemmas.Option.{slice_get_within}
use Rattle.fj_statement.specs.declared.deck.Variable.{Variable}
use Rattle.fj_slot.specs.Ledger.{Ledger}
use Rattle.fj_slot.specs.Serving.{Meaning}
use Rattle.fj_slot.specs.Sound.{IsSound}
use Rattle.fj_slot.proofs.Serving.{length-outcomes}
use Rattle.fj_world.specs.declared.ask.Ask.TheVariants.{Settle, Finished}
use Rattle.fj_world.specs.Plain.{PlainSlot}
use Rattle.fj_world.proofs.Places.{set_same}
use Rattle.fj_bay.specs.Bay.{Bay}
use Rattle.fj_bay.specs.Jobs.{Job, Answer}
use Rattle.fj_meaning.specs.State.{Files}
use Rattle.fj_meaning.specs.Statement.{Stated}
use Rattle.fj_meaning_jobs.specs.Desks.{Desk, outcome_on, carried, carry_at, carry, log_length}
use Rattle.fj_meaning_jobs.specs.Desking.{fresh}
use Rattle.fj_meaning_turns.specs.Awaiting.{IsAwaited}
use Rattle.fj_meaning_turns.specs.Cutting.{StopAt, stands}
use Rattle.fj_meaning_turns.specs.Inside.{does, walked}
use Rattle.fj_meaning_turns.specs.Run.{Run}
use Rattle.fj_meaning_turns.specs.Serving.{over_bays, Shows, desk_of, desks_of}
use Rattle.fj_meaning_turns.proofs.Cutting.{each_entry}
use Rattle.fj_meaning_turns.proofs.Slots.{get_mapped, map_get}
use Rattle.fj_meaning_cut.specs.Stopping.{WasAwaited}

-- a job adds one to its slot's log at most
carry_one : (ds : List Desk) (slot : ℕ) (job : Job) → log_length (slice_get (carry ds slot job) slot) ≤ log_length (slice_get ds slot) + 1
carry_one ds slot job = by (slice_get ds slot) refl
  where
    by : (o : Option Desk) → slice_get ds slot ≡ o → log_length (slice_get (carry ds slot job) slot) ≤ log_length (slice_get ds slot) + 1
    by None e =
        let same : carry ds slot job ≡ ds = ap (λ o. carry_at o ds slot job) e in
        let long : log_length (slice_get (carry ds slot job) slot) ≡ log_length (slice_get ds slot) = ap (λ (x : List Desk). log_length (slice_get x slot)) same in
        omega (arith, long)
    by (Some d) e =
        let there : slice_get (carry ds slot job) slot ≡ Some (carried d job) = ap (λ o. slice_get (carry_at o ds slot job) slot) e ∙ set_same ds slot (carried d job) (slice_get_within ds slot d e) in
        let now : log_length (slice_get (carry ds slot job) slot) ≡ length (carried d job).log = ap log_length there in
        let longer : length (carried d job).log ≡ length d.log + 1 = length-append d.log (outcome_on d.bay job ∷ []) in
        let was : log_length (slice_get ds slot) ≡ length d.log = ap log_length e in
        omega (arith, now, longer, was)

-- a runner that awaits an answer has been told as much as its slots
pub told_slots : {E J A S : Type 0} (m : Meaning E J A Bay Job Answer) (s : Shows S) (variables : List Variable) (deck : List Stated) (files : Files) (n slot : ℕ) → (stands m s variables deck files n).hand ≡ Settle slot
    → (stands m s variables deck files n).script.told ≡ map (λ (q : PlainSlot Bay Job). q.told) (stands m s variables deck files n).slots
told_slots m s variables deck files n slot hand =
    elim (each_entry m s variables deck files n) [ inl over ↦ absurd (let z : Settle slot ≡ Finished = sym hand ∙ over in cc) | inr t ↦ t.inside.told ]

-- where its slot has stopped
pub stop_awaits : {E J A : Type 0} (m : Meaning E J A Bay Job Answer) (variables : List Variable) (deck : List Stated) (files : Files) (slot : ℕ) (run : Run) (qs : List (PlainSlot Bay Job)) (q : PlainSlot Bay Job) (l : Ledger E J A)
    → run.told ≡ map (λ (q : PlainSlot Bay Job). q.told) qs → slice_get qs slot ≡ Some q → IsSound (over_bays m) q.start q.jobs l → is_some l.halt ≡ true → l.done ≤ q.told
    → (stop : StopAt variables deck (fresh variables files) slot run (desks_of m qs)) → (job : ℕ) × (l.done ≤ job) × WasAwaited variables deck files (stop.index + 1) slot job
stop_awaits {E} {J} {A} m variables deck files slot run qs q l told at sound halted done stop = elim stop.learnt [
  | inl w ↦ (
    w.transfer.number,
    (let untold = w.untold in omega (arith, done, known, untold)),
    awaits w.transfer.number (inl (record { transfer = w.transfer; at = w.at; pending = w.pending; place = w.place; number_is = refl; tells = w.tells })),
  )
  | inr a ↦
      let desks : List Desk = (walked a.jobs stop.before.desks (does variables stop.statement stop.before)).0 in
      let more : log_length (slice_get (carry desks slot a.job) slot) ≤ log_length (slice_get desks slot) + 1 = carry_one desks slot a.job in
      let same : log_length (slice_get (desks_of m qs) slot) ≡ log_length (slice_get (carry desks slot a.job) slot) = ap (λ (ds : List Desk). log_length (slice_get ds slot)) a.desks_are in (
        log_length (slice_get desks slot),
        omega (arith, low, long, logged, same, more),
        awaits (log_length (slice_get desks slot)) (inr (record { jobs = a.jobs; job = a.job; core = run.core; onward = a.onward; awaited = a.awaited; number_is = refl })),
      )
]
  where
    awaits : (number : ℕ) → IsAwaited variables stop.statement stop.before slot number → WasAwaited variables deck files (stop.index + 1) slot number
    awaits number is = record { index = stop.index; earlier = omega arith; statement = stop.statement; before = stop.before; reached = stop.reached; awaited = is }

    known : get_or run.told slot 0 ≡ q.told
    known = ap (λ (l : List ℕ). get_or l slot 0) told ∙ get_mapped (λ (q : PlainSlot Bay Job). q.told) qs slot q at

    low : l.done < length l.jobs
    low = sound.counted.below halted

    long : length l.jobs ≡ length q.jobs
    long = sym (length-map l.jobs m.task) ∙ ap length sound.jobs ∙ length-map q.jobs Some

    logged : log_length (slice_get (desks_of m qs) slot) ≡ length q.jobs
    logged = ap log_length (map_get (desk_of m) qs slot q at) ∙ length-outcomes (over_bays m) q.start q.jobs
