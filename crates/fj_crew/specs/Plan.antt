-- The plans of a script's queues.
use Rattle.std.specs.Prelude.{◌≡◌, ℕ, ◌+◌, ◌≤◌, List, [], ◌∷◌, ◌++◌, length, map, Option, Some, None, slice_get, option_map}
use Rattle.fj_slot.specs.Serving.{Meaning}
use Rattle.fj_slot.specs.Ledger.{Ledger}
use Rattle.fj_slot.specs.Sound.{IsSound}
use Rattle.fj_world.specs.Conduct.{Conduct}
use Rattle.fj_world.specs.Rack.{Rack}
use Rattle.fj_world.specs.Plain.{Plain, PlainSlot, asked_next, after}
use Rattle.fj_queue.specs.declared.view.Agenda.{Agenda}
use Rattle.fj_queue.specs.declared.seats.SubmitterOf.{SubmitterOf}
use Rattle.fj_queue.specs.Knows.{knows}
use Rattle.fj_queue.specs.Tokens.{Begins, IsLast}

-- both, where both are there
abbrev pub with_both : {X Y Z : Type 0} → (X → Y → Z) → Option X → Option Y → Option Z
with_both f (Some x) (Some y) = Some (f x y)
with_both f None y = None
with_both f (Some x) None = None

module _ {G J A P T R : Type 0} (m : Meaning G J A P T R) where
  -- jobs and slots as plain data, where all of them tell
  abbrev pub told_jobs : List J → Option (List T)
  told_jobs [] = Some []
  told_jobs (j ∷ js) = with_both (λ t ts. t ∷ ts) (m.task j) (told_jobs js)

  abbrev pub told_slot : Ledger G J A → Option (PlainSlot P T)
  told_slot l = with_both (λ s ts. record { start = s; jobs = ts; told = l.told }) (m.state l.start) (told_jobs l.jobs)

  abbrev pub told_slots : List (Ledger G J A) → Option (List (PlainSlot P T))
  told_slots [] = Some []
  told_slots (l ∷ ls) = with_both (λ q qs. q ∷ qs) (told_slot l) (told_slots ls)

  -- each slot is sound for its own jobs, where these and its engine tell
  abbrev pub AllSound : List (Ledger G J A) → Type 0
  AllSound slots = (k : ℕ) (l : Ledger G J A) → slice_get slots k ≡ Some l → (s : P) (ts : List T) → m.state l.start ≡ Some s → map m.task l.jobs ≡ map Some ts → IsSound m s ts l

module _ {S G J A P T R : Type 0} (m : Meaning G J A P T R) (c : Conduct S T R) where
  -- the script alone on these slots, where all of them tell
  abbrev pub begun : S → List (Ledger G J A) → Option (Plain P c)
  begun script slots = with_both (λ s qs. asked_next m c s qs) (c.state script) (told_slots m slots)

  abbrev pub agenda_with : Option (List T) → Ledger G J A → Agenda G T
  agenda_with jobs l = record { start = l.start; jobs = jobs }

  abbrev pub jobs_in : Option (Plain P c) → ℕ → ℕ → Option (List T)
  jobs_in None n k = None
  jobs_in (Some p) n k = option_map (λ q. q.jobs) (slice_get (after m c n p).slots k)

  -- The plan of a slot: its starting engine; and its jobs followed by those that the script, alone, submits to it, where all tell.
  abbrev pub plan_at : S → List (Ledger G J A) → ℕ → Option (Agenda G T)
  plan_at script slots k = option_map (agenda_with (jobs_in (begun script slots) (c.left script) k)) (slice_get slots k)

module _ {C G T : Type 0} where
  -- the last ones of these slots were taken out, and each has its queue
  pub record Opened {J A : Type 0} (plans : ℕ → Option (Agenda G T)) (slots rest : List (Ledger G J A)) (seats : List (SubmitterOf C G T)) : Type 0 where
    pub taken : List (Ledger G J A)
    pub is : slots ≡ rest ++ taken
    pub same : length seats ≡ length taken
    pub each : (k : ℕ) (l : Ledger G J A) (s : SubmitterOf C G T) → slice_get taken k ≡ Some l → slice_get seats k ≡ Some s → Begins (plans (length rest + k)) l (knows s)

  -- the slots of these submitters were put behind the first ones
  pub record Shut {J A P R : Type 0} (m : Meaning G J A P T R) (front : List (Ledger G J A)) (seats : List (SubmitterOf C G T)) (slots : List (Ledger G J A)) : Type 0 where
    pub closed : List (Ledger G J A)
    pub is : slots ≡ front ++ closed
    pub same : length closed ≡ length seats
    pub each : (k : ℕ) (s : SubmitterOf C G T) (l : Ledger G J A) → slice_get seats k ≡ Some s → slice_get closed k ≡ Some l → IsLast m (knows s) l

  abbrev pub NoHands : List (SubmitterOf C G T) → Type 0
  NoHands seats = (k : ℕ) (s : SubmitterOf C G T) → slice_get seats k ≡ Some s → (knows s).hands ≡ 0

  -- the slots of the first ones of these submitters were put back
  pub record ShutSoFar {J A P R : Type 0} (m : Meaning G J A P T R) (front : List (Ledger G J A)) (all seats : List (SubmitterOf C G T)) (slots : List (Ledger G J A)) : Type 0 where
    pub done : List (SubmitterOf C G T)
    pub is : all ≡ done ++ seats
    pub shut : Shut m front done slots

-- each slot has its starting engine, and no fewer jobs and tells than before; there are as many slots, with as much room
pub record NumbersGoOn {G J A : Type 0} (old new : Rack G J A) : Type 0 where
  pub long : length new.slots ≡ length old.slots
  pub spare : new.spare ≡ old.spare
  pub each : (k : ℕ) (l l' : Ledger G J A) → slice_get old.slots k ≡ Some l → slice_get new.slots k ≡ Some l' → (l'.start ≡ l.start) × (length l.jobs ≤ length l'.jobs) × (l.told ≤ l'.told)

-- each slot has its starting engine, and as many jobs and tells as before; there are as many slots, with as much room
pub record SameNumbers {G J A : Type 0} (old new : Rack G J A) : Type 0 where
  pub long : length new.slots ≡ length old.slots
  pub spare : new.spare ≡ old.spare
  pub each : (k : ℕ) (l l' : Ledger G J A) → slice_get old.slots k ≡ Some l → slice_get new.slots k ≡ Some l' → (l'.start ≡ l.start) × (length l'.jobs ≡ length l.jobs) × (l'.told ≡ l.told)
