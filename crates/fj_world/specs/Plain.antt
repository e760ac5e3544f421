-- A script served alone, over plain data.
use Rattle.std.specs.Prelude.{ℕ, zero, suc, ◌+◌, List, [], ◌∷◌, ◌++◌, length, Option, Some, None, slice_get, slice_set}
use Rattle.fj_slot.specs.Serving.{Meaning}
use Rattle.fj_slot.specs.Sound.{outcome}
use Rattle.fj_world.specs.declared.ask.Ask.{Ask}
use Rattle.fj_world.specs.declared.ask.Ask.TheVariants.{Submit, Settle, Finished}
use Rattle.fj_world.specs.Conduct.{Conduct}

-- a slot's starting engine, the jobs submitted to it and how many of them were told
pub record PlainSlot (P T : Type 0) : Type 0 where
  pub start : P
  pub jobs : List T
  pub told : ℕ

-- a script with the ask at hand, and its slots
pub record Plain {S T R : Type 0} (P : Type 0) (c : Conduct S T R) : Type 0 where
  pub script : c.State
  pub hand : Ask T
  pub slots : List (PlainSlot P T)

module _ {S G J A P T R : Type 0} (m : Meaning G J A P T R) (c : Conduct S T R) where
  -- the next ask is taken
  abbrev pub asked_next : c.State → List (PlainSlot P T) → Plain P c
  asked_next s slots = record { script = c.asked s; hand = c.ask s; slots = slots }

  -- a job is appended to its slot, and the script takes its number
  abbrev pub submitted_to : Option (PlainSlot P T) → ℕ → T → Plain P c → Plain P c
  submitted_to None at t p = p
  submitted_to (Some q) at t p =
      asked_next (c.took p.script (length q.jobs)) (slice_set p.slots at (record { start = q.start; jobs = q.jobs ++ t ∷ []; told = q.told }))

  -- the script is told that answer of its slot
  abbrev pub told_from : Option (T × R) → PlainSlot P T → ℕ → Plain P c → Plain P c
  told_from None q at p = p
  told_from (Some reply) q at p =
      asked_next (c.told p.script reply) (slice_set p.slots at (record { start = q.start; jobs = q.jobs; told = q.told + 1 }))

  abbrev pub settled_from : Option (PlainSlot P T) → ℕ → Plain P c → Plain P c
  settled_from None at p = p
  settled_from (Some q) at p = told_from (outcome m q.start q.jobs q.told) q at p

  -- the ask at hand is served: a Submit appends its job, a Settle is answered by the outcome of the first job not told
  abbrev pub served : Ask T → Plain P c → Plain P c
  served (Submit at t) p = submitted_to (slice_get p.slots at) at t p
  served (Settle at) p = settled_from (slice_get p.slots at) at p
  served Finished p = p

  abbrev pub next : Plain P c → Plain P c
  next p = served p.hand p

  -- after so many entries of the script served alone
  abbrev pub after : ℕ → Plain P c → Plain P c
  after zero p = p
  after (suc n) p = after n (next p)
